-- What an order on words must satisfy. Everything about replacing, completing and checking is proved from this record, once for all orders.
-- Nothing here asks for a bound on letters or on lengths.
use Prim.Native.Nat.{Ordering}
use Rattle.std.specs.Prelude.{◌≡◌, ◌++◌, cond, eqb}
use mathlib.Core.WellFounded.{WellFounded}
use Rattle.words.specs.Word.{Word}
use Rattle.words.specs.Compare.{swap}
use Rattle.words.specs.Shortlex.{shortlex}
use Rattle.words.specs.Kachinuki.{kachinuki}
use Rattle.words.specs.declared.Order.{Order}

-- what the answers o for u and v and p for v and w say of the answer q for u and w: nothing where one goes up and one goes down
abbrev pub Composes : Ordering → Ordering → Ordering → Type 0
Composes Ordering.lt Ordering.lt q = q ≡ Ordering.lt
Composes Ordering.lt Ordering.eq q = q ≡ Ordering.lt
Composes Ordering.lt Ordering.gt q = Unit {0}
Composes Ordering.eq p q = q ≡ p
Composes Ordering.gt Ordering.lt q = Unit {0}
Composes Ordering.gt Ordering.eq q = q ≡ Ordering.gt
Composes Ordering.gt Ordering.gt q = q ≡ Ordering.gt

-- u is below v
abbrev pub Below : (Word → Word → Ordering) → Word → Word → Type 0
Below cmp u v = cmp u v ≡ Ordering.lt

pub record IsOrder (cmp : Word → Word → Ordering) : Type 0 where
  -- exchanging the words turns the answer round
  pub flips : (u v : Word) → cmp v u ≡ swap (cmp u v)
  -- transitivity in all its mixed cases
  pub composes : (u v w : Word) → Composes (cmp u v) (cmp v w) (cmp u w)
  -- only a word is equal to itself: the order is total
  pub same : (u v : Word) → cmp u v ≡ Ordering.eq → u ≡ v
  -- the replacement property
  pub within : (x y u v : Word) → Below cmp u v → Below cmp (x ++ (u ++ y)) (x ++ (v ++ y))
  -- no word starts an endless descent
  pub well_founded : WellFounded (Below cmp)

-- the order that a header's code names: 0 shortlex, 1 kachinuki
unfoldable pub order_by : Order → Word → Word → Ordering
order_by o u v = cond (eqb o.code 0) (shortlex u v) (kachinuki u v)

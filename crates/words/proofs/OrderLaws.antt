-- What every order has, from the record alone. A word equals itself because exchanging it with itself turns its answer round; a word below
-- one of its parts would start an endless descent, since putting the same words around both keeps one below the other.
use Prim.Native.Nat.{Ordering}
use mathlib.Core.Path.{◌≡◌, refl}
use mathlib.Core.List.{[], ◌++◌, append-nil}
use mathlib.Core.Logic.{◌⊎◌, inl, inr}
use mathlib.Core.WellFounded.Acc
use Rattle.words.specs.Word.{Word}
use Rattle.words.specs.Order.{Below, IsOrder}
use Rattle.words.proofs.CompareLaws.{Orders, self_eq, eq_not_lt}

module _ {cmp : Word → Word → Ordering} (O : IsOrder cmp) where
  pub orders : Orders cmp
  orders = record { flips = O.flips; composes = O.composes }

  pub equal_self : (u : Word) → cmp u u ≡ Ordering.eq
  equal_self u = self_eq orders u

  pub irreflexive : (u : Word) → Below cmp u u → ⊥
  irreflexive u h = eq_not_lt (rw (equal_self u) at h)

  pub transitive : (u v w : Word) → Below cmp u v → Below cmp v w → Below cmp u w
  transitive u v w h k = rw (h, k) at (O.composes u v w)

  -- greater with the words exchanged
  pub above : (u v : Word) → cmp u v ≡ Ordering.gt → Below cmp v u
  above u v h = rw (O.flips u v, h)

  pub total : (u v : Word) → Below cmp u v ⊎ ((u ≡ v) ⊎ Below cmp v u)
  total u v = go (cmp u v) refl
    where
      go : (o : Ordering) → cmp u v ≡ o → Below cmp u v ⊎ ((u ≡ v) ⊎ Below cmp v u)
      go Ordering.lt e = inl e
      go Ordering.eq e = inr (inl (O.same u v e))
      go Ordering.gt e = inr (inr (above u v e))

  -- a word is never below a part of itself
  pub part_least : (x y l : Word) → Below cmp (x ++ (l ++ y)) l → ⊥
  part_least x y l =
      Acc.ndrec {C = λ l. Below cmp (x ++ (l ++ y)) l → ⊥}
      (λ l _ part h. part (x ++ (l ++ y)) h (O.within x y (x ++ (l ++ y)) l h))
      (O.well_founded.apply l)

  -- the empty word is least
  pub nil_least : (u : Word) → Below cmp u [] → ⊥
  nil_least u h = part_least u [] [] (rw append-nil h)

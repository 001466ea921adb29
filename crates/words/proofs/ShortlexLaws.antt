-- An order by totals: the smaller total is smaller, at equal totals the first differing letter decides. Totals add up, so words around both
-- change nothing, and at equal totals neither word begins the other. Downwards the total falls, or it stays and bounds the length; and the
-- words of at most some length have no endless descent by the first differing letter: by the first letters, and then by the tails.
use Prim.Native.Nat.{ℕ, zero, suc, ◌+◌, ◌≤◌, ◌<◌, compare, Ordering}
use mathlib.Core.Path.{◌≡◌, refl, ap, ◌∙◌}
use mathlib.Core.List.{[], ◌∷◌, ◌++◌}
use mathlib.Core.Logic.{⊎_elim}
use mathlib.Core.WellFounded.Acc
use mathlib.Core.WellFounded.{Acc}
use native.Mathlib.Omega.{arith}
use lib.ListN.{length}
use Rattle.words.specs.Word.{Word}
use Rattle.words.specs.Compare.{then, lex}
use Rattle.words.specs.Order.{Below, IsOrder}
use Rattle.words.specs.Shortlex.{by_total, shortlex}
use Rattle.words.proofs.CompareLaws.{Orders, Stands, lower, level, upper, stands, compare_lt, compare_eq, compare_gt, compare_self, below_of}
use Rattle.words.proofs.CompareLaws.{equal_of, eq_not_lt, gt_not_lt, both_eq, either_lt, then_orders, by_orders, compare_orders}
use Rattle.words.proofs.CompareLaws.{compare_well_founded, lex_orders, lex_same}

-- the same summands around two numbers
compare_around : (j a b k : ℕ) → compare (j + (a + k)) (j + (b + k)) ≡ compare a b
compare_around j a b k = go (compare a b) (stands a b)
  where
    go : (o : Ordering) → Stands a b o → compare (j + (a + k)) (j + (b + k)) ≡ o
    go Ordering.lt (lower h) = compare_lt (j + (a + k)) (j + (b + k)) (omega arith)
    go Ordering.eq (level h) = compare_eq (j + (a + k)) (j + (b + k)) (omega arith)
    go Ordering.gt (upper h) = compare_gt (j + (a + k)) (j + (b + k)) (omega arith)

lex_front : (x u v : Word) → lex (x ++ u) (x ++ v) ≡ lex u v
lex_front [] u v = refl
lex_front (a ∷ x) u v = rw (compare_self a) (lex_front x u v)

-- below by the first differing letter, among words of at most k letters
Short : ℕ → Word → Word → Type 0
Short k u v = (length u ≤ k) × (lex u v ≡ Ordering.lt)

short_nil : (k : ℕ) → Acc (Short k) []
unfolding Short
short_nil k = Acc.intro [] (λ u l. absurd (bare u l.1))
  where
    bare : (u : Word) → lex u [] ≡ Ordering.lt → ⊥
    bare [] l = eq_not_lt l
    bare (a ∷ u) l = gt_not_lt l

short_acc : (k : ℕ) (v : Word) → length v ≤ k → Acc (Short k) v
unfolding Short
short_acc zero [] h = short_nil zero
short_acc zero (a ∷ v) h = absurd (omega arith)
short_acc (suc k) [] h = short_nil (suc k)
short_acc (suc k) (a ∷ v) h =
    Acc.ndrec {C = λ a. (v : Word) → length v ≤ k → Acc (Short (suc k)) (a ∷ v)}
    (λ a _ firsts v h.
    Acc.ndrec {C = λ v. Acc (Short (suc k)) (a ∷ v)} (λ v _ tails. Acc.intro (a ∷ v) (step a firsts v tails)) (short_acc k v h))
    (compare_well_founded.apply a)
    v
    (omega arith)
  where
    step : (a : ℕ) → ((b : ℕ) → compare b a ≡ Ordering.lt → (u : Word) → length u ≤ k → Acc (Short (suc k)) (b ∷ u)) → (v : Word)
        → ((u : Word) → Short k u v → Acc (Short (suc k)) (a ∷ u)) → (z : Word) → Short (suc k) z (a ∷ v) → Acc (Short (suc k)) z
    step a firsts v tails [] l = short_nil (suc k)
    step a firsts v tails (b ∷ u) l =
        ⊎_elim
        (λ h. firsts b h u (omega arith))
        (λ h. rw (equal_of b a h.0) (tails u (omega arith, h.1)))
        (either_lt (compare b a) (lex u v) l.1)

-- a total: every letter a counts for w a, at least one
module _ (m : Word → ℕ) (w : ℕ → ℕ) (m_nil : m [] ≡ 0) (m-cons : (a : ℕ) (u : Word) → m (a ∷ u) ≡ w a + m u) (pos : (a : ℕ) → 1 ≤ w a) where
  total_append : (u v : Word) → m (u ++ v) ≡ m u + m v
  total_append [] v = rw m_nil (omega arith)
  total_append (a ∷ u) v = omega (arith, m-cons a (u ++ v), m-cons a u, total_append u v)

  length_total : (u : Word) → length u ≤ m u
  length_total [] = omega arith
  length_total (a ∷ u) = omega (arith, m-cons a u, pos a, length_total u)

  total_around : (x y u v : Word) → compare (m (x ++ (u ++ y))) (m (x ++ (v ++ y))) ≡ compare (m u) (m v)
  total_around x y u v =
      rw (total_append x (u ++ y), total_append x (v ++ y), total_append u y, total_append v y) (compare_around (m x) (m u) (m v) (m y))

  -- at equal totals neither begins the other, so a word behind both changes nothing
  lex_behind : (u v y : Word) → m u ≡ m v → lex u v ≡ Ordering.lt → lex (u ++ y) (v ++ y) ≡ Ordering.lt
  lex_behind [] [] y e l = absurd (eq_not_lt l)
  lex_behind [] (b ∷ v) y e l = absurd (omega (arith, m-cons b v, pos b, m_nil))
  lex_behind (a ∷ u) [] y e l = absurd (gt_not_lt l)
  lex_behind (a ∷ u) (b ∷ v) y e l = go (compare a b) (stands a b) (λ e l. lex_behind u v y e l) l
    where
      go : (o : Ordering) → Stands a b o → (m u ≡ m v → lex u v ≡ Ordering.lt → lex (u ++ y) (v ++ y) ≡ Ordering.lt)
          → then o (lex u v) ≡ Ordering.lt → then o (lex (u ++ y) (v ++ y)) ≡ Ordering.lt
      go Ordering.lt (lower h) f l = refl
      go Ordering.eq (level h) f l = f (omega (arith, m-cons a u, m-cons b v, ap w h)) l
      go Ordering.gt (upper h) f l = absurd (gt_not_lt l)

  total_acc : (k : ℕ) → ((u : Word) → m u < k → Acc (Below (by_total m)) u) → (u : Word) → m u ≡ k → Acc (Below (by_total m)) u
  unfolding Short
  total_acc k low u e =
      Acc.ndrec {C = λ u. m u ≡ k → Acc (Below (by_total m)) u}
      (λ u _ short e. Acc.intro u (λ z l. ⊎_elim
      (λ h. low z (omega (arith, below_of (m z) (m u) h)))
      (λ h. short z (omega (arith, equal_of (m z) (m u) h.0, length_total z), h.1) (equal_of (m z) (m u) h.0 ∙ e))
      (either_lt (compare (m z) (m u)) (lex z u) l)))
      (short_acc k u (omega (arith, length_total u)))
      e

  below_acc : (k : ℕ) (u : Word) → m u < k → Acc (Below (by_total m)) u
  below_acc zero u h = absurd (omega arith)
  below_acc (suc k) u h = total_acc (m u) (λ z l. below_acc k z (omega arith)) u refl

  pub by_total_order : IsOrder (by_total m)
  by_total_order =
      record {
        flips = Both.flips;
        composes = Both.composes;
        same = λ u v e. lex_same u v (both_eq (compare (m u) (m v)) (lex u v) e).1;
        within = around;
        well_founded = record { apply = λ u. below_acc (suc (m u)) u (omega arith) };
      }
    where
      Both : Orders (by_total m)
      Both = then_orders (by_orders m compare_orders) lex_orders

      around : (x y u v : Word) → Below (by_total m) u v → Below (by_total m) (x ++ (u ++ y)) (x ++ (v ++ y))
      around x y u v l =
          rw (total_around x y u v, lex_front x (u ++ y) (v ++ y))
          (⊎_elim
          (λ h. rw h)
          (λ h. rw h.0 (lex_behind u v y (equal_of (m u) (m v) h.0) h.1))
          (either_lt (compare (m u) (m v)) (lex u v) l))

pub shortlex_order : IsOrder shortlex
unfolding shortlex
shortlex_order = by_total_order length (λ a. 1) refl (λ a u. omega arith) (λ a. omega arith)

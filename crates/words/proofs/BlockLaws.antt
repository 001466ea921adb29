-- Kachinuki over the letters below a bound. All by induction on the bound: a first letter that is the greatest ends its word's first block, a
-- smaller one lengthens it, and every other block stays; so the first letters decide (Specification, "Orders"). A word of smaller letters is one block.
use Prim.Native.Nat.compare
use Prim.Native.Nat.{Ordering}
use Prim.Native.Nat.{ℕ, zero, suc, ◌≤◌, ◌<◌, compare}
use mathlib.Core.Path.{◌≡◌, refl, sym, ap, ◌∙◌}
use mathlib.Core.List.{List, [], ◌∷◌}
use mathlib.Core.Bool.{Bool, true, false, cond}
use mathlib.Core.Logic.{⊎_elim}
use mathlib.Core.WellFounded.Acc
use mathlib.Core.WellFounded.InvImage
use mathlib.Core.WellFounded.Subrelation
use mathlib.Core.WellFounded.{WellFounded}
use native.Mathlib.Nat.{eq-or-lt_of_le, le_of_suc-le-suc}
use native.Mathlib.Omega.{arith}
use lib.Dec.{eqb}
use lib.ListN.{length}
use Rattle.words.specs.Word.{Word}
use Rattle.words.specs.Compare.{then, colex}
use Rattle.words.specs.Order.{Below}
use Rattle.words.specs.Kachinuki.{count, first_block, later_blocks, blocks, kachinuki_below, letters_of}
use Rattle.words.proofs.CompareLaws.{Orders, compare_lt, compare_eq, eq_not_lt, then_assoc, then_eq, swap_then, then_orders, by_orders}
use Rattle.words.proofs.CompareLaws.{compare_orders, self_eq, colex_orders, colex_length, colex_well_founded}

pub below_orders : (n : ℕ) → Orders (kachinuki_below n)
below_orders zero = record { flips = λ u v. refl; composes = λ u v w. refl }
below_orders (suc n) = then_orders (by_orders (count n) compare_orders) (by_orders (blocks n) (colex_orders (below_orders n)))

-- the empty word is below or equal to any: no more occurrences, no more blocks behind, no greater first block
none_low : (c : ℕ) → then (compare 0 c) Ordering.lt ≡ Ordering.lt
none_low zero = refl
none_low (suc c) = rw compare.zero-suc

bare_low : (n : ℕ) (bs : List Word) → then (colex (kachinuki_below n) [] bs) Ordering.lt ≡ Ordering.lt
bare_low n [] = refl
bare_low n (b ∷ bs) = refl

nil_low : (n : ℕ) (u : Word) → then (kachinuki_below n [] u) Ordering.lt ≡ Ordering.lt
nil_low zero u = refl
nil_low (suc n) u = rw (← then_assoc, ← then_assoc, nil_low n (first_block n u), bare_low n (later_blocks n u), none_low (count n u))

-- the four rules of the first letters
pub nil_below : (n r : ℕ) (u : Word) → r < n → kachinuki_below n [] (r ∷ u) ≡ Ordering.lt
nil_below zero r u h = absurd (omega arith)
nil_below (suc n) r u h = ⊎_elim
    (λ e. rw (compare_eq r n e, compare.zero-suc))
    (λ l. rw (compare_lt r n l, nil_below n r (first_block n u) l, bare_low n (later_blocks n u), none_low (count n u)))
    (eq-or-lt_of_le (le_of_suc-le-suc h))

pub equal_letters : (n a : ℕ) (u v : Word) → a < n → kachinuki_below n (a ∷ u) (a ∷ v) ≡ kachinuki_below n u v
equal_letters zero a u v h = refl
equal_letters (suc n) a u v h = ⊎_elim
    (λ e. rw (compare_eq a n e, compare.suc-suc, self_eq (below_orders n) [], then_eq))
    (λ l. rw (compare_lt a n l, equal_letters n a (first_block n u) (first_block n v) l))
    (eq-or-lt_of_le (le_of_suc-le-suc h))

pub greater_letter : (n s r : ℕ) (t u : Word) → r < s → s < n → kachinuki_below n (s ∷ t) (r ∷ u) ≡ then (kachinuki_below n (s ∷ t) u) Ordering.lt
greater_letter zero s r t u h k = absurd (omega arith)
greater_letter (suc n) s r t u h k =
    let l : r < n = omega arith in
    let s' = first_block n (s ∷ t) in
    let first : kachinuki_below n s' (r ∷ first_block n u) ≡ then (kachinuki_below n s' (first_block n u)) Ordering.lt = ⊎_elim
    (λ e. rw (compare_eq s n e, nil_below n r (first_block n u) l, nil_low n (first_block n u)))
    (λ m. rw (compare_lt s n m) (greater_letter n s r (first_block n t) (first_block n u) h m))
    (eq-or-lt_of_le (le_of_suc-le-suc k)) in
    rw (compare_lt r n l, ← then_assoc, ← then_assoc, first)

pub smaller_letter : (n s r : ℕ) (t u : Word) → s < r → r < n → kachinuki_below n (s ∷ t) (r ∷ u) ≡ then (kachinuki_below n t (r ∷ u)) Ordering.gt
smaller_letter n s r t u h k = rw ((below_orders n).flips (r ∷ u) (s ∷ t), greater_letter n r s u t h k, swap_then, ← (below_orders n).flips (r ∷ u) t)

-- there are as many blocks behind the first as occurrences, so the blocks alone decide
count_later : (n : ℕ) (u : Word) → count n u ≡ length (later_blocks n u)
count_later n [] = refl
count_later n (a ∷ u) = go (eqb a n) (count_later n u)
  where
    go : (b : Bool) → count n u ≡ length (later_blocks n u)
        → cond b (suc (count n u)) (count n u) ≡ length (cond b (blocks n u) (later_blocks n u))
    go true e = ap suc e
    go false e = e

by_blocks : (n : ℕ) (u v : Word) → kachinuki_below (suc n) u v ≡ colex (kachinuki_below n) (blocks n u) (blocks n v)
by_blocks n u v = rw (count_later n u, count_later n v, then_assoc, colex_length (kachinuki_below n) (later_blocks n u) (later_blocks n v))

pub below_well_founded : (n : ℕ) → WellFounded (Below (kachinuki_below n))
below_well_founded zero = record { apply = λ u. Acc.intro u (λ v l. absurd (eq_not_lt l)) }
below_well_founded (suc n) =
    Subrelation.wf (λ u v l. sym (by_blocks n u v) ∙ l) (InvImage.wf (blocks n) (colex_well_founded (below_orders n) (below_well_founded n)))

-- a word of letters below n is one block
one_count : (n : ℕ) (u : Word) → letters_of u ≤ n → count n u ≡ 0
one_count n [] h = refl
one_count n (a ∷ u) h = rw (compare_lt a n (omega arith)) (one_count n u (omega arith))

one_first : (n : ℕ) (u : Word) → letters_of u ≤ n → first_block n u ≡ u
one_first n [] h = refl
one_first n (a ∷ u) h = rw (compare_lt a n (omega arith), one_first n u (omega arith))

one_later : (n : ℕ) (u : Word) → letters_of u ≤ n → later_blocks n u ≡ []
one_later n [] h = refl
one_later n (a ∷ u) h = rw (compare_lt a n (omega arith)) (one_later n u (omega arith))

-- so a bound past the letters of both changes nothing
pub any_bound : (k n : ℕ) (u v : Word) → letters_of u ≤ k → letters_of v ≤ k → k ≤ n → kachinuki_below n u v ≡ kachinuki_below k u v
any_bound k zero u v h i j = let e : k ≡ 0 = omega arith in rw e
any_bound k (suc n) u v h i j = ⊎_elim
    (λ e. rw e)
    (λ l.
    let p : letters_of u ≤ n = omega arith in
    let q : letters_of v ≤ n = omega arith in
    rw (one_count n u p, one_count n v q, one_later n u p, one_later n v q, one_first n u p, one_first n v q) (any_bound k n u v h i (omega arith)))
    (eq-or-lt_of_le j)

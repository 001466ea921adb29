-- The two words of an overlap, as they are written. The first reduct is the new right word with what of the word laid sticks out. The second is the
-- left word with a part replaced; from a place behind it on, it is the left word, what of the word laid stands before the place, and the other right word.
use Prim.Native.Nat.{ℕ, ◌+◌, ◌-◌, ◌≤◌, ◌<◌, min}
use mathlib.Core.Path.{◌≡◌, refl, sym, ◌∙◌, ap}
use mathlib.Core.List.{List, [], ◌++◌, append-nil, append_assoc}
use mathlib.Core.Bool.{Bool, true, false}
use native.Mathlib.Omega.{arith}
use lib.Dec.{ltb}
use borrow.Author.Tests.{ltb-true, ltb-false}
use lib.ListN.{length, take, drop, length-append, drop_of_length-le}
use lib.Seq.{take_all, take-append-add, length-take-le}
use Rattle.words.specs.Word.{Word}
use Rattle.rewriting.specs.Standing.{replace_at}
use Rattle.rewriting.specs.Pairs.{peak, first_reduct, second_reduct, reducts_of}
use Rattle.rewriting.specs.Made.{Made}
use Rattle.rewriting.proofs.PairLaws.{first_reduct_lem, second_reduct_lem}

module _ (left right laid : Word) (k n : ℕ) (e : n ≡ length left - k) where
  first_is : replace_at laid 0 n right ≡ first_reduct k left right laid
  unfolding reducts_of
  first_is = let z : 0 + n ≡ length left - k = omega arith in rw z (sym (first_reduct_lem k left laid right []))

  pub first_made : (d b : List ℕ) (m : ℕ) → Made (replace_at laid 0 n right) d b m → Made (first_reduct k left right laid) d b m
  first_made d b m h = rw first_is at h

module _ (left laid other : Word) (k : ℕ) where
  module _ (h : k ≤ length left) where
    second_is : replace_at left k (length laid) other ≡ second_reduct k left laid other
    unfolding reducts_of
    second_is = sym (second_reduct_lem k left laid [] other h)

    pub second_made : (d b : List ℕ) (m : ℕ) → Made (replace_at left k (length laid) other) d b m → Made (second_reduct k left laid other) d b m
    second_made d b m f = rw second_is at f

  module _ (n : ℕ) (h : length left < k) (e : n ≡ min (k - length left) (length laid)) where
    pub before_counted : n ≡ length (take n laid)
    before_counted = sym (length-take-le n laid (omega arith))

    pub far_fits : (d : List ℕ) → length left + (min (k - length left) (length laid) + length other) ≤ length d
        → length left + (length (take n laid) + length other) ≤ length d
    far_fits d f = omega (arith, before_counted)

    -- what of the word laid stands before the place
    before : take n laid ≡ take (k - length left) laid
    before = go (ltb (k - length left) (length laid)) refl
      where
        go : (t : Bool) → ltb (k - length left) (length laid) ≡ t → take n laid ≡ take (k - length left) laid
        go true f = let q : n ≡ k - length left = omega (arith, ltb-true (k - length left) (length laid) f) in rw q
        go false f =
            let few : length laid ≤ k - length left = ltb-false (k - length left) (length laid) f in
            take_all n laid (omega arith) ∙ sym (take_all (k - length left) laid few)

    pub far_is : left ++ (take n laid ++ other) ≡ second_reduct k left laid other
    far_is =
        let z : length left - k ≡ 0 = omega arith in
        let y : take k (left ++ laid) ≡ left ++ take (k - length left) laid =
        (let q : k ≡ length left + (k - length left) = omega arith in ap (λ (j : ℕ). take j (left ++ laid)) q ∙ take-append-add left laid (k - length left)) in
        let x : drop (k + length laid) (left ++ laid) ≡ [] = drop_of_length-le (left ++ laid) {i = k + length laid} (simp length-append (omega arith)) in
        rw (z, y, x, append-nil, before, append_assoc)

    pub far_made : (d b : List ℕ) (m : ℕ) → Made (left ++ (take n laid ++ other)) d b m → Made (second_reduct k left laid other) d b m
    far_made d b m f = rw far_is at f

-- the left word replaced by itself leaves the peak
pub peak_is : (k : ℕ) (left laid : Word) → first_reduct k left left laid ≡ peak k left laid
unfolding reducts_of
peak_is k left laid = first_reduct_lem k left laid left []

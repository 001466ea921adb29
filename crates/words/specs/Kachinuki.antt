-- Order 1. Specification, "Orders": fewer of the greatest letter is less; where both words have equally many, both are cut at
-- them, and the blocks are compared, the last ones first, in the same order.
use Prim.Native.Nat.{ℕ, zero, suc, max, compare, Ordering}
use Rattle.std.specs.Prelude.{List, [], ◌∷◌, cond, eqb}
use Rattle.words.specs.Word.{Word}
use Rattle.words.specs.Compare.{then, colex}

-- how often the letter n occurs
abbrev pub count : ℕ → Word → ℕ
count n [] = 0
count n (a ∷ u) = cond (eqb a n) (suc (count n u)) (count n u)

-- the word cut at the letter n: the block before the first n, then the blocks behind each n
abbrev pub first_block : ℕ → Word → Word
first_block n [] = []
first_block n (a ∷ u) = cond (eqb a n) [] (a ∷ first_block n u)

abbrev pub later_blocks : ℕ → Word → List Word
later_blocks n [] = []
later_blocks n (a ∷ u) = cond (eqb a n) (first_block n u ∷ later_blocks n u) (later_blocks n u)

abbrev pub blocks : ℕ → Word → List Word
blocks n u = first_block n u ∷ later_blocks n u

-- the order over the letters below a bound, the greatest of them first; a letter that neither word has leaves each whole, as one block
abbrev pub kachinuki_below : ℕ → Word → Word → Ordering
kachinuki_below zero u v = Ordering.eq
kachinuki_below (suc n) u v = then (compare (count n u) (count n v)) (colex (kachinuki_below n) (blocks n u) (blocks n v))

-- one more than the greatest letter that occurs; 0 for the empty word
abbrev pub letters_of : Word → ℕ
letters_of [] = 0
letters_of (a ∷ u) = max (suc a) (letters_of u)

-- from the greatest letter that occurs in either word
unfoldable pub kachinuki : Word → Word → Ordering
kachinuki u v = kachinuki_below (max (letters_of u) (letters_of v)) u v

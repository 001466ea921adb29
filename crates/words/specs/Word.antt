-- Words. Specification, "Words": a letter is a number, 0 to n-1, and the higher number is the greater letter.
-- A word here is any list of numbers: the bounds on letters and lengths are tests, made where the specification makes them.
use Rattle.std.specs.Prelude.{ℕ, List, [], ◌∷◌, Bool, true, ◌&&◌, ltb}

abbrev pub Word : Type 0
Word = List ℕ

-- every letter of the word is below n
unfoldable pub letters_below : ℕ → Word → Bool
letters_below n [] = true
letters_below n (a ∷ w) = ltb a n && letters_below n w

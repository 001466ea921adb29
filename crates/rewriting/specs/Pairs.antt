-- Critical pairs. Specification, "Critical pairs": m's left word laid over n's at a place k, where no place has two different
-- letters; the places that count; the peak, and its two reducts.
use Rattle.std.specs.Prelude.{ℕ, ◌-◌, [], ◌∷◌, ◌++◌, Bool, true, ◌&&◌, ◌||◌, leb, ltb, eqb, length, drop}
use Rattle.words.specs.Word.{Word}
use Rattle.rewriting.specs.Standing.{replace_at}
use Rattle.rewriting.specs.Sheet.{Line}

-- equal wherever both have a letter
unfoldable pub agree : Word → Word → Bool
agree [] m = true
agree (a ∷ l) [] = true
agree (a ∷ l) (b ∷ m) = eqb a b && agree l m

-- the place k counts for the lines n and m
unfoldable pub place_counts : ℕ → ℕ → ℕ → Bool
place_counts n m k = leb 1 k || ltb n m

-- the lines n and m make a critical pair at the place k of n's left word, where m's is laid
unfoldable pub is_pair : ℕ → ℕ → ℕ → Word → Word → Bool
is_pair n m k left laid = ltb k (length left) && (agree (drop k left) laid && place_counts n m k)

-- the left word, lengthened by what of the other, laid at k, sticks out
abbrev pub peak : ℕ → Word → Word → Word
peak k left laid = left ++ drop (length left - k) laid

pub record Reducts : Type 0 where
  pub first : Word
  pub second : Word

-- the first reduct, and the second
abbrev pub first_reduct : ℕ → Word → Word → Word → Word
first_reduct k left right laid = replace_at (peak k left laid) 0 (length left) right

abbrev pub second_reduct : ℕ → Word → Word → Word → Word
second_reduct k left laid other = replace_at (peak k left laid) k (length laid) other

-- n's left and right word, m's left and right word, the place of m's
unfoldable pub reducts_of : ℕ → Word → Word → Word → Word → Reducts
reducts_of k left right laid other = record { first = first_reduct k left right laid; second = second_reduct k left laid other }

-- the peak and the reducts of two lines, the second laid at the place k of the first
abbrev pub peak_of_lines : ℕ → Line → Line → Word
peak_of_lines k s t = peak k s.left t.left

abbrev pub reducts_of_lines : ℕ → Line → Line → Reducts
reducts_of_lines k s t = reducts_of k s.left s.right t.left t.right

-- Where a word stands in another, and what replacing makes. Specification, "Words" and "Replacing": the empty word stands at
-- every place of every word, its end included.
use Rattle.std.specs.Prelude.{ℕ, zero, suc, ◌+◌, [], ◌∷◌, ◌++◌, Bool, true, false, cond, ◌&&◌, leb, eqb, length, take, drop}
use Rattle.words.specs.Word.{Word}
use Rattle.words.specs.Counting.{any_from}

-- the word w begins with l
unfoldable pub begins : Word → Word → Bool
begins [] w = true
begins (a ∷ l) [] = false
begins (a ∷ l) (b ∷ w) = eqb a b && begins l w

-- l stands in w at the place p
unfoldable pub stands_at : Word → Word → ℕ → Bool
stands_at l w p = leb p (length w) && begins l (drop p w)

-- l stands in w somewhere
unfoldable pub stands_in : Word → Word → Bool
stands_in l w = any_from (stands_at l w) 0 (length w + 1)

-- the earliest of the n places from p on where l stands in w, and the place behind them where it stands at none
unfoldable pub first_from : Word → Word → ℕ → ℕ → ℕ
first_from l w p zero = p
first_from l w p (suc n) = cond (stands_at l w p) p (first_from l w (p + 1) n)

-- w with the n letters from the place p on replaced by r
abbrev pub replace_at : Word → ℕ → ℕ → Word → Word
replace_at w p n r = take p w ++ (r ++ drop (p + n) w)

-- Inner: no public promise uses the names of this file.
-- The text of a table that lies in slices. Its rules are its standing lines.
use Rattle.std.specs.Prelude.{ℕ, zero, suc, ◌+◌, List, [], ◌++◌, cond}
use Rattle.layout.specs.Slices.{stands_by, rules_in, rule_by}
use Rattle.writing.specs.Writing.{bit}
use Rattle.listing.specs.Text.{rule_text, rules_text, title_text}

-- how many of the n lines from line k on stand
unfoldable pub standing_from : List ℕ → ℕ → ℕ → ℕ
standing_from recs k zero = 0
standing_from recs k (suc n) = bit (stands_by recs k) + standing_from recs (k + 1) n

-- line j, where it stands
unfoldable pub line_text : List ℕ → List ℕ → ℕ → List ℕ
line_text recs words j = cond (stands_by recs j) (rule_text (rule_by recs words j)) []

-- the first n lines
unfoldable pub slices_text : List ℕ → List ℕ → ℕ → List ℕ
slices_text recs words n = title_text (standing_from recs 0 n) n ++ rules_text (rules_in recs words 0 n)

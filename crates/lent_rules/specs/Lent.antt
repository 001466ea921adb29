-- The search over lent rules. Specification, "Lent rules" and "Searching": a record at fault or line numbers that do not rise
-- are 1, then a word over 128 letters is 4; else none, or the place and the line number of the replacement due.
use Rattle.std.specs.Prelude.{ℕ, ◌+◌, List, [], ◌∷◌, Bool, true, cond, ◌&&◌, leb, length, take, drop}
use Rattle.rewriting.specs.Sheet.{side_limit}
use Rattle.words.specs.Word.{Word}
use Rattle.words.specs.Refusal.{Result, answered, refused}
use Rattle.rewriting.specs.Search.{Rule, Due, search}
use Rattle.lent_rules.specs.declared.RuleRecord.{RuleRecord}

-- no side over 32 letters, and both sides inside the area
unfoldable pub record_fits : List ℕ → RuleRecord → Bool
record_fits area r = leb r.left side_limit && (leb r.right side_limit && leb (r.offset + (r.left + r.right)) (length area))

-- every record fits, and the line numbers rise, the first from least on
unfoldable pub records_fit : List ℕ → ℕ → List RuleRecord → Bool
records_fit area least [] = true
records_fit area least (r ∷ rs) = record_fits area r && (leb least r.line && records_fit area (r.line + 1) rs)

-- a record as a rule; its right letters stand directly behind its left ones
unfoldable pub lent_rule : List ℕ → RuleRecord → Rule
lent_rule area r = record {
  line = r.line;
  left = take r.left (drop r.offset area);
  right = take r.right (drop (r.offset + r.left) area);
}

unfoldable pub lent_rules : List ℕ → List RuleRecord → List Rule
lent_rules area [] = []
lent_rules area (r ∷ rs) = lent_rule area r ∷ lent_rules area rs

unfoldable pub search_result : List RuleRecord → List ℕ → Word → Result Due
search_result rs area w =
    cond (records_fit area 0 rs) (cond (leb (length w) 128) (answered (search (lent_rules area rs) w)) (refused 4 0)) (refused 1 0)

-- Condition 4. Specification, "The check": no standing left word has another standing line's left word in it, equal ones
-- included, or 14.
use Rattle.std.specs.Prelude.{ℕ, List, Bool, not, ◌&&◌, eqb, length}
use Rattle.words.specs.Counting.{any_from}
use Rattle.rewriting.specs.Sheet.{Line, line_at}
use Rattle.rewriting.specs.Standing.{stands_in}
use Rattle.chains.specs.Verdict.{Verdict, unless, each}

-- line n's left word holds the left word of another standing line m
unfoldable pub holds : List Line → ℕ → ℕ → Bool
holds ts n m = (line_at ts m).stands && (not (eqb n m) && stands_in (line_at ts m).left (line_at ts n).left)

-- line n stands and holds one
unfoldable pub holds_one : List Line → ℕ → Bool
holds_one ts n = (line_at ts n).stands && any_from (holds ts n) 0 (length ts)

unfoldable pub reduced_verdict : List Line → Verdict
reduced_verdict ts = each (length ts) (λ n. unless (not (holds_one ts n)) 14 n)

-- Conditions 5 and 6. Specification, "The check": both sides of each equation have the same normal word, or 15; so have both
-- reducts of each critical pair of standing lines, or 16, tried by n, then m, then place. A normal word that takes more than
-- the check's allowance or 128 letters is 5 or 6.
use Rattle.std.specs.Prelude.{ℕ, List, cond, length}
use Rattle.words.specs.Word.{Word}
use Rattle.words.specs.Refusal.{on_answer}
use Rattle.rewriting.specs.Search.{Rule}
use Rattle.rewriting.specs.Normal.{own_allowance}
use Rattle.rewriting.specs.Pairs.{is_pair, Reducts, reducts_of_lines}
use Rattle.rewriting.specs.Sheet.{Equation, equation_at, Line, line_at}
use Rattle.reducing.specs.SameFare.{same_fare}
use Rattle.chains.specs.Verdict.{Verdict, met, unless, each}

-- two words have one normal word; if not, a refusal with this number and place
unfoldable pub same_or : List Rule → ℕ → ℕ → Word → Word → Verdict
same_or rs number place u v = on_answer (same_fare rs own_allowance u v) (λ same. unless same number place)

unfoldable pub equations_verdict : List Rule → List Equation → Verdict
equations_verdict rs es = each (length es) (λ k. same_or rs 15 k (equation_at es k).left (equation_at es k).right)

-- the two words of the lines n and m at the place k
abbrev pub reducts_at : List Line → ℕ → ℕ → ℕ → Reducts
reducts_at ts n m k = reducts_of_lines k (line_at ts n) (line_at ts m)

unfoldable pub pair_verdict : List Rule → List Line → ℕ → ℕ → ℕ → Verdict
pair_verdict rs ts n m k =
    cond (is_pair n m k (line_at ts n).left (line_at ts m).left)
    (same_or rs 16 n (reducts_at ts n m k).first (reducts_at ts n m k).second)
    met

-- every place of n's left word
unfoldable pub places_verdict : List Rule → List Line → ℕ → ℕ → Verdict
places_verdict rs ts n m = each (length (line_at ts n).left) (λ k. pair_verdict rs ts n m k)

-- line n with line m, if m stands
unfoldable pub two_lines : List Rule → List Line → ℕ → ℕ → Verdict
two_lines rs ts n m = cond (line_at ts m).stands (places_verdict rs ts n m) met

-- every standing line m
unfoldable pub others_verdict : List Rule → List Line → ℕ → Verdict
others_verdict rs ts n = each (length ts) (λ m. two_lines rs ts n m)

-- line n, if it stands
unfoldable pub of_line : List Rule → List Line → ℕ → Verdict
of_line rs ts n = cond (line_at ts n).stands (others_verdict rs ts n) met

-- every standing line n
unfoldable pub pairs_verdict : List Rule → List Line → Verdict
pairs_verdict rs ts = each (length ts) (λ n. of_line rs ts n)

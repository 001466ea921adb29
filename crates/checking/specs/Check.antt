-- The check: the six conditions in the order tried. Specification, "The check": the sheet's layout, the table's, the headers;
-- then lineages, directions, left words, equations, critical pairs.
use Rattle.std.specs.Prelude.{ℕ, List, Bool, cond, ◌&&◌, eqb, length}
use Rattle.words.specs.Refusal.{on_answer, refused}
use Rattle.words.specs.declared.Order.{Order}
use Rattle.rewriting.specs.Sheet.{Equation, Sheet, Line, Table, rules_of}
use Rattle.layout.specs.Sheets.{sheet_fits, sheet_of}
use Rattle.layout.specs.Tables.{table_fits, table_of}
use Rattle.chains.specs.Verdict.{Verdict}
use Rattle.chains.specs.Chains.{chain_verdict, direction_verdict}
use Rattle.checking.specs.Reduced.{reduced_verdict}
use Rattle.checking.specs.OneNormal.{equations_verdict, pairs_verdict}

unfoldable pub headers_agree : Sheet → Table → Bool
headers_agree s t = eqb s.order.code t.order.code && (eqb s.letters t.letters && eqb (length s.equations) t.cited)

-- conditions 3 to 6, one after the other: of the lines of a table in this order, for the equations
unfoldable pub lines_verdict : Order → List Equation → List Line → Verdict
lines_verdict o es ts =
    on_answer (chain_verdict es ts)
    (λ _. on_answer (direction_verdict o ts)
    (λ _. on_answer (reduced_verdict ts)
    (λ _. on_answer (equations_verdict (rules_of ts) es)
    (λ _. pairs_verdict (rules_of ts) ts))))

-- conditions 2 to 6, of a sheet and a table
unfoldable pub check_verdict : Sheet → Table → Verdict
check_verdict s t = cond (headers_agree s t) (lines_verdict t.order s.equations t.lines) (refused 2 0)

-- the public call, of two files
unfoldable pub check_result : List ℕ → List ℕ → Verdict
check_result sheet table =
    cond (sheet_fits sheet) (cond (table_fits table) (check_verdict (sheet_of sheet) (table_of table)) (refused 1 0)) (refused 1 0)

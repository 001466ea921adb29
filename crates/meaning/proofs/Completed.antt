-- The check accepts what completion writes. A completion that answers has a sheet in the layout, and the table it writes is within the limits, so its
-- bytes are in the layout and are read back as that table; of that table the closing check was the check.
use Prim.Native.Nat.{ℕ}
use native.Mathlib.Omega.{arith}
use mathlib.Core.Path.{◌≡◌, refl}
use mathlib.Core.List.{List}
use mathlib.Core.Bool.{Bool, true, false, cond, ◌&&◌}
use lib.Dec.{leb}
use Rattle.words.specs.Refusal.{Result, answered, refused, on_answer}
use Rattle.rewriting.specs.Sheet.{Table}
use Rattle.layout.specs.Sheets.{sheet_fits, sheet_of}
use Rattle.writing.specs.Writing.{write_table}
use Rattle.packing.proofs.ReadWrite.{table_read_lem}
use Rattle.packing.proofs.Judged.{table_judged}
use Rattle.packing.proofs.Within.{sheet_within_lem}
use Rattle.checking.specs.Check.{check_result}
use Rattle.runs.specs.Completion.{complete}
use Rattle.completing.specs.Calls.{complete_result}
use Rattle.meaning.specs.Completed.{CompletionAccepted, CompletionMeans}
use Rattle.completing.proofs.KeptLaws.{complete_passes}
use Rattle.meaning.proofs.SameFare.{same_fare_lem}

-- the table of a completion that answers
completed : (sheet : List ℕ) (room work : ℕ) (bytes : List ℕ) → complete_result sheet room work ≡ answered bytes
    → (t : Table) × (sheet_fits sheet ≡ true) × (complete (sheet_of sheet) ≡ answered t) × (bytes ≡ write_table t)
unfolding complete_result
completed sheet room work bytes e = go (leb 51216 room && leb 65536 work) (sheet_fits sheet) (complete (sheet_of sheet)) e
  where
    go : (a b : Bool) (x : Result Table) → cond a (cond b (on_answer x (λ t. answered (write_table t))) (refused 1 0)) (refused 3 0) ≡ answered bytes
        → (t : Table) × (b ≡ true) × (x ≡ answered t) × (bytes ≡ write_table t)
    go true true (answered t) h = (t, refl, refl, cc)
    go true true (refused n p) h = let z : ◌≡◌ {A = ℕ} 0 1 = cc in absurd (omega arith)
    go true false x h = let z : ◌≡◌ {A = ℕ} 0 1 = cc in absurd (omega arith)
    go false b x h = let z : ◌≡◌ {A = ℕ} 0 1 = cc in absurd (omega arith)

-- Specification, "Acceptance": completed tables are accepted
pub completion_accepted : CompletionAccepted
unfolding check_result
completion_accepted sheet room work bytes e =
    let (t, fits, done, same) = completed sheet room work bytes e in
    let w = complete_passes (sheet_of sheet) (sheet_within_lem sheet fits) t done in
    rw (same, fits, table_judged t w.1, table_read_lem t) w.0

pub completion_means : CompletionMeans
completion_means sheet room work bytes e = same_fare_lem sheet bytes (completion_accepted sheet room work bytes e)

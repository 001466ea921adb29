-- The run. Specification, "Completion", step 1: if no entry waits, the lines made are checked as the table that would be written; a refusal of the check
-- is completion's, and else that table is the answer.
use Rattle.std.specs.Prelude.{ℕ, zero, suc, ◌+◌, ◌*◌, ◌≡◌, length}
use Rattle.words.specs.Refusal.{Result, answered, refused, on_answer}
use Rattle.rewriting.specs.Sheet.{Sheet, Table}
use Rattle.checking.specs.Check.{check_verdict}
use Rattle.workspace.specs.Areas.{most_lines, most_waiting}
use Rattle.workspace.specs.Waiting.{State, start_state}
use Rattle.turns.specs.Turn.{Turned, over, going, turn_of}

-- the table of a state, with all its lines and their flags
abbrev pub state_table : Sheet → State → Table
state_table s d = record { order = s.order; letters = s.letters; cited = length s.equations; lines = d.lines }

-- the closing check
unfoldable pub close : Sheet → State → Result Table
close s d = on_answer (check_verdict s (state_table s d)) (λ _. answered (state_table s d))

-- the run from a state on, turn by turn
pub data Run (s : Sheet) : State → Result Table → Type 0 where
  ends : {d : State} → turn_of s d ≡ answered over → Run s d (close s d)
  stops : {d : State} (n p : ℕ) → turn_of s d ≡ refused n p → Run s d (refused n p)
  goes : {d : State} (e : State) {a : Result Table} → turn_of s d ≡ answered (going e) → Run s e a → Run s d a

abbrev pub on_turned : Turned → Result Table → (State → Result Table) → Result Table
on_turned over closed on = closed
on_turned (going e) closed on = on e

-- the same run with a bound on its turns. Each turn lowers 2,049 times the number of lines that can still be made, plus the number of entries that
-- wait, so this many turns are never used up
abbrev pub turns_enough : ℕ
turns_enough = (most_lines + 1) * (most_waiting + 1)

-- the end of a run whose turns are used up: no refusal has the number 0, and no sheet comes to it (proofs/CheckedLaws, never_reached_lem)
abbrev pub never_reached : Result Table
never_reached = refused 0 0

unfoldable pub run_for : ℕ → Sheet → State → Result Table
run_for zero s d = never_reached
run_for (suc n) s d = on_answer (turn_of s d) (λ t. on_turned t (close s d) (λ e. run_for n s e))

-- the table of a sheet
unfoldable pub complete : Sheet → Result Table
complete s = run_for turns_enough s (start_state s)

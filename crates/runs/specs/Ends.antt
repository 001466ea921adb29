-- Inner: no public promise uses the names of this file.
-- What the functions of a run leave on the desk: the state at the start, and the state at which the turns end, or their refusal.
use Rattle.std.specs.Prelude.{ℕ, ◌≡◌, List, length, drop, Ok, Err}
use Rattle.std.specs.Prelude.{Result as Outcome}
use Rattle.words.specs.Refusal.{Result, answered, refused}
use Rattle.words.specs.Counting.{in_turn}
use Rattle.words.specs.Answer.{refused_by}
use Rattle.words.specs.declared.Order.{Order}
use Rattle.words.specs.declared.refusals.Refusal.{Refusal}
use Rattle.rewriting.specs.Sheet.{Equation, Sheet, Table}
use Rattle.workspace.specs.Areas.{work_room}
use Rattle.workspace.specs.Waiting.{State, append}
use Rattle.workspace.specs.Desk.{state}
use Rattle.workspace.specs.declared.Entry.TheVariants.{OfEquation}
use Rattle.turns.specs.Outcomes.{sheet_in}
use Rattle.runs.specs.Completion.{close, Run}
use Rattle.workspace.specs.declared.desk.Desk.{Desk}

-- the equation k waits behind the others
unfoldable pub append_equation : ℕ → State → Result State
append_equation k d = append (OfEquation k) d

-- the turns ended: what is left is the closing check; or they were refused
abbrev pub end_as : Sheet → Outcome (Unit {0}) Refusal → Desk → Result Table
end_as s (Ok u) e = close s (state e)
end_as s (Err f) e = refused_by f

-- what the turns of a sheet lead to, once its equations wait; where one cannot wait, that is the refusal
abbrev pub QueuedRun : Sheet → Result State → Result Table → Type 0
QueuedRun s (answered x) a = Run s x a
QueuedRun s (refused n p) a = a ≡ refused n p

-- the desk d becomes e by the turns of the sheet with these equations, the first n of which wait behind the others, however many letters it has
pub record Queued (order : Order) (es : List Equation) (n : ℕ) (d e : Desk) (r : Outcome (Unit {0}) Refusal) : Type 0 where
  pub told : (letters : ℕ) → QueuedRun (sheet_in order letters es) (in_turn append_equation 0 n (state d)) (end_as (sheet_in order letters es) r e)
  pub size : length e.work.now ≡ length d.work.now
  pub past : drop work_room e.work.now ≡ drop work_room d.work.now
  pub held : e.work.ghost_name ≡ d.work.ghost_name

-- the desk d becomes e by the turns from the state s on, of the sheet with these equations, however many letters it has
pub record Ran (order : Order) (es : List Equation) (s : State) (d e : Desk) (r : Outcome (Unit {0}) Refusal) : Type 0 where
  pub told : (letters : ℕ) → Run (sheet_in order letters es) s (end_as (sheet_in order letters es) r e)
  pub size : length e.work.now ≡ length d.work.now
  pub past : drop work_room e.work.now ≡ drop work_room d.work.now
  pub held : e.work.ghost_name ≡ d.work.ghost_name

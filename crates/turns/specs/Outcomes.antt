-- Inner: no public promise uses the names of this file.
-- What the functions of a turn leave on the desk: the state of the definition, or its refusal. The desk holds the same lent buffer after them.
use Rattle.std.specs.Prelude.{ℕ, ◌≡◌, List, length, drop, Bool, false, cond, Ok}
use Rattle.std.specs.Prelude.{Result as Outcome}
use Rattle.words.specs.declared.Order.{Order}
use Rattle.words.specs.Refusal.{Result, answered}
use Rattle.words.specs.Answer.{result_as}
use Rattle.words.specs.declared.refusals.Refusal.{Refusal}
use Rattle.rewriting.specs.Search.{Rule}
use Rattle.rewriting.specs.Normal.{Counted, normal_of, own_allowance}
use Rattle.rewriting.specs.Sheet.{Sheet, Equation, Step}
use Rattle.workspace.specs.Areas.{work_room}
use Rattle.workspace.specs.Waiting.{State}
use Rattle.workspace.specs.Desk.{state, done_as}
use Rattle.workspace.specs.declared.Entry.{Entry}
use Rattle.workspace.specs.declared.desk.Desk.{Desk}
use Rattle.lineage.specs.Lineage.{steps_down, lineage}
use Rattle.lineage.specs.Noting.{middle}
use Rattle.turns.specs.Turn.{Turned, over, going, turn_of}
use Rattle.turns.specs.declared.Reduced.{Reduced}

-- the sheet with these equations
abbrev pub sheet_in : Order → ℕ → List Equation → Sheet
sheet_in order letters es = record { order = order; letters = letters; equations = es }

-- a normal word with its count
abbrev pub counted : Reduced → Counted
counted r = record { word = r.normal.now; count = r.count }

-- the normal word is the word's own
abbrev pub Reaches : List Rule → Reduced → Type 0
Reaches rs r = normal_of rs own_allowance r.word.now ≡ answered (counted r)

-- the lineage that leads from the normal word of x, across the entry, to that of y
abbrev pub chain : ℕ → List Rule → Entry → Bool → Reduced → Reduced → List Step
chain cited rs e back x y = lineage (steps_down cited rs x.count x.word.now) (middle back cited e) (steps_down cited rs y.count y.word.now)

-- the desk d becomes e, and what stands there is the state x, or the refusal
pub record Settled (d e : Desk) (r : Outcome (Unit {0}) Refusal) (x : Result State) : Type 0 where
  pub told : done_as r e ≡ x
  pub size : length e.work.now ≡ length d.work.now
  pub past : drop work_room e.work.now ≡ drop work_room d.work.now
  pub held : e.work.ghost_name ≡ d.work.ghost_name

-- the state for the next turn, or that none waited
abbrev pub outcome_as : Outcome Bool Refusal → Desk → Result Turned
outcome_as r e = result_as (λ (taken : Bool). cond taken (going (state e)) over) r

-- the desk d becomes e by a turn of the sheet with these equations, however many letters it has; where none waited it stays as it was
pub record TurnMade (order : Order) (es : List Equation) (d e : Desk) (r : Outcome Bool Refusal) : Type 0 where
  pub told : (letters : ℕ) → outcome_as r e ≡ turn_of (sheet_in order letters es) (state d)
  pub keeps : r ≡ Ok false → e ≡ d
  pub size : length e.work.now ≡ length d.work.now
  pub past : drop work_room e.work.now ≡ drop work_room d.work.now
  pub held : e.work.ghost_name ≡ d.work.ghost_name

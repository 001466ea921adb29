-- Inner: no public promise uses the names of this file.
-- What functions on the desk leave there: the state, steps that are noted, and all that stays as it was. The desk holds the same lent buffer after
-- them, which is told by its ghost name.
use Rattle.std.specs.Prelude.{ℕ, ◌≡◌, List, Option, None, Some, Ok, Err}
use Rattle.std.specs.Prelude.{Result as Outcome}
use Rattle.words.specs.Refusal.{Result}
use Rattle.words.specs.declared.refusals.Refusal.{Refusal}
use Rattle.rewriting.specs.Sheet.{Step}
use Rattle.workspace.specs.Waiting.{State}
use Rattle.workspace.specs.Work.{state_of, noted, Does, pushed_as, Takes}
use Rattle.workspace.specs.declared.Entry.{Entry}
use Rattle.workspace.specs.declared.Nums.{Nums}
use Rattle.workspace.specs.declared.desk.Desk.{Desk}

-- the state that stands on a desk
abbrev pub state : Desk → State
state d = state_of d.work.now d.nums

-- the numbers of the desk at exit, or the refusal
abbrev pub nums_after : Outcome (Unit {0}) Refusal → Desk → Outcome Nums Refusal
nums_after (Ok u) e = Ok e.nums
nums_after (Err f) e = Err f

-- an answer and the desk at exit, read together
abbrev pub done_as : Outcome (Unit {0}) Refusal → Desk → Result State
done_as r e = pushed_as (nums_after r e) e.work.now

-- the desk d becomes e, with so many lines and steps, and what stands there is the state x, or the refusal
pub record Makes (d : Desk) (lines steps : ℕ) (e : Desk) (r : Outcome (Unit {0}) Refusal) (x : Result State) : Type 0 where
  pub does : Does d.work.now lines steps e.work.now (nums_after r e) x
  pub held : e.work.ghost_name ≡ d.work.ghost_name

-- the same where no line is made
abbrev pub Leaves : Desk → Desk → Outcome (Unit {0}) Refusal → Result State → Type 0
Leaves d e r x = Makes d d.nums.lines d.nums.steps e r x

-- an entry that was taken, with the numbers of the desk at exit
abbrev pub taken_by : Option Entry → Desk → Option (Entry × Nums)
taken_by None e = None
taken_by (Some x) e = Some (x, e.nums)

-- the oldest entry is taken from the desk d, which becomes e; where none waits it stays as it is
pub record Pops (d e : Desk) (r : Option Entry) : Type 0 where
  pub takes : Takes d.work.now d.nums (taken_by r e)
  pub stays : r ≡ None → e ≡ d
  pub bytes : e.work.now ≡ d.work.now
  pub held : e.work.ghost_name ≡ d.work.ghost_name

-- these steps are noted from the step of number at on
pub record Notes (d : Desk) (at : ℕ) (ss : List Step) (e : Desk) : Type 0 where
  pub bytes : e.work.now ≡ noted d.work.now at ss
  pub nums : e.nums ≡ d.nums
  pub held : e.work.ghost_name ≡ d.work.ghost_name

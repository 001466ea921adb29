-- The turns on the desk. What the turns so far led to, the run from there ends with; and each turn lowers the numbers that the loop counts by.
use Prim.Native.Nat.{ℕ, ◌+◌, ◌-◌, ◌*◌, ◌≤◌, ◌<◌}
use Rattle.std.specs.Prelude.{Ok, Err}
use Rattle.std.specs.Prelude.{Result as Outcome}
use Rattle.words.specs.declared.refusals.Refusal.{Refusal}
use mathlib.Core.Path.{◌≡◌, refl, sym, ◌∙◌, ap, subst}
use mathlib.Core.List.{List, []}
use mathlib.Core.Bool.{true, false}
use lib.ListN.{length, drop}
use Rattle.words.specs.Refusal.{Result, answered}
use Rattle.words.specs.Answer.{number_of, place_of, refused_by}
use Rattle.words.specs.Counting.{in_turn}
use Rattle.words.specs.declared.Order.{Order}
use Rattle.rewriting.specs.Sheet.{Equation, Table}
use Rattle.workspace.specs.Areas.{work_room, most_lines, most_waiting}
use Rattle.workspace.specs.Waiting.{State, equations_from}
use Rattle.workspace.specs.Desk.{state, Makes}
use Rattle.workspace.specs.declared.desk.Desk.{Desk}
use Rattle.workspace.proofs.StateLaws.{lines_counted, waiting_counted}
use Rattle.turns.specs.Turn.{Turned, going}
use Rattle.turns.specs.Outcomes.{sheet_in, TurnMade}
use Rattle.runs.specs.Completion.{close, Run, ends, stops, goes}
use Rattle.runs.specs.Ends.{append_equation, end_as, Queued, QueuedRun, Ran}
use Rattle.runs.proofs.FallsLaws.{weight, Falls, turn_falls}
use Rattle.runs.proofs.StartingLaws.{started}

-- from the desk d the turns have led to e
pub record Running (order : Order) (es : List Equation) (d e : Desk) : Type 0 where
  pub size : length e.work.now ≡ length d.work.now
  pub past : drop work_room e.work.now ≡ drop work_room d.work.now
  pub held : e.work.ghost_name ≡ d.work.ghost_name
  pub leads : (letters : ℕ) (a : Result Table) → Run (sheet_in order letters es) (state e) a → Run (sheet_in order letters es) (state d) a

module _ (order : Order) (es : List Equation) (d : Desk) where
  pub running_start : Running order es d d
  running_start = record { size = refl; past = refl; held = refl; leads = λ letters a r. r }

  module _ (e h : Desk) (i : Running order es d e) where
    pub run_over : TurnMade order es e h (Ok false) → Ran order es (state d) d h (Ok tt)
    run_over t = record {
      told = λ letters.
          let s = sheet_in order letters es in
          i.leads letters (close s (state h)) (rw (ap (λ (x : Desk). close s (state x)) (t.keeps refl)) (ends (sym (t.told letters))));
      size = t.size ∙ i.size;
      past = t.past ∙ i.past;
      held = t.held ∙ i.held;
    }

    pub run_refused : (f : Refusal) → TurnMade order es e h (Err f) → Ran order es (state d) d h (Err f)
    run_refused f t = record {
      told = λ letters. i.leads letters (refused_by f) (stops (number_of f) (place_of f) (sym (t.told letters)));
      size = t.size ∙ i.size;
      past = t.past ∙ i.past;
      held = t.held ∙ i.held;
    }

    module _ (t : TurnMade order es e h (Ok true)) where
      pub run_on : Running order es d h
      run_on = record {
        size = t.size ∙ i.size;
        past = t.past ∙ i.past;
        held = t.held ∙ i.held;
        leads = λ letters a q. i.leads letters a (goes (state h) (sym (t.told letters)) q);
      }

      pub run_falls : (most_lines - h.nums.lines) * (most_waiting + 1) + h.nums.count < (most_lines - e.nums.lines) * (most_waiting + 1) + e.nums.count
      unfolding weight
      run_falls =
          let few : length (state e).waiting ≤ most_waiting = rw (waiting_counted e.work.now e.nums) e.good.count in
          let f : Falls (state e) (answered (going (state h))) =
          subst (λ (y : Result Turned). Falls (state e) y) (sym (t.told 0)) (turn_falls (sheet_in order 0 es) (state e) few) in
          rw (lines_counted e.work.now e.nums, waiting_counted e.work.now e.nums, lines_counted h.work.now h.nums, waiting_counted h.work.now h.nums) at f.0

-- the equations wait, then the turns, from any desk
module _ (order : Order) (es : List Equation) (d e : Desk) (n l s : ℕ) where
  pub queued_run : (h : Desk) (r : Outcome (Unit {0}) Refusal) → Makes d l s e (Ok tt) (in_turn append_equation 0 n (state d)) → Ran order es (state e) e h r
      → Queued order es n d h r
  queued_run h r o t = record {
    told = λ letters. let x = sheet_in order letters es in subst (λ y. QueuedRun x y (end_as x r h)) o.does.told (t.told letters);
    size = t.size ∙ o.does.size;
    past = t.past ∙ o.does.past;
    held = t.held ∙ o.held;
  }

  pub queued_refused : (f : Refusal) → Makes d l s e (Err f) (in_turn append_equation 0 n (state d)) → Queued order es n d e (Err f)
  queued_refused f o = record {
    told = λ letters. let x = sheet_in order letters es in subst (λ y. QueuedRun x y (refused_by f)) o.does.told refl;
    size = o.does.size;
    past = o.does.past;
    held = o.held;
  }

-- the start, then the turns
module _ (order : Order) (es : List Equation) (d e : Desk) (n l s : ℕ) (few : n ≤ 64) (none : state d ≡ record { lines = []; waiting = [] }) where
  begun : (r : Outcome (Unit {0}) Refusal) → Makes d l s e r (in_turn append_equation 0 n (state d))
      → Makes d l s e r (answered (record { lines = []; waiting = equations_from 0 n }))
  begun r o = rw (none, started n few) at o

  pub sheet_run : (h : Desk) (r : Outcome (Unit {0}) Refusal) → Makes d l s e (Ok tt) (in_turn append_equation 0 n (state d)) → Ran order es (state e) e h r
      → Ran order es (record { lines = []; waiting = equations_from 0 n }) d h r
  sheet_run h r o t =
      let b = begun (Ok tt) o in
      let same : state e ≡ record { lines = []; waiting = equations_from 0 n } = own (state e) (record { lines = []; waiting = equations_from 0 n }) b.does.told in
      let f : Ran order es (record { lines = []; waiting = equations_from 0 n }) e h r = rw same at t in
      record { told = f.told; size = t.size ∙ o.does.size; past = t.past ∙ o.does.past; held = t.held ∙ o.held }
    where
      own : (a b : State) → ◌≡◌ {A = Result State} (answered a) (answered b) → a ≡ b
      own a b q = cc

  pub sheet_starts : (f : Refusal) → Makes d l s e (Err f) (in_turn append_equation 0 n (state d))
      → Ran order es (record { lines = []; waiting = equations_from 0 n }) d e (Err f)
  sheet_starts f o = absurd (never (begun (Err f) o).does.told)
    where
      never : ◌≡◌ {A = Result State} (refused_by f) (answered (record { lines = []; waiting = equations_from 0 n })) → ⊥
      never q = cc

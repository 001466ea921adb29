-- Completion is its turns. Every turn that goes on lowers the state's weight, so a run has at most one turn more than the weight of its start; with at
-- most 64 equations the start weighs less than the bound, so the run that any bound from there on computes is the run.
use Prim.Native.Nat.{ℕ, zero, suc, ◌+◌, ◌≤◌, ◌<◌}
use native.Mathlib.Omega.{arith}
use mathlib.Core.Path.{◌≡◌, refl, sym, ap, subst}
use mathlib.Core.Bool.{true, ◌&&◌}
use mathlib.Core.List.{List}
use borrow.Author.Tests.{leb-true}
use lib.Dec.{leb}
use lib.ListN.{length}
use Rattle.words.specs.Word.{letters_below}
use Rattle.words.specs.Comparing.{order_known}
use Rattle.words.specs.Refusal.{Result, answered}
use Rattle.words.proofs.TestLaws.{and_left, and_right}
use Rattle.rewriting.specs.Sheet.{Sheet, Table}
use Rattle.layout.specs.Sheets.{sheet_fits, sheet_of}
use Rattle.writing.specs.Writing.{equation_words}
use Rattle.packing.specs.Limits.{equations_within, sheet_within}
use Rattle.packing.proofs.Within.{sheet_within_lem}
use Rattle.workspace.specs.Waiting.{State, equations_from, start_state}
use Rattle.turns.specs.Turn.{Turned, going}
use Rattle.runs.specs.Completion.{Run, ends, stops, goes, turns_enough, complete}
use Rattle.runs.proofs.FallsLaws.{weight, Falls, turn_falls}
use Rattle.runs.proofs.RunLaws.{run_is, complete_ends, complete_once}
use Rattle.meaning.specs.Turns.{turns_of, Turns, TurnByTurn}

-- a run has at most one turn more than its start weighs
turns_few : (s : Sheet) (d : State) (a : Result Table) → length d.waiting ≤ 2048 → (r : Run s d a) → turns_of r ≤ suc (weight d)
turns_few s d _ h (ends e) = omega arith
turns_few s d _ h (stops n p e) = omega arith
turns_few s d a h (goes f e r) =
    let g : Falls d (answered (going f)) = subst (λ (x : Result Turned). Falls d x) e (turn_falls s d h) in
    omega (arith, turns_few s f a g.1 r, g.0)

-- every equation waits at the start
equations_wait : (k n : ℕ) → length (equations_from k n) ≡ n
equations_wait k zero = refl
equations_wait k (suc n) = ap suc (equations_wait (k + 1) n)

module _ (s : Sheet) (few : length s.equations ≤ 64) where
  start_few : length (start_state s).waiting ≤ 64
  unfolding start_state
  start_few = rw (equations_wait 0 (length s.equations)) few

  start_light : suc (weight (start_state s)) < turns_enough
  unfolding start_state weight
  start_light = rw (equations_wait 0 (length s.equations)) (omega arith)

  sheet_turns : Turns s
  unfolding complete
  sheet_turns = record {
    run = complete_ends s (omega arith);
    once = complete_once s (omega arith);
    fewer = λ a r. omega (arith, turns_few s (start_state s) a (omega (arith, start_few)) r, start_light);
    enough = λ n h. sym (run_is n s (start_state s) (complete s) (omega (arith, start_few)) (omega (arith, start_light)) (complete_ends s (omega arith)));
  }

-- a sheet in the layout has at most 64 equations
sheet_few : (file : List ℕ) → sheet_fits file ≡ true → length (sheet_of file).equations ≤ 64
unfolding sheet_within
sheet_few file e =
    let s = sheet_of file in
    let known = order_known s.order s.letters in
    let few = leb (length s.equations) 64 in
    let rest = equations_within s.equations && letters_below s.letters (equation_words s.equations) in
    leb-true (length s.equations) 64 (and_left few rest (and_right known (few && rest) (sheet_within_lem file e)))

pub turn_by_turn : TurnByTurn
turn_by_turn file e = sheet_turns (sheet_of file) (sheet_few file e)

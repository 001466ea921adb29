-- The run. As every turn lowers the state's weight, the run ends for every sheet with at most 2,048 equations, with what the bounded run gives; so no
-- second end fits. A sheet in the layout has at most 64.
use Prim.Native.Nat.{ℕ, zero, suc, ◌+◌, ◌≤◌, ◌<◌}
use mathlib.Core.Path.{◌≡◌, refl, ap, subst}
use native.Mathlib.Omega.{arith}
use lib.ListN.{length}
use Rattle.words.specs.Refusal.{Result, answered, refused, on_answer}
use Rattle.rewriting.specs.Sheet.{Sheet, Table}
use Rattle.workspace.specs.Areas.{most_waiting}
use Rattle.workspace.specs.Waiting.{State, equations_from, start_state}
use Rattle.turns.specs.Turn.{Turned, over, going, turn_of}
use Rattle.runs.specs.Completion.{close, Run, ends, stops, goes, on_turned, turns_enough, run_for, complete}
use Rattle.runs.proofs.FallsLaws.{weight, Falls, turn_falls}

-- the bounded run gives the end of the run
pub run_is : (n : ℕ) (s : Sheet) (d : State) (a : Result Table) → length d.waiting ≤ most_waiting → weight d < n → Run s d a → a ≡ run_for n s d
unfolding run_for
run_is zero s d a h l r = absurd (omega arith)
run_is (suc n) s d _ h l (ends e) = rw e
run_is (suc n) s d _ h l (stops m p e) = rw e
run_is (suc n) s d a h l (goes f e r) =
    let g : Falls d (answered (going f)) = subst (λ (x : Result Turned). Falls d x) e (turn_falls s d h) in
    rw e (run_is n s f a g.1 (omega (arith, g.0)) r)

-- and there is one
pub run_ends : (n : ℕ) (s : Sheet) (d : State) → length d.waiting ≤ most_waiting → weight d < n → Run s d (run_for n s d)
unfolding run_for
run_ends zero s d h l = absurd (omega arith)
run_ends (suc n) s d h l = go (turn_of s d) refl (λ e i m. run_ends n s e i m)
  where
    go : (t : Result Turned) → turn_of s d ≡ t → ((e : State) → length e.waiting ≤ most_waiting → weight e < n → Run s e (run_for n s e))
        → Run s d (on_answer t (λ x. on_turned x (close s d) (λ e. run_for n s e)))
    go (answered over) q later = ends q
    go (answered (going e)) q later =
        let g : Falls d (answered (going e)) = subst (λ (x : Result Turned). Falls d x) q (turn_falls s d h) in
        goes e q (later e g.1 (omega (arith, g.0)))
    go (refused m p) q later = stops m p q

equations_wait : (k n : ℕ) → length (equations_from k n) ≡ n
equations_wait k zero = refl
equations_wait k (suc n) = ap suc (equations_wait (k + 1) n)

module _ (s : Sheet) (few : length s.equations ≤ most_waiting) where
  start_few : length (start_state s).waiting ≤ most_waiting
  unfolding start_state
  start_few = rw (equations_wait 0 (length s.equations)) few

  start_light : weight (start_state s) < turns_enough
  unfolding start_state weight
  start_light = rw (equations_wait 0 (length s.equations)) (omega arith)

  -- the run of the sheet ends, with its completion and with nothing else
  pub complete_ends : Run s (start_state s) (complete s)
  unfolding complete
  complete_ends = run_ends turns_enough s (start_state s) start_few start_light

  pub complete_once : (a : Result Table) → Run s (start_state s) a → a ≡ complete s
  unfolding complete
  complete_once a r = run_is turns_enough s (start_state s) a start_few start_light r

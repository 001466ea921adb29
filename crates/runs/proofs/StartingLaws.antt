-- The start: equations that wait one behind the other are all of them, in sheet order.
use Prim.Native.Nat.{ℕ, zero, suc, ◌+◌, ◌≤◌}
use Rattle.std.specs.Prelude.{Result as Outcome}
use Rattle.words.specs.declared.refusals.Refusal.{Refusal}
use mathlib.Core.Path.{◌≡◌, ◌∙◌}
use mathlib.Core.List.{List, [], ◌∷◌, ◌++◌, append_assoc, append-nil}
use native.Mathlib.Omega.{arith}
use borrow.Author.Tests.{lt-ltb}
use lib.ListN.{length, length-append}
use Rattle.words.specs.Refusal.{answered}
use Rattle.words.specs.Counting.{in_turn}
use Rattle.rewriting.specs.Sheet.{Line}
use Rattle.workspace.specs.Areas.{most_waiting}
use Rattle.workspace.specs.Waiting.{append, equations_from}
use Rattle.workspace.specs.Desk.{state, Leaves}
use Rattle.workspace.specs.declared.Entry.{Entry}
use Rattle.workspace.specs.declared.Entry.TheVariants.{OfEquation}
use Rattle.workspace.specs.declared.desk.Desk.{Desk}
use Rattle.runs.specs.Ends.{append_equation}

pub equation_pushed : (d e : Desk) (k : ℕ) (r : Outcome (Unit {0}) Refusal) → Leaves d e r (append (OfEquation k) (state d))
    → Leaves d e r (append_equation k (state d))
unfolding append_equation
equation_pushed d e k r o = o

-- the equations from k on behind those that wait
all_wait : (n k : ℕ) (ts : List Line) (es : List Entry) → length es + n ≤ most_waiting
    → in_turn append_equation k n (record { lines = ts; waiting = es }) ≡ answered (record { lines = ts; waiting = es ++ equations_from k n })
unfolding in_turn append_equation append
all_wait zero k ts es h = rw (append-nil es)
all_wait (suc n) k ts es h =
    let l : length (es ++ (OfEquation k ∷ [])) + n ≤ most_waiting = rw (length-append es (OfEquation k ∷ [])) (omega arith) in
    rw (lt-ltb (length es) most_waiting (omega arith)) (all_wait n (k + 1) ts (es ++ (OfEquation k ∷ [])) l ∙ rw (append_assoc es (OfEquation k ∷ []) (equations_from (k + 1) n)))

pub started : (n : ℕ) → n ≤ 64
    → in_turn append_equation 0 n (record { lines = []; waiting = [] }) ≡ answered (record { lines = []; waiting = equations_from 0 n })
started n h = all_wait n 0 [] [] (omega arith)

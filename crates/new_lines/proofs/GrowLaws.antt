-- A new line joins: what the deletions leave is where it is made, and its overlaps follow. Neither deletions nor overlaps make a line or write
-- a step, so that the new line's number and its lineage are those that were known before.
use Prim.Native.Nat.{ℕ, ◌+◌}
use Rattle.std.specs.Prelude.{Ok, Err}
use Rattle.std.specs.Prelude.{Result as Outcome}
use Rattle.words.specs.declared.refusals.Refusal.{Refusal}
use mathlib.Core.Path.{◌≡◌}
use mathlib.Core.List.{List}
use Rattle.words.specs.Refusal.{answered}
use Rattle.words.specs.Counting.{in_turn}
use Rattle.words.specs.Word.{Word}
use Rattle.workspace.specs.Waiting.{State, new_line, with_line}
use Rattle.workspace.specs.Areas.{step_area}
use Rattle.workspace.specs.Work.{steps_noted}
use Rattle.workspace.specs.Desk.{state, Makes, Leaves}
use Rattle.workspace.specs.declared.desk.Desk.{Desk}
use Rattle.workspace.proofs.StateLaws.{lines_counted}
use Rattle.workspace.proofs.DeskLaws.{makes_on, makes_same, makes_refused}
use Rattle.new_lines.specs.NewLine.{delete_by, overlaps_of_new, grow}

-- the new line's number and lineage by what they were before the deletions
as_before : (e h : Desk) (r : Outcome (Unit {0}) Refusal) (left right : Word) (k a b : ℕ) (w : List ℕ) → e.nums.lines ≡ a → e.nums.steps ≡ b → step_area e.work.now ≡ step_area w
    → Makes e (e.nums.lines + 1) (e.nums.steps + k) h r (overlaps_of_new e.nums.lines (with_line (new_line left right (steps_noted e.work.now e.nums.steps k)) (state e)))
    → Makes e (a + 1) (b + k) h r (overlaps_of_new a (with_line (new_line left right (steps_noted w b k)) (state e)))
as_before e h r left right k a b w p f g q = rw (← p, ← f, ← g) q

module _ (d e : Desk) where
  pub joined : (k s : ℕ) (x : State) (h : Desk) (r : Outcome (Unit {0}) Refusal) → Makes d k s e (Ok tt) (answered x)
      → Leaves e h r (overlaps_of_new d.nums.lines (state e)) → Makes d k s h r (overlaps_of_new d.nums.lines x)
  joined k s x h r o q = makes_same d e h k s r (answered x) (overlaps_of_new d.nums.lines) o q

  pub grown : (left right : Word) (k : ℕ) (h : Desk) (r : Outcome (Unit {0}) Refusal)
      → Leaves d e (Ok tt) (in_turn (delete_by left) 0 d.nums.lines (state d))
      → Makes e (e.nums.lines + 1) (e.nums.steps + k) h r (overlaps_of_new e.nums.lines (with_line (new_line left right (steps_noted e.work.now e.nums.steps k)) (state e)))
      → Makes d (d.nums.lines + 1) (d.nums.steps + k) h r (grow (new_line left right (steps_noted d.work.now d.nums.steps k)) (state d))
  unfolding grow
  grown left right k h r o q =
      let t = new_line left right (steps_noted d.work.now d.nums.steps k) in
      rw (lines_counted d.work.now d.nums) (makes_on d e h d.nums.lines d.nums.steps (d.nums.lines + 1) (d.nums.steps + k) r (in_turn (delete_by left) 0 d.nums.lines (state d))
      (λ x. overlaps_of_new d.nums.lines (with_line t x)) o (as_before e h r left right k d.nums.lines d.nums.steps d.work.now o.does.many o.does.made o.does.same q))

  pub grow_refused : (left right : Word) (k : ℕ) (f : Refusal) → Leaves d e (Err f) (in_turn (delete_by left) 0 d.nums.lines (state d))
      → Makes d (d.nums.lines + 1) (d.nums.steps + k) e (Err f) (grow (new_line left right (steps_noted d.work.now d.nums.steps k)) (state d))
  unfolding grow
  grow_refused left right k f o =
      let t = new_line left right (steps_noted d.work.now d.nums.steps k) in
      rw (lines_counted d.work.now d.nums) (makes_refused d e d.nums.lines d.nums.steps (d.nums.lines + 1) (d.nums.steps + k) f (in_turn (delete_by left) 0 d.nums.lines (state d))
      (λ x. overlaps_of_new d.nums.lines (with_line t x)) o)

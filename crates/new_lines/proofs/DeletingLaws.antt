-- A line is deleted exactly if it stands and the new left word stands in one of its words; then its entry joins those that wait.
use Prim.Native.Nat.{ℕ}
use Rattle.std.specs.Prelude.{Ok}
use Rattle.std.specs.Prelude.{Result as Outcome}
use Rattle.words.specs.declared.refusals.Refusal.{Refusal}
use mathlib.Core.Path.{◌≡◌}
use mathlib.Core.Bool.{Bool, true, false}
use Rattle.words.specs.Refusal.{answered}
use Rattle.words.specs.Word.{Word}
use Rattle.rewriting.specs.Standing.{stands_in}
use Rattle.rewriting.specs.Sheet.{Line, line_at}
use Rattle.workspace.specs.Waiting.{append, strike}
use Rattle.workspace.specs.Desk.{state, Leaves}
use Rattle.workspace.specs.declared.Entry.TheVariants.{OfDeleted}
use Rattle.workspace.specs.declared.desk.Desk.{Desk}
use Rattle.workspace.proofs.DeskLaws.{makes_nothing, makes_same}
use Rattle.new_lines.specs.NewLine.{reducible_by, delete_by}

-- a line that does not stand, one with the word in its left word, and one whose right word decides
module _ (left x y : Word) (t : Line) (s a b : Bool) where
  pub reducible_none : s ≡ t.stands → s ≡ false → s ≡ reducible_by left t
  unfolding reducible_by
  reducible_none e f = rw (← e, f)

  pub reducible_left : s ≡ t.stands → s ≡ true → x ≡ t.left → a ≡ stands_in left x → a ≡ true → a ≡ reducible_by left t
  unfolding reducible_by
  reducible_left e f p q g = rw (← e, f, ← p, ← q, g)

  pub reducible_right : s ≡ t.stands → s ≡ true → x ≡ t.left → a ≡ stands_in left x → a ≡ false → y ≡ t.right → b ≡ stands_in left y → b ≡ reducible_by left t
  unfolding reducible_by
  reducible_right e f p q g h k = rw (← e, f, ← p, ← q, g, ← h, ← k)

module _ (left : Word) (d : Desk) (j : ℕ) (t : Bool) where
  pub delete_none : t ≡ reducible_by left (line_at (state d).lines j) → t ≡ false → Leaves d d (Ok tt) (delete_by left j (state d))
  unfolding delete_by
  delete_none e f = rw (← e, f) (makes_nothing d)

  pub delete_one : (e h : Desk) (r : Outcome (Unit {0}) Refusal) → t ≡ reducible_by left (line_at (state d).lines j) → t ≡ true
      → Leaves d e (Ok tt) (answered (strike j (state d))) → Leaves e h r (append (OfDeleted j) (state e))
      → Leaves d h r (delete_by left j (state d))
  unfolding delete_by
  delete_one e h r q f s p = rw (← q, f)
      (makes_same d e h d.nums.lines d.nums.steps r (answered (strike j (state d))) (append (OfDeleted j)) s p)

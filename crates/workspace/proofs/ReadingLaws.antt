-- The lines of the state, read from its areas: a line that was made lies inside them, and where there is none its words are empty.
use Prim.Native.Nat.{ℕ, ◌≤◌, ◌<◌}
use mathlib.Core.Path.{◌≡◌, refl, sym, ◌∙◌, ap}
use mathlib.Core.List.{List, []}
use mathlib.Core.Bool.{Bool, true, false}
use Rattle.std.specs.Prelude.{cond}
use lib.Dec.{ltb}
use borrow.Author.Tests.{ltb-true, ltb-false}
use Rattle.rewriting.specs.Sheet.{Line, no_line, line_at}
use Rattle.layout.specs.Slices.{stands_by, line_in, line_left, line_right}
use Rattle.layout.proofs.SliceLaws.{line_at_lem, line_absent}
use Rattle.workspace.specs.Areas.{record_area, step_area, letter_area}
use Rattle.workspace.specs.Work.{state_of}
use Rattle.workspace.specs.declared.Nums.{Nums}

module _ (w : List ℕ) (n : Nums) (j : ℕ) where
  pub state_line : j < n.lines → line_at (state_of w n).lines j ≡ line_in (record_area w) (step_area w) (letter_area w) j
  unfolding state_of
  state_line l = line_at_lem (record_area w) (step_area w) (letter_area w) n.lines j l

  pub left_read : (r recs words : List ℕ) → j < n.lines → recs ≡ record_area w → words ≡ letter_area w → r ≡ line_left recs words j
      → r ≡ (line_at (state_of w n).lines j).left
  unfolding line_in
  left_read r recs words l er ew e = e ∙ rw (er, ew) (sym (ap (λ (t : Line). t.left) (state_line l)))

  pub right_read : (r recs words : List ℕ) → j < n.lines → recs ≡ record_area w → words ≡ letter_area w → r ≡ line_right recs words j
      → r ≡ (line_at (state_of w n).lines j).right
  unfolding line_in
  right_read r recs words l er ew e = e ∙ rw (er, ew) (sym (ap (λ (t : Line). t.right) (state_line l)))

  pub stands_read : (r : Bool) (recs : List ℕ) → j < n.lines → recs ≡ record_area w → r ≡ stands_by recs j → r ≡ (line_at (state_of w n).lines j).stands
  unfolding line_in
  stands_read r recs l er e = e ∙ rw er (sym (ap (λ (t : Line). t.stands) (state_line l)))

  no_line_lem : n.lines ≤ j → line_at (state_of w n).lines j ≡ no_line
  unfolding state_of
  no_line_lem l = line_absent (record_area w) (step_area w) (letter_area w) n.lines j l

  -- a side that is empty where there is no line
  module _ (r recs words : List ℕ) (m : ℕ) (er : recs ≡ record_area w) (ew : words ≡ letter_area w) (em : m ≡ n.lines) where
    pub any_left_read : r ≡ cond (ltb j m) (line_left recs words j) [] → r ≡ (line_at (state_of w n).lines j).left
    any_left_read e = go (ltb j n.lines) refl
      where
        go : (b : Bool) → ltb j n.lines ≡ b → r ≡ (line_at (state_of w n).lines j).left
        go true q = left_read r recs words (ltb-true j n.lines q) er ew (e ∙ rw (em, q))
        go false q = e ∙ rw (em, q) (sym (ap (λ (t : Line). t.left) (no_line_lem (ltb-false j n.lines q))))

    pub any_right_read : r ≡ cond (ltb j m) (line_right recs words j) [] → r ≡ (line_at (state_of w n).lines j).right
    any_right_read e = go (ltb j n.lines) refl
      where
        go : (b : Bool) → ltb j n.lines ≡ b → r ≡ (line_at (state_of w n).lines j).right
        go true q = right_read r recs words (ltb-true j n.lines q) er ew (e ∙ rw (em, q))
        go false q = e ∙ rw (em, q) (sym (ap (λ (t : Line). t.right) (no_line_lem (ltb-false j n.lines q))))

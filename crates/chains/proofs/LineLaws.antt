-- A line that three slices hold: its sides are those that its record stores, and so is whether it stands.
use Prim.Native.Nat.{ℕ, ◌<◌}
use mathlib.Core.Path.{◌≡◌, ap}
use mathlib.Core.List.{List}
use Rattle.rewriting.specs.Sheet.{Line, line_at}
use Rattle.layout.specs.Slices.{stands_by, line_in, lines_in, line_left, line_right}
use Rattle.layout.proofs.SliceLaws.{line_at_lem}

module _ (recs steps words : List ℕ) (n j : ℕ) (h : j < n) where
  pub left_of_lem : (line_at (lines_in recs steps words n) j).left ≡ line_left recs words j
  unfolding line_in
  left_of_lem = ap (λ (t : Line). t.left) (line_at_lem recs steps words n j h)

  pub right_of_lem : (line_at (lines_in recs steps words n) j).right ≡ line_right recs words j
  unfolding line_in
  right_of_lem = ap (λ (t : Line). t.right) (line_at_lem recs steps words n j h)

  pub stands_of : (line_at (lines_in recs steps words n) j).stands ≡ stands_by recs j
  unfolding line_in
  stands_of = ap (λ (t : Line). t.stands) (line_at_lem recs steps words n j h)

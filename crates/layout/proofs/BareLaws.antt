-- Lines read without their steps have the same sides as with them, and the same lines stand; so where no step is looked at, no steps need be lent.
use Prim.Native.Nat.{ℕ, ◌<◌}
use mathlib.Core.Path.{◌≡◌, refl, sym, ◌∙◌, ap}
use mathlib.Core.List.{List, []}
use native.Mathlib.Omega.{arith}
use native.Mathlib.Decide.{dec_lt}
use lib.ListN.{length}
use Rattle.rewriting.specs.Sheet.{Line, line_at}
use Rattle.layout.specs.Slices.{line_in, lines_in}
use Rattle.layout.proofs.SliceLaws.{lines_long, line_at_lem, line_absent}

module _ (recs steps words : List ℕ) (n : ℕ) where
  pub bare_long : length (lines_in recs steps words n) ≡ length (lines_in recs [] words n)
  bare_long = lines_long recs steps words n ∙ sym (lines_long recs [] words n)

  -- what no line has from its steps
  bare : {A : Type 0} (of : Line → A) → ((j : ℕ) → of (line_in recs steps words j) ≡ of (line_in recs [] words j)) → (j : ℕ)
      → of (line_at (lines_in recs steps words n) j) ≡ of (line_at (lines_in recs [] words n) j)
  bare of same j = go (dec_lt j n)
    where
      go : Dec (j < n) → of (line_at (lines_in recs steps words n) j) ≡ of (line_at (lines_in recs [] words n) j)
      go (yes h) = ap of (line_at_lem recs steps words n j h) ∙ same j ∙ sym (ap of (line_at_lem recs [] words n j h))
      go (no h) = ap of (line_absent recs steps words n j (omega arith) ∙ sym (line_absent recs [] words n j (omega arith)))

  pub bare_left : (j : ℕ) → (line_at (lines_in recs steps words n) j).left ≡ (line_at (lines_in recs [] words n) j).left
  unfolding line_in
  bare_left j = bare (λ (t : Line). t.left) (λ i. refl) j

  pub bare_right : (j : ℕ) → (line_at (lines_in recs steps words n) j).right ≡ (line_at (lines_in recs [] words n) j).right
  unfolding line_in
  bare_right j = bare (λ (t : Line). t.right) (λ i. refl) j

  pub bare_stands : (j : ℕ) → (line_at (lines_in recs steps words n) j).stands ≡ (line_at (lines_in recs [] words n) j).stands
  unfolding line_in
  bare_stands j = bare (λ (t : Line). t.stands) (λ i. refl) j

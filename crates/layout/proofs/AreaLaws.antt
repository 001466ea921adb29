-- The areas that the code cuts out of a file are those of the definition: the same bytes from the same places on.
use Prim.Native.Nat.{ℕ, ◌-◌, ◌*◌}
use native.Mathlib.Omega.{arith}
use mathlib.Core.Path.{◌≡◌, ◌∙◌}
use mathlib.Core.List.{List}
use lib.ListN.{length, take, drop, length-take, length-drop}
use lib.Seq.{take_all}
use Rattle.layout.specs.declared.Kind.{Kind}
use Rattle.layout.specs.declared.Header.{Header}
use Rattle.layout.specs.Header.{step_width, header_of, records_at, steps_at, words_at, records_of, steps_of, words_of}
use Rattle.layout.specs.Judged.{Head}

-- an area from a place on to the next area's
module _ (b : List ℕ) (k : Kind) (h : Header) (s : ℕ) (e : h ≡ header_of b) where
  pub records_are : (t : ℕ) → s ≡ records_at k h → t ≡ steps_at k h → take (t - s) (drop s b) ≡ records_of k b
  unfolding records_of
  records_are t f g = let q : t - s ≡ k.width * h.pairs = omega arith in rw (q, f, e)

  pub steps_are : (t : ℕ) → s ≡ steps_at k h → t ≡ words_at k h → take (t - s) (drop s b) ≡ steps_of k b
  unfolding steps_of
  steps_are t f g = let q : t - s ≡ step_width * h.steps = omega arith in rw (q, f, e)

  -- and the rest of the file
  pub words_are : s ≡ words_at k h → take (length b - s) (drop s b) ≡ words_of k b
  unfolding words_of
  words_are f = take_all (length b - s) (drop s b) (rw length-drop (omega arith)) ∙ rw (f, e)

-- the length of the records
pub records_long : (k : Kind) (b r : List ℕ) (h : Header) → Head k h (length b) → h ≡ header_of b → r ≡ records_of k b → length r ≡ k.width * h.pairs
unfolding records_of
records_long k b r h i e f = rw (f, ← e, length-take, length-drop) (omega (arith, i.inside))

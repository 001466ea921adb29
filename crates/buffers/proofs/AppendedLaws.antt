-- Pieces put one behind the other are one piece.
use Prim.Native.Nat.{ℕ, ◌+◌, ◌≤◌}
use native.Mathlib.Omega.{arith}
use mathlib.Core.Path.{refl, sym, ◌∙◌}
use mathlib.Core.List.{List, [], ◌++◌}
use lib.ListN.{length, length-append}
use Rattle.buffers.specs.Appended.{Appended}
use Rattle.buffers.proofs.WrittenLaws.{written_nothing, written_two}

-- no piece
pub nothing_put : (d : List ℕ) (at most : ℕ) → Appended d d at at most []
nothing_put d at most = record { ends = omega arith; short = omega arith; output = sym (written_nothing d at); size = refl }

-- a longer piece would have been allowed
pub within_put : (d b x : List ℕ) (at r k most : ℕ) → Appended d b at r k x → k ≤ most → Appended d b at r most x
within_put d b x at r k most p h = record { ends = p.ends; short = omega (arith, p.short); output = p.output; size = p.size }

pub two_pieces : (d b c x y : List ℕ) (at m r k l most : ℕ) → Appended d b at m k x → Appended b c m r l y → at + most ≤ length d → k + l ≤ most
    → Appended d c at r most (x ++ y)
two_pieces d b c x y at m r k l most p q h g = record {
  ends = rw (length-append x y) (omega (arith, p.ends, q.ends));
  short = rw (length-append x y) (omega (arith, p.short, q.short));
  output = q.output ∙ rw (p.output, p.ends) (written_two d x y at (length x) refl (omega (arith, p.short)));
  size = q.size ∙ p.size;
}

-- Bytes written into a lent buffer. The library's `paste d at s n` is d with the first n elements of s from the place at on.
use Rattle.std.specs.Prelude.{ℕ, List, length}
use Rattle.std.proofs.Math.Seq.{paste}

-- the buffer with all of w from the place at on; the rest keeps its bytes
abbrev pub written : List ℕ → ℕ → List ℕ → List ℕ
written out at w = paste out at w (length w)

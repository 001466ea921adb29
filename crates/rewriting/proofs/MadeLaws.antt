-- A word made at the start of a buffer is read there again, by the length that was given.
use Prim.Native.Nat.{ℕ}
use mathlib.Core.Path.{◌≡◌, sym, ◌∙◌, ap}
use mathlib.Core.List.{List}
use native.Mathlib.Omega.{arith}
use lib.ListN.{length, take}
use lib.Seq.{paste}
use Rattle.words.specs.Word.{Word}
use Rattle.buffers.specs.Written.{written}
use Rattle.buffers.proofs.WrittenLaws.{written_front, written_long}
use Rattle.rewriting.specs.Made.{Made}

module _ (x : Word) (d b : List ℕ) (r : ℕ) (m : Made x d b r) where
  pub made_front : take r b ≡ x
  made_front = written_front d b x m.written r m.long

  pub made_counted : r ≡ length (take r b)
  made_counted = m.long ∙ sym (ap length made_front)

  pub made_room : length b ≡ length d
  made_room = written_long d b x m.written (omega (arith, m.long, m.fits))

  -- copied to a place of a second buffer from there
  pub made_put : (o c : List ℕ) (at : ℕ) → c ≡ paste o at (take r b) (length (take r b)) → c ≡ written o at x
  made_put o c at e = rw made_front at e

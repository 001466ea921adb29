-- A piece put into an output at a place: where it ends, at most how long it is, and every byte of the output.
use Rattle.std.specs.Prelude.{ℕ, ◌+◌, ◌≤◌, ◌≡◌, List, length}
use Rattle.buffers.specs.Written.{written}

pub record Appended (before after : List ℕ) (at end most : ℕ) (piece : List ℕ) : Type 0 where
  pub ends : end ≡ at + length piece
  pub short : length piece ≤ most
  pub output : after ≡ written before at piece
  pub size : length after ≡ length before

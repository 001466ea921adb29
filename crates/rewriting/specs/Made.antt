-- Inner: no public promise uses the names of this file.
-- What a function leaves that makes a word at the start of a lent buffer and gives its length.
use Rattle.std.specs.Prelude.{ℕ, ◌≤◌, ◌≡◌, List, length}
use Rattle.words.specs.Word.{Word}
use Rattle.buffers.specs.Written.{written}

-- the word x, of r letters, stands at the start of the buffer, which was d and is b; the rest keeps its bytes
pub record Made (x : Word) (d b : List ℕ) (r : ℕ) : Type 0 where
  pub long : r ≡ length x
  pub fits : r ≤ length d
  pub written : b ≡ written d 0 x

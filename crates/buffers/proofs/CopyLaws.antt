-- Copying, byte by byte: a copy of i bytes is one store away from a copy of i + 1.
use Prim.Native.Nat.{ℕ, ◌+◌, ◌≤◌, ◌<◌}
use mathlib.Core.Path.{◌≡◌}
use mathlib.Core.List.{List}
use native.Mathlib.Omega.{arith}
use native.Mathlib.Numerals.{add-one}
use lib.ListN.{length, get_or, set}
use lib.Seq.{paste, paste-zero, paste-suc}

-- b is d with the first i bytes of s copied to the place at
unfoldable pub Copied : List ℕ → ℕ → List ℕ → ℕ → List ℕ → Type 0
Copied d at s i b = b ≡ paste d at s i

module _ (d : List ℕ) (at : ℕ) (s : List ℕ) where
  pub copy_start : Copied d at s 0 d
  unfolding Copied
  copy_start = paste-zero d at s

  pub copy_on : (i : ℕ) (b : List ℕ) → Copied d at s i b → i < length s → at + length s ≤ length d → Copied d at s (i + 1) (set b (at + i) (get_or s i 0))
  unfolding Copied
  copy_on i b e h f = rw (e, add-one i) (paste-suc d at s i 0 (omega arith) h)

  pub copy_end : (i : ℕ) (b : List ℕ) → Copied d at s i b → i ≤ length s → length s ≤ i → b ≡ paste d at s (length s)
  unfolding Copied
  copy_end i b e h f = let q : i ≡ length s = omega arith in rw (← q) e

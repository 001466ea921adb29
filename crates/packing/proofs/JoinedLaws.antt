-- Pieces in rising order, put one behind the other: with one more behind those that have been put, one more has been put.
use Prim.Native.Nat.{ℕ, zero, suc, ◌+◌, ◌*◌, ◌≤◌}
use native.Mathlib.Omega.{arith}
use mathlib.Core.Path.{◌≡◌, sym, ◌∙◌, ap}
use mathlib.Core.List.{List, ◌++◌, append_assoc, append-nil}
use lib.ListN.{length, length-append}
use Rattle.buffers.specs.Written.{written}
use Rattle.buffers.proofs.WrittenLaws.{written_two, written_nothing}
use Rattle.packing.specs.Pieces.{joined}

module _ (f : ℕ → List ℕ) where
  pub joined_two : (n m k : ℕ) → joined f k n ++ joined f (k + n) m ≡ joined f k (n + m)
  unfolding joined
  joined_two zero m k = let e : k + 0 ≡ k = omega arith in let z : 0 + m ≡ m = omega arith in rw (e, z)
  joined_two (suc n) m k =
      let e : k + suc n ≡ k + 1 + n = omega arith in
      let z : suc n + m ≡ suc (n + m) = omega arith in
      rw (e, z, append_assoc (f k) (joined f (k + 1) n) (joined f (k + 1 + n) m), joined_two n m (k + 1))

  pub joined_more : (j : ℕ) → joined f 0 (j + 1) ≡ joined f 0 j ++ f j
  unfolding joined
  joined_more j = let z : 0 + j ≡ j = omega arith in sym (ap (λ (x : List ℕ). joined f 0 j ++ x) (rw z (sym (append-nil (f j)))) ∙ joined_two j 1 0)

  module _ (w : ℕ) (wide : (j : ℕ) → length (f j) ≡ w) where
    pub joined_long : (n k : ℕ) → length (joined f k n) ≡ w * n
    unfolding joined
    joined_long zero k = omega arith
    joined_long (suc n) k = rw (length-append (f k) (joined f (k + 1) n), wide k, joined_long n (k + 1)) (omega arith)

-- b is d with the first j pieces put from the place at on
unfoldable pub Joined : (ℕ → List ℕ) → List ℕ → ℕ → List ℕ → ℕ → Type 0
Joined f d at b j = b ≡ written d at (joined f 0 j)

module _ (f : ℕ → List ℕ) (d : List ℕ) (at : ℕ) where
  pub joined_start : Joined f d at d 0
  unfolding Joined joined
  joined_start = sym (written_nothing d at)

  pub joined_on : (b c : List ℕ) (j m : ℕ) → Joined f d at b j → length (joined f 0 j) ≡ m → at + m ≤ length d → c ≡ written b (at + m) (f j)
      → Joined f d at c (j + 1)
  unfolding Joined
  joined_on b c j m s l h e = e ∙ rw (s, joined_more f j) (written_two d (joined f 0 j) (f j) at m l h)

  pub joined_end : (b : List ℕ) (j n : ℕ) → Joined f d at b j → j ≤ n → n ≤ j → b ≡ written d at (joined f 0 n)
  unfolding Joined
  joined_end b j n s h l = let e : n ≡ j = omega arith in rw e s

-- Going through numbers in rising order: the library's test of a range is the definition's. In a loop, whatever the numbers before k were, none of
-- them passed: what is left to find out is the same question from k on.
use Prim.Native.Nat.{ℕ, zero, suc, ◌+◌, ◌-◌, ◌≤◌, ◌<◌}
use mathlib.Core.Path.{◌≡◌, refl, sym, ◌∙◌}
use mathlib.Core.Bool.{Bool, true, false, ◌||◌}
use native.Mathlib.Omega.{arith}
use Rattle.std.specs.List.{list_any, range_with_len}
use Rattle.words.specs.Counting.{any_from}

pub any_is : (t : ℕ → Bool) (k n : ℕ) → list_any t (range_with_len k n) ≡ any_from t k n
unfolding any_from
any_is t k zero = refl
any_is t k (suc n) = rw (any_is t (k + 1) n) refl

unfoldable pub Tried : (ℕ → Bool) → ℕ → ℕ → Type 0
Tried t n k = any_from t 0 n ≡ any_from t k (n - k)

module _ (t : ℕ → Bool) (n : ℕ) where
  pub tried_none : Tried t n 0
  unfolding Tried
  tried_none = let e : n - 0 ≡ n = omega arith in rw e

  -- the definition at the number k
  tried_next : (k : ℕ) → Tried t n k → k < n → any_from t 0 n ≡ t k || any_from t (k + 1) (n - (k + 1))
  unfolding Tried any_from
  tried_next k s h = let e : n - k ≡ suc (n - (k + 1)) = omega arith in s ∙ rw e

  pub tried_on : (k : ℕ) (b : Bool) → Tried t n k → k < n → b ≡ t k → b ≡ false → Tried t n (k + 1)
  unfolding Tried
  tried_on k b s h e f = tried_next k s h ∙ rw (← e, f)

  pub tried_hit : (k : ℕ) (b : Bool) → Tried t n k → k < n → b ≡ t k → b ≡ true → true ≡ any_from t 0 n
  tried_hit k b s h e f = sym (tried_next k s h ∙ rw (← e, f))

  pub tried_end : (k : ℕ) → Tried t n k → n ≤ k → false ≡ any_from t 0 n
  unfolding Tried any_from
  tried_end k s h = let e : n - k ≡ 0 = omega arith in sym (s ∙ rw e)

-- Going through numbers until one refuses: whatever the first k were, the verdict on all is the verdict on those from k on, `Passed`. One law for
-- each way that a loop goes on or ends; they hold for every test, so every condition uses them. And what all numbers meet, each meets.
use Prim.Native.Nat.{ℕ, zero, suc, ◌+◌, ◌-◌, ◌<◌}
use native.Mathlib.Omega.{arith}
use mathlib.Core.Path.{◌≡◌, refl, sym, ◌∙◌}
use mathlib.Core.Bool.{Bool, true, false}
use Rattle.words.specs.Refusal.{answered, refused, on_answer}
use Rattle.words.specs.Counting.{in_turn}
use Rattle.words.specs.Answer.{refused_by}
use Rattle.words.specs.declared.refusals.Refusal.{Refusal}
use Rattle.chains.specs.Verdict.{Verdict, met, unless, each}

unfoldable pub Passed : (ℕ → Verdict) → ℕ → ℕ → Type 0
Passed f n k = each n f ≡ in_turn (λ i s. f i) k (n - k) tt

module _ (f : ℕ → Verdict) (n : ℕ) where
  pub passed_none : Passed f n 0
  unfolding Passed
  passed_none = let e : n - 0 ≡ n = omega arith in rw e

  next : (k : ℕ) → Passed f n k → k < n → each n f ≡ on_answer (f k) (λ t. in_turn (λ i s. f i) (k + 1) (n - (k + 1)) t)
  unfolding Passed in_turn
  next k p l = let e : n - k ≡ suc (n - (k + 1)) = omega arith in p ∙ rw e

  pub passed_on : (k : ℕ) (u : Unit {0}) → Passed f n k → k < n → answered u ≡ f k → Passed f n (k + 1)
  unfolding Passed
  passed_on k u p l e = next k p l ∙ rw (sym e)

  pub passed_no : (k : ℕ) (r : Refusal) → Passed f n k → k < n → refused_by r ≡ f k → refused_by r ≡ each n f
  passed_no k r p l e = sym (next k p l ∙ rw (sym e))

  pub passed_end : Passed f n n → met ≡ each n f
  unfolding Passed in_turn
  passed_end p = let e : n - n ≡ 0 = omega arith in sym (p ∙ rw e)

-- a verdict that is met is not refused
pub met_split : (v : Verdict) (f : Unit {0} → Verdict) → on_answer v f ≡ met → (v ≡ met) × (f tt ≡ met)
met_split (answered tt) f e = (refl, e)
met_split (refused n p) f e = let z : ◌≡◌ {A = ℕ} 0 1 = cc in absurd (omega arith)

pub unless_met : (b : Bool) (n p : ℕ) → unless b n p ≡ met → b ≡ true
unless_met true n p e = refl
unless_met false n p e = let z : ◌≡◌ {A = ℕ} 0 1 = cc in absurd (omega arith)

-- each number meets what all of them meet
turn_met : (f : ℕ → Verdict) (n k : ℕ) → in_turn (λ i s. f i) k n tt ≡ met → (j : ℕ) → j < n → f (k + j) ≡ met
unfolding in_turn
turn_met f zero k e j l = absurd (omega arith)
turn_met f (suc n) k e zero l = let z : k + 0 ≡ k = omega arith in rw z (met_split (f k) (λ t. in_turn (λ i s. f i) (k + 1) n t) e).0
turn_met f (suc n) k e (suc j) l =
    let z : k + suc j ≡ k + 1 + j = omega arith in
    rw z (turn_met f n (k + 1) (met_split (f k) (λ t. in_turn (λ i s. f i) (k + 1) n t) e).1 j (omega arith))

pub each_met : (n : ℕ) (f : ℕ → Verdict) → each n f ≡ met → (k : ℕ) → k < n → f k ≡ met
each_met n f e k l = let z : 0 + k ≡ k = omega arith in rw z at (turn_met f n 0 e k l)

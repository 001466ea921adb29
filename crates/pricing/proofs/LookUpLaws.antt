-- What a look-up says. The fare found is that of a price with the word, the first one; none is found only where no price has the word; and where no word
-- has two fares it is the fare of every price with the word.
use Prim.Native.Nat.{ℕ, zero, suc, ◌<◌}
use native.Mathlib.Omega.{arith}
use mathlib.Core.Path.{◌≡◌, refl, sym, ◌∙◌}
use mathlib.Core.List.{List, [], ◌∷◌}
use mathlib.Core.Bool.{Bool, true, false, cond, true≢false}
use lib.ListN.{length}
use Rattle.words.specs.Word.{Word}
use Rattle.rewriting.specs.Steps.{same_word}
use Rattle.rewriting.proofs.LineageLaws.{same_word_lem, word_same}
use Rattle.prices.specs.Price.{Price, price_at}
use Rattle.pricing.specs.Prices.{Fare, no_fare, costs, fare_of}

-- how a look-up ends
pub data Looked (qs : List Price) (w : Word) : Fare → Type 0 where
  -- the price k, and none before it, has the word
  found : (k : ℕ) → k < length qs → (price_at qs k).word ≡ w → ((j : ℕ) → j < k → (price_at qs j).word ≡ w → ⊥) → Looked qs w (costs (price_at qs k).fare)
  missing : ((k : ℕ) → k < length qs → (price_at qs k).word ≡ w → ⊥) → Looked qs w no_fare

pub looked : (qs : List Price) (w : Word) → Looked qs w (fare_of qs w)
unfolding fare_of
looked [] w = missing (λ k h e. omega arith)
looked (q ∷ qs) w = go (same_word q.word w) refl (fare_of qs w) (looked qs w)
  where
    other : same_word q.word w ≡ false → q.word ≡ w → ⊥
    other e f = true≢false (sym (word_same w) ∙ rw f at e)

    behind : same_word q.word w ≡ false → (n : ℕ) → ((j : ℕ) → j < n → (price_at qs j).word ≡ w → ⊥) → (j : ℕ) → j < suc n → (price_at (q ∷ qs) j).word ≡ w → ⊥
    behind e n g zero h f = other e f
    behind e n g (suc j) h f = g j (omega arith) f

    go : (t : Bool) → same_word q.word w ≡ t → (x : Fare) → Looked qs w x → Looked (q ∷ qs) w (cond t (costs q.fare) x)
    go true e x l = found 0 (omega arith) (same_word_lem q.word w e) (λ j h f. omega arith)
    go false e x (found k h f g) = found (suc k) (omega arith) f (behind e k g)
    go false e x (missing g) = missing (behind e (length qs) g)

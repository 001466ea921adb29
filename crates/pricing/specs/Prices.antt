-- Prices by normal words. Every price word is reduced, and a journey has the fare of the entry whose normal word is its own. One normal word may stand in
-- several entries if their fares are equal; else 17 is given, at the lowest entry that has another fare than an earlier one.
use Rattle.std.specs.Prelude.{ℕ, List, [], ◌∷◌, Bool, cond, not, ◌&&◌, eqb, length}
use Rattle.words.specs.Word.{Word}
use Rattle.words.specs.Counting.{any_from}
use Rattle.words.specs.Refusal.{Result, answered, on_answer}
use Rattle.rewriting.specs.Search.{Rule}
use Rattle.rewriting.specs.Normal.{normal_of}
use Rattle.rewriting.specs.Steps.{same_word}
use Rattle.chains.specs.Verdict.{Verdict, unless, each}
use Rattle.prices.specs.Price.{Price, price_at}

-- the price with its word reduced
unfoldable pub reduced_price : List Rule → ℕ → Price → Result Price
reduced_price rs allowance p = on_answer (normal_of rs allowance p.word) (λ z. answered (record { word = z.word; fare = p.fare }))

-- two fares for one word
unfoldable pub two_fares : Price → Price → Bool
two_fares p q = same_word p.word q.word && not (eqb p.fare q.fare)

-- the price k has another fare than an earlier one for the same word
unfoldable pub differs : List Price → ℕ → Bool
differs qs k = any_from (λ j. two_fares (price_at qs k) (price_at qs j)) 0 k

-- one fare for each word, or the lowest price that differs
unfoldable pub fare_verdict : List Price → Verdict
fare_verdict qs = each (length qs) (λ k. unless (not (differs qs k)) 17 k)

-- what a word costs
pub data Fare : Type 0 where
  no_fare : Fare
  costs : ℕ → Fare

-- what the price with the word says
unfoldable pub fare_of : List Price → Word → Fare
fare_of [] w = no_fare
fare_of (q ∷ qs) w = cond (same_word q.word w) (costs q.fare) (fare_of qs w)

-- Journeys and what they cost. At most 64 journeys are lent, one's letters behind the other's, with a list of their lengths, which must add up to the
-- letters there are, or 1. Behind the files' refusals come, in this order: 5 or 6 of the price words, 17, and then, journey by journey, 4, 5 or
-- 6. Every word has the whole allowance.
use Rattle.std.specs.Prelude.{ℕ, ◌+◌, List, [], ◌∷◌, Bool, cond, ◌&&◌, leb, eqb, length, take, drop}
use Rattle.words.specs.Word.{Word}
use Rattle.words.specs.Comparing.{query_word}
use Rattle.words.specs.Refusal.{Result, answered, refused, on_answer}
use Rattle.rewriting.specs.Search.{Rule}
use Rattle.rewriting.specs.Normal.{normal_of}
use Rattle.prices.specs.Price.{Price}
use Rattle.pricing.specs.Answers.{answers_of}
use Rattle.pricing.specs.Prices.{reduced_price, fare_verdict, Fare, fare_of}

-- the most journeys of a call
abbrev pub journey_limit : ℕ
journey_limit = 64

unfoldable pub add_up : List ℕ → ℕ
add_up [] = 0
add_up (n ∷ ns) = n + add_up ns

-- not too many journeys, whose lengths add up
unfoldable pub journeys_fit : List ℕ → List ℕ → Bool
journeys_fit letters lengths = leb (length lengths) journey_limit && eqb (add_up lengths) (length letters)

-- the journeys, cut off one behind the other
unfoldable pub journeys_of : List ℕ → List ℕ → List Word
journeys_of letters [] = []
journeys_of letters (n ∷ ns) = take n letters ∷ journeys_of (drop n letters) ns

-- what a journey over n letters costs, by the reduced prices
unfoldable pub journey_fare : ℕ → List Rule → ℕ → List Price → Word → Result Fare
journey_fare n rs allowance qs w =
    cond (query_word n w) (on_answer (normal_of rs allowance w) (λ z. answered (fare_of qs z.word))) (refused 4 0)

-- what each journey costs, if the reduced prices have no word of two fares
unfoldable pub fares_with : ℕ → List Rule → ℕ → List Price → List Word → Result (List Fare)
fares_with n rs allowance qs ws = on_answer (fare_verdict qs) (λ _. answers_of (journey_fare n rs allowance qs) ws)

-- what each journey costs: all price words are reduced before that
unfoldable pub journey_fares : ℕ → List Rule → ℕ → List Price → List Word → Result (List Fare)
journey_fares n rs allowance ps ws = on_answer (answers_of (reduced_price rs allowance) ps) (λ qs. fares_with n rs allowance qs ws)

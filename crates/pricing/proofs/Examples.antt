-- Worked examples: both sides of each equation compute to the same value. One rule, aa to a; letters a and b.
use Prim.Native.Nat.{ℕ}
use mathlib.Core.Path.{◌≡◌, refl}
use mathlib.Core.List.{List, [], ◌∷◌}
use Rattle.words.specs.Word.{Word, letters_below}
use Rattle.words.specs.Comparing.{query_word}
use Rattle.words.specs.Counting.{any_from, in_turn}
use Rattle.words.specs.Refusal.{Result, answered, refused}
use Rattle.rewriting.specs.Standing.{begins, stands_at}
use Rattle.rewriting.specs.Search.{Rule, rule_at, search_from, search}
use Rattle.rewriting.specs.Normal.{word_turn, normal_from, normal_of}
use Rattle.rewriting.specs.Steps.{same_word}
use Rattle.prices.specs.Price.{Price}
use Rattle.pricing.specs.Answers.{answers_of}
use Rattle.pricing.specs.Prices.{reduced_price, two_fares, differs, fare_verdict, Fare, no_fare, costs, fare_of}
use Rattle.pricing.specs.Journeys.{journeys_of, journey_fare, fares_with, journey_fares}

abbrev shorter : List Rule
shorter = record { line = 0; left = 0 ∷ 0 ∷ []; right = 0 ∷ [] } ∷ []

abbrev price : Word → ℕ → Price
price w f = record { word = w; fare = f }

abbrev fares_by : ℕ → List Price → List Word → Result (List Fare)
fares_by allowance ps ws = journey_fares 2 shorter allowance ps ws

-- a journey costs what the price word with its normal word says; a word may stand twice with one fare
looked_up : fares_by 9 (price (0 ∷ 0 ∷ 0 ∷ []) 4 ∷ price (1 ∷ []) 2 ∷ price (0 ∷ []) 4 ∷ []) (journeys_of (0 ∷ 0 ∷ 1 ∷ 1 ∷ 0 ∷ 0 ∷ 1 ∷ []) (2 ∷ 1 ∷ 3 ∷ 0 ∷ 1 ∷ [])) ≡ answered (costs 4 ∷ costs 2 ∷ no_fare ∷ no_fare ∷ costs 2 ∷ [])
unfolding letters_below query_word any_from in_turn begins stands_at rule_at search_from search word_turn normal_from normal_of same_word answers_of reduced_price two_fares differs fare_verdict fare_of journeys_of journey_fare fares_with journey_fares
looked_up = refl

-- 17 at the lowest price that differs from an earlier one
clash : fares_by 9 (price (0 ∷ []) 4 ∷ price (1 ∷ []) 2 ∷ price (0 ∷ 0 ∷ []) 5 ∷ price (0 ∷ []) 6 ∷ []) [] ≡ refused 17 2
unfolding letters_below query_word any_from in_turn begins stands_at rule_at search_from search word_turn normal_from normal_of same_word answers_of reduced_price two_fares differs fare_verdict fare_of journeys_of journey_fare fares_with journey_fares
clash = refl

-- all price words are reduced before it
clash_later : fares_by 1 (price (0 ∷ []) 4 ∷ price (0 ∷ 0 ∷ []) 5 ∷ price (0 ∷ 0 ∷ 0 ∷ []) 1 ∷ []) [] ≡ refused 5 0
unfolding letters_below query_word any_from in_turn begins stands_at rule_at search_from search word_turn normal_from normal_of same_word answers_of reduced_price two_fares differs fare_verdict fare_of journeys_of journey_fare fares_with journey_fares
clash_later = refl

-- and it comes before any journey
clash_first : fares_by 1 (price (0 ∷ []) 4 ∷ price (0 ∷ 0 ∷ []) 5 ∷ []) ((7 ∷ []) ∷ []) ≡ refused 17 1
unfolding letters_below query_word any_from in_turn begins stands_at rule_at search_from search word_turn normal_from normal_of same_word answers_of reduced_price two_fares differs fare_verdict fare_of journeys_of journey_fare fares_with journey_fares
clash_first = refl

-- the first journey at fault refuses the call
first_fault : fares_by 1 [] ((0 ∷ []) ∷ (0 ∷ 0 ∷ 0 ∷ []) ∷ (7 ∷ []) ∷ []) ≡ refused 5 0
unfolding letters_below query_word any_from in_turn begins stands_at rule_at search_from search word_turn normal_from normal_of same_word answers_of reduced_price two_fares differs fare_verdict fare_of journeys_of journey_fare fares_with journey_fares
first_fault = refl

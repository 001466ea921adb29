-- Fares as what is stored for them: a number, or none.
use Rattle.std.specs.Prelude.{ℕ, List, get_or, Option, None, Some}
use Rattle.std.specs.Prelude.{Result as Outcome}
use Rattle.words.specs.Refusal.{Result}
use Rattle.words.specs.Answer.{result_as}
use Rattle.words.specs.declared.refusals.Refusal.{Refusal}
use Rattle.layout.specs.Slices.{list_from}
use Rattle.pricing.specs.Prices.{Fare, no_fare, costs}

abbrev pub fare_by : Option ℕ → Fare
fare_by None = no_fare
fare_by (Some x) = costs x

abbrev pub fared_as : Outcome (Option ℕ) Refusal → Result Fare
fared_as = result_as fare_by

-- as many fares as a byte can name
abbrev pub fares_size : ℕ
fares_size = 256

-- the fares of the first n journeys
unfoldable pub fares_in : List (Option ℕ) → ℕ → List Fare
fares_in fares n = list_from (λ j. fare_by (get_or fares j None)) 0 n

-- Inner: no public promise uses the names of this file.
-- What the fares found stand for.
use Rattle.std.specs.Prelude.{List}
use Rattle.std.specs.Prelude.{Result as Outcome}
use Rattle.words.specs.Refusal.{Result}
use Rattle.words.specs.Answer.{result_as}
use Rattle.words.specs.declared.refusals.Refusal.{Refusal}
use Rattle.pricing.specs.Prices.{Fare}
use Rattle.pricing.specs.Fares.{fares_in}
use Rattle.pricing.specs.declared.stored.Fares.{Fares}

-- the fare of each journey
abbrev pub fare_list : Fares → List Fare
fare_list fs = fares_in fs.of fs.n

abbrev pub fares_as : Outcome Fares Refusal → Result (List Fare)
fares_as = result_as fare_list

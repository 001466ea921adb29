-- Reduced prices as they are kept: a list of normal words; each fare stays in the price's record.
use Rattle.std.specs.Prelude.{ℕ, List, [], get_or}
use Rattle.std.specs.Prelude.{Result as Outcome}
use Rattle.words.specs.Word.{Word}
use Rattle.words.specs.Refusal.{Result}
use Rattle.words.specs.Answer.{result_as}
use Rattle.words.specs.declared.refusals.Refusal.{Refusal}
use Rattle.layout.specs.Slices.{list_from}
use Rattle.prices.specs.Price.{Price}
use Rattle.prices.specs.Slices.{price_fare}
use Rattle.pricing.specs.declared.keeping.Kept.{Kept}

-- the price j, with its word reduced
unfoldable pub kept_price : List Word → List ℕ → ℕ → Price
kept_price words recs j = record { word = get_or words j []; fare = price_fare recs j }

unfoldable pub kept_prices : List Word → List ℕ → ℕ → List Price
kept_prices words recs n = list_from (kept_price words recs) 0 n

-- all prices kept
abbrev pub kept_list : Kept → List Price
kept_list k = kept_prices k.words k.prices.recs.now k.prices.n

abbrev pub kept_as : Outcome Kept Refusal → Result (List Price)
kept_as = result_as kept_list

-- A journey's letters lie inside; with its fare stored the next one is due.
use Rattle.std.proofs.Common.{rules}
use Rattle.pricing.proofs.FareLaws.{faring_on, sum_on, sum_inside}
use Rattle.pricing.proofs.JourneyLaws.{journeys_few}
use Rattle.pricing.proofs.fares.journey_fares.Goals as goal

pub slice_bounds-journey_fare-end : goal.slice_bounds-journey_fare-end
slice_bounds-journey_fare-end g c = search (rules, sum_inside)

pub loop-j-preserved : goal.loop-j-preserved
loop-j-preserved g c = (search rules, search rules, search (rules, sum_on), search (rules, faring_on, journeys_few))

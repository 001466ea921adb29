-- The first place where a line is chosen has the replacement due; the last place is the word's end.
use Rattle.reducing.proofs.SearchingLaws.{places_none, places_hit, places_on, places_end}
use Rattle.reducing.proofs.searching.search.Goals as goal

pub loop-place-init : goal.loop-place-init
loop-place-init g c = search places_none

pub returns-in-Some : goal.returns-in-Some
returns-in-Some g c = search places_hit

pub loop-place-preserved : goal.loop-place-preserved
loop-place-preserved g c = search places_on

pub returns : goal.returns
returns g c = search places_end

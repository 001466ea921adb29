-- What is found with it too is the replacement due to one line more.
use Rattle.reducing.proofs.ByLinesLaws.{so_far_none, so_far_on, so_far_all}
use Rattle.reducing.proofs.by_lines.search_by_lines.Goals as goal

pub loop-j-init : goal.loop-j-init
loop-j-init g c = search so_far_none

pub loop-j-preserved : goal.loop-j-preserved
loop-j-preserved g c = search so_far_on

pub returns : goal.returns
returns g c = search so_far_all

-- The second step directly behind the first.
use Rattle.lineage.proofs.TraceLaws.{two_steps}
use Rattle.lineage.proofs.across.over_peak.Goals as goal

pub returns : goal.returns
returns c = search two_steps

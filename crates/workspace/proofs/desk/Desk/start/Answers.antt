-- With no line and no entry the numbers fit any buffer that is long enough.
use Rattle.workspace.proofs.StateLaws.{start_good, start_empty}
use Rattle.workspace.proofs.desk.Desk.start.Goals as goal

pub invariant_of-result : goal.invariant_of-result
invariant_of-result c = search start_good

pub returns-clause-empty : goal.returns-clause-empty
returns-clause-empty c = search start_empty

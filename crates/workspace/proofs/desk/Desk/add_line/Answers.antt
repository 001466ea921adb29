-- The record is written behind the others, the words behind the letters in use; the lines before keep theirs.
use Rattle.workspace.proofs.DeskLaws.{add_good, line_added}
use Rattle.workspace.proofs.desk.Desk.add_line.Goals as goal

pub invariant_of-self : goal.invariant_of-self
invariant_of-self c = search add_good

pub returns : goal.returns
returns c = search line_added

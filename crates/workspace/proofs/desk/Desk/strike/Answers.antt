-- Only the line's flag is written, and the desk's numbers fit whatever it is.
use Rattle.workspace.proofs.LineLaws.{flag_good}
use Rattle.workspace.proofs.DeskLaws.{line_struck}
use Rattle.workspace.proofs.desk.Desk.strike.Goals as goal

pub invariant_of-self : goal.invariant_of-self
invariant_of-self c = search flag_good

pub returns : goal.returns
returns c = search line_struck

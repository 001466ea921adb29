-- The second copy starts where the first ends.
use Rattle.workspace.proofs.LineLaws.{sides_put}
use Rattle.workspace.proofs.lines.put_sides.Goals as goal

pub returns : goal.returns
returns c = search sides_put

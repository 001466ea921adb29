-- With 2,048 waiting the entry is refused; else it stands behind the last, at the next place of the ring.
use Rattle.workspace.proofs.DeskLaws.{pushed_none, push_good, pushed_one}
use Rattle.workspace.proofs.desk.Desk.push.Goals as goal

pub returns-then-self-ge-MOST_WAITING : goal.returns-then-self-ge-MOST_WAITING
returns-then-self-ge-MOST_WAITING c = search pushed_none

pub invariant_of-self : goal.invariant_of-self
invariant_of-self c = search push_good

pub returns : goal.returns
returns c = search pushed_one

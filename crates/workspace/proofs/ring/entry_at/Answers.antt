-- The first byte tells the kind, as in the definition.
use Rattle.workspace.proofs.RingLaws.{read_equation, read_deleted, read_overlap}
use Rattle.workspace.proofs.ring.entry_at.Goals as goal

pub returns-in-0 : goal.returns-in-0
returns-in-0 c = search read_equation

pub returns-in-1 : goal.returns-in-1
returns-in-1 c = search read_deleted

pub returns-in_default : goal.returns-in_default
returns-in_default c = search read_overlap

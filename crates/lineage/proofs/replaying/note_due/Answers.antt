-- The lines of the desk are those of its state; what was made is noted.
use Rattle.lineage.proofs.ReplayLaws.{due_noted}
use Rattle.lineage.proofs.replaying.note_due.Goals as goal

pub make_due-place-requires : goal.make_due-place-requires
make_due-place-requires c = rw c.lines.ensures.rules c.requires.2

pub returns : goal.returns
returns c = search due_noted

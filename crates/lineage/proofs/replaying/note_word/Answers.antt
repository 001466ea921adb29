-- A step noted leaves the rest to be noted, from the next word.
use Rattle.std.proofs.Common.{rules}
use Rattle.lineage.proofs.NotingLaws.{replaying_start, replaying_one, noting_start, noting_left, noting_on, noting_end}
use Rattle.lineage.proofs.replaying.note_word.Goals as goal

pub loop-k-init : goal.loop-k-init
loop-k-init c = (search replaying_start, search noting_start)

pub note_due-requires : goal.note_due-requires
note_due-requires c = (search rules, search rules, search replaying_one)

pub loop-k-preserved : goal.loop-k-preserved
loop-k-preserved c = (search noting_left, search noting_on)

pub returns : goal.returns
returns c = search noting_end

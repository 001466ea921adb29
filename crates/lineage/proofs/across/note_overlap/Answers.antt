-- The two steps of the definition, one way or the other.
use Rattle.lineage.proofs.TraceLaws.{peak_over, peak_back}
use Rattle.lineage.proofs.across.note_overlap.Goals as goal

pub returns-then-back : goal.returns-then-back
returns-then-back c = search peak_back

pub returns-else-back : goal.returns-else-back
returns-else-back c = search peak_over

-- The places are those of the first line's left word.
use Rattle.workspace.proofs.ReadingLaws.{left_read}
use Rattle.new_lines.proofs.OverlapLaws.{overlaps_all}
use Rattle.new_lines.proofs.overlapping.overlaps_of.Goals as goal

pub returns : goal.returns
returns c = overlaps_all _ _ _ _ _ _ (search left_read) c.overlaps_to.ensures

-- The places still to come, from the state as it is, give what all give from the state as it was.
use Rattle.workspace.proofs.DeskLaws.{Gone}
use Rattle.new_lines.specs.NewLine.{overlap_at}
use Rattle.new_lines.proofs.overlapping.overlaps_to.Given as goal

abbrev pub invariant-loop-k : goal.invariant-loop-k
invariant-loop-k l = Gone (overlap_at l.n l.m) l.fn.desk l.places l.desk l.k

-- The lines still to come, from the state as it is, give what all give from the state as it was.
use Rattle.workspace.proofs.DeskLaws.{Gone}
use Rattle.new_lines.specs.NewLine.{overlaps_with}
use Rattle.new_lines.proofs.overlapping.overlaps_before.Given as goal

abbrev pub invariant-loop-m : goal.invariant-loop-m
invariant-loop-m l = Gone (overlaps_with l.new) l.fn.desk l.new l.desk l.m

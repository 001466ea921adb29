-- The lines still to come, from the state as it is, give what all give from the state as it was.
use Rattle.workspace.proofs.DeskLaws.{Gone}
use Rattle.new_lines.specs.NewLine.{delete_by}
use Rattle.new_lines.proofs.deleting.sweep.Given as goal

abbrev pub invariant-loop-j : goal.invariant-loop-j
invariant-loop-j l = Gone (delete_by l.left) l.fn.desk l.fn.desk.nums.lines l.desk l.j

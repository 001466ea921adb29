-- The equations still to come, from the state as it is, give what all give from the state as it was.
use Rattle.workspace.proofs.DeskLaws.{Gone}
use Rattle.runs.specs.Ends.{append_equation}
use Rattle.runs.proofs.starting.push_equations.Given as goal

abbrev pub invariant-loop-k : goal.invariant-loop-k
invariant-loop-k l = Gone append_equation l.fn.desk l.n l.desk l.k

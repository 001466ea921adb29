-- The run from the state as it is ends as the run from the state as it was; every turn lowers the state's weight.
use Rattle.std.proofs.Common.{◌+◌, ◌-◌, ◌*◌}
use Rattle.layout.specs.Lines.{equations}
use Rattle.workspace.specs.Areas.{most_lines, most_waiting}
use Rattle.runs.proofs.RunningLaws.{Running}
use Rattle.runs.proofs.running.run.Given as goal

abbrev pub invariant-loop : goal.invariant-loop
invariant-loop l = Running l.order (equations l.equations) l.fn.desk l.desk

abbrev pub decreases-loop : goal.decreases-loop
decreases-loop l = (most_lines - l.desk.nums.lines) * (most_waiting + 1) + l.desk.nums.count

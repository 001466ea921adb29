-- A line that goes down leads to the next, and the first that does not is refused.
use Rattle.std.proofs.Common.{rules}
use Rattle.chains.proofs.DirectionLaws.{directed_start, directed_on, directed_no, directed_end}
use Rattle.chains.proofs.directed.directions.Goals as goal

pub loop-j-init : goal.loop-j-init
loop-j-init c = search (rules, directed_start)

pub returns-then-not-is_directed : goal.returns-then-not-is_directed
returns-then-not-is_directed c = search (rules, directed_no)

pub loop-j-preserved : goal.loop-j-preserved
loop-j-preserved c = search (rules, directed_on)

pub returns : goal.returns
returns c = search (rules, directed_end)

-- A line that holds none leads to the next, and the first that holds one is refused.
use Rattle.std.proofs.Common.{rules}
use Rattle.checking.proofs.ReducedLaws.{free_start, free_on, free_no, free_end}
use Rattle.checking.proofs.reduced.reducedness.Goals as goal

pub loop-i-init : goal.loop-i-init
loop-i-init c = search (rules, free_start)

pub returns-then-holds_one : goal.returns-then-holds_one
returns-then-holds_one c = search (rules, free_no)

pub loop-i-preserved : goal.loop-i-preserved
loop-i-preserved c = search (rules, free_on)

pub returns : goal.returns
returns c = search (rules, free_end)

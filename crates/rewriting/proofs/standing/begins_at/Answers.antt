-- A letter that differs ends the comparison, and else it goes on to the end.
use Rattle.std.proofs.Common.{rules}
use Rattle.rewriting.proofs.BeginsLaws.{begun_start, begun_on, begun_no, begun_end}
use Rattle.rewriting.proofs.standing.begins_at.Goals as goal

pub loop-i-init : goal.loop-i-init
loop-i-init c = search begun_start

pub returns-then-left-i : goal.returns-then-left-i
returns-then-left-i c = search (rules, begun_no)

pub loop-i-preserved : goal.loop-i-preserved
loop-i-preserved c = search (rules, begun_on)

pub returns : goal.returns
returns c = search (rules, begun_end)

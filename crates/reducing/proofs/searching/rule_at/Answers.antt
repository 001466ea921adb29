-- The first line that fits is the choice.
use Rattle.std.proofs.Common.{rules}
use Rattle.reducing.proofs.SearchingLaws.{lines_none, lines_hit, lines_on, lines_end}
use Rattle.reducing.proofs.searching.rule_at.Goals as goal

pub loop-j-init : goal.loop-j-init
loop-j-init g c = search lines_none

pub returns-then-line_at : goal.returns-then-line_at
returns-then-line_at g c = search (rules, lines_hit)

pub loop-j-preserved : goal.loop-j-preserved
loop-j-preserved g c = search (rules, lines_on)

pub returns : goal.returns
returns g c = search (rules, lines_end)

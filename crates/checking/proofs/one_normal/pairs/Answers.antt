-- A line whose pairs have one normal word leads to the next, and the refusal of the first that has not is passed on.
use Rattle.std.proofs.Common.{rules}
use Rattle.chains.proofs.EachLaws.{passed_none, passed_on}
use Rattle.checking.proofs.OneNormalLaws.{pairs_no, pairs_end}
use Rattle.checking.proofs.one_normal.pairs.Goals as goal

pub loop-i-init : goal.loop-i-init
loop-i-init c = search (rules, passed_none)

pub returns-in_err-of_line : goal.returns-in_err-of_line
returns-in_err-of_line c = search (rules, pairs_no)

pub loop-i-preserved : goal.loop-i-preserved
loop-i-preserved c = search (rules, passed_on)

pub returns : goal.returns
returns c = search (rules, pairs_end)

-- A line whose pairs have one normal word leads to the next, and the refusal of the first that has not is passed on.
use Rattle.std.proofs.Common.{rules}
use Rattle.chains.proofs.EachLaws.{passed_none, passed_on}
use Rattle.checking.proofs.OneNormalLaws.{others_no, others_end}
use Rattle.checking.proofs.one_normal.others.Goals as goal

pub loop-m-init : goal.loop-m-init
loop-m-init c = search (rules, passed_none)

pub returns-in_err-two_lines : goal.returns-in_err-two_lines
returns-in_err-two_lines c = search (rules, others_no)

pub loop-m-preserved : goal.loop-m-preserved
loop-m-preserved c = search (rules, passed_on)

pub returns : goal.returns
returns c = search (rules, others_end)

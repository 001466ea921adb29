-- An equation whose sides have one normal word leads to the next, and the refusal of the first that has not is passed on.
use Rattle.std.proofs.Common.{rules}
use Rattle.checking.proofs.OneNormalLaws.{sides_start, sides_on, sides_no, sides_end}
use Rattle.checking.proofs.one_normal.equations.Goals as goal

pub loop-i-init : goal.loop-i-init
loop-i-init c = search (rules, sides_start)

pub returns-in_err-equation_same : goal.returns-in_err-equation_same
returns-in_err-equation_same c = search (rules, sides_no)

pub loop-i-preserved : goal.loop-i-preserved
loop-i-preserved c = search (rules, sides_on)

pub returns : goal.returns
returns c = search (rules, sides_end)

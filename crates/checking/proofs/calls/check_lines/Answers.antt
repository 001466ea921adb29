-- The conditions are tried one after the other: the first refusal is given, and what is met leads to the next.
use Rattle.std.proofs.Common.{rules}
use Rattle.checking.proofs.CallLaws.{conditions, lines_tried}
use Rattle.checking.proofs.calls.check_lines.Goals as goal

pub returns-in_err-chains : goal.returns-in_err-chains
returns-in_err-chains c = rw lines_tried (search (rules, conditions) depth 7)

pub returns-in_err-directions : goal.returns-in_err-directions
returns-in_err-directions c = rw lines_tried (search (rules, conditions) depth 7)

pub returns-in_err-reducedness : goal.returns-in_err-reducedness
returns-in_err-reducedness c = rw lines_tried (search (rules, conditions) depth 7)

pub returns-in_err-equations : goal.returns-in_err-equations
returns-in_err-equations c = rw lines_tried (search (rules, conditions) depth 7)

pub returns : goal.returns
returns c = rw lines_tried (search (rules, conditions) depth 7)

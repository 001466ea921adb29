-- A turn hands on what the next starts from; a refusal is the refusal of all.
use Rattle.std.proofs.Common.{arith}
use Rattle.std.proofs.lemmas.Result.{err_from_is_err_and}
use Rattle.workspace.proofs.DeskLaws.{gone_start, gone_next, gone_refused, gone_end}
use Rattle.runs.proofs.StartingLaws.{equation_pushed}
use Rattle.runs.proofs.starting.push_equations.Goals as goal

pub loop-k-init : goal.loop-k-init
loop-k-init c = search gone_start

pub loop-k-preserved : goal.loop-k-preserved
loop-k-preserved c = gone_next _ _ _ _ _ _ c.loop-k.invariant (omega arith) (equation_pushed _ _ _ _ c.in_ok-push.ensures)

pub returns-in_err-push : goal.returns-in_err-push
returns-in_err-push c = let p = err_from_is_err_and c.from_residual.result c.from_residual.ensures.1 in rw (p.1, p.2) (search (gone_refused, equation_pushed, c.in_err-push.ensures))

pub returns : goal.returns
returns c = search gone_end

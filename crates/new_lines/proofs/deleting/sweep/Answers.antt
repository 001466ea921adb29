-- A turn hands on what the next starts from; a refusal is the refusal of all.
use Rattle.std.proofs.lemmas.Result.{err_from_is_err_and}
use Rattle.std.proofs.Common.{arith}
use Rattle.workspace.proofs.DeskLaws.{gone_start, gone_next, gone_refused, gone_end}
use Rattle.new_lines.proofs.deleting.sweep.Goals as goal

pub loop-j-init : goal.loop-j-init
loop-j-init c = search gone_start

pub delete_by-requires : goal.delete_by-requires
delete_by-requires c = let i = c.loop-j.invariant in (omega (arith, i.through.many))

pub loop-j-preserved : goal.loop-j-preserved
loop-j-preserved c = search (gone_next, c.in_ok-delete_by.ensures)

pub returns-in_err-delete_by : goal.returns-in_err-delete_by
returns-in_err-delete_by c = let p = err_from_is_err_and c.from_residual.result c.from_residual.ensures.1 in rw (p.1, p.2) (search (gone_refused, c.in_err-delete_by.ensures))

pub returns : goal.returns
returns c = search gone_end

-- A turn hands on what the next starts from; a refusal is the refusal of all.
use Rattle.std.proofs.lemmas.Result.{err_from_is_err_and}
use Rattle.std.proofs.Common.{arith}
use Rattle.workspace.proofs.DeskLaws.{gone_start, gone_next, gone_refused, gone_end}
use Rattle.new_lines.proofs.overlapping.overlaps_before.Goals as goal

pub loop-m-init : goal.loop-m-init
loop-m-init c = search gone_start

pub overlaps_with-requires : goal.overlaps_with-requires
overlaps_with-requires c = let i = c.loop-m.invariant in (omega (arith, i.through.many), omega (arith, i.through.many))

pub loop-m-preserved : goal.loop-m-preserved
loop-m-preserved c = search (gone_next, c.in_ok-overlaps_with.ensures)

pub returns-in_err-overlaps_with : goal.returns-in_err-overlaps_with
returns-in_err-overlaps_with c = let p = err_from_is_err_and c.from_residual.result c.from_residual.ensures.1 in rw (p.1, p.2) (search (gone_refused, c.in_err-overlaps_with.ensures))

pub returns : goal.returns
returns c = search gone_end

-- A turn hands on what the next starts from; a refusal is the refusal of all.
use Rattle.std.proofs.lemmas.Result.{err_from_is_err_and}
use Rattle.std.proofs.Common.{arith}
use Rattle.workspace.proofs.DeskLaws.{gone_start, gone_next, gone_refused, gone_end}
use Rattle.new_lines.proofs.overlapping.overlaps_to.Goals as goal

pub loop-k-init : goal.loop-k-init
loop-k-init c = search gone_start

pub overlap_at-requires : goal.overlap_at-requires
overlap_at-requires c = let i = c.loop-k.invariant in (omega (arith, i.through.many), omega (arith, i.through.many), omega arith)

pub loop-k-preserved : goal.loop-k-preserved
loop-k-preserved c = search (gone_next, c.in_ok-overlap_at.ensures)

pub returns-in_err-overlap_at : goal.returns-in_err-overlap_at
returns-in_err-overlap_at c = let p = err_from_is_err_and c.from_residual.result c.from_residual.ensures.1 in rw (p.1, p.2) (search (gone_refused, c.in_err-overlap_at.ensures))

pub returns : goal.returns
returns c = search gone_end

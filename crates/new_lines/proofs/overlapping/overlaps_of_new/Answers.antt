-- The overlaps with the lines before, then those with itself.
use Rattle.std.proofs.Common.{arith}
use Rattle.std.proofs.lemmas.Result.{err_from_is_err_and}
use Rattle.new_lines.proofs.OverlapLaws.{new_all, new_refused}
use Rattle.new_lines.proofs.overlapping.overlaps_of_new.Goals as goal

pub returns-in_err-overlaps_before : goal.returns-in_err-overlaps_before
returns-in_err-overlaps_before c = let p = err_from_is_err_and c.from_residual.result c.from_residual.ensures.1 in rw (p.1, p.2) (search (new_refused, c.in_err-overlaps_before.ensures))

pub overlaps_of-requires : goal.overlaps_of-requires
overlaps_of-requires c = let o = c.in_ok-overlaps_before.ensures in (omega (arith, o.does.many), omega (arith, o.does.many))

pub returns : goal.returns
returns c = search (new_all, c.in_ok-overlaps_before.ensures)

-- The deletions first, then the new line with its overlaps from the state that they leave.
use Rattle.std.proofs.lemmas.Result.{err_from_is_err_and}
use Rattle.std.proofs.Common.{rules, arith}
use Rattle.new_lines.proofs.GrowLaws.{grow_refused, grown}
use Rattle.new_lines.proofs.grow.Goals as goal

pub returns-in_err-sweep : goal.returns-in_err-sweep
returns-in_err-sweep c = let p = err_from_is_err_and c.from_residual.result c.from_residual.ensures.1 in rw (p.1, p.2) (search (grow_refused, c.in_err-sweep.ensures))

pub add_and_overlap-requires : goal.add_and_overlap-requires
add_and_overlap-requires c = let o = c.in_ok-sweep.ensures in (omega (arith, o.does.many), search rules, search rules, omega (arith, o.does.made))

pub returns : goal.returns
returns c = search (grown, c.in_ok-sweep.ensures)

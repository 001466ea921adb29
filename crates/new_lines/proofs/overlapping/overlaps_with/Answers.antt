-- A line that stands has its overlaps both ways, one after the other; a fallen line has none.
use Rattle.std.proofs.lemmas.Result.{err_from_is_err_and}
use Rattle.std.proofs.Common.{rules, arith}
use Rattle.workspace.proofs.ReadingLaws.{stands_read}
use Rattle.new_lines.proofs.OverlapLaws.{with_both, with_none, with_refused}
use Rattle.new_lines.proofs.overlapping.overlaps_with.Goals as goal

pub returns-then-not-stands : goal.returns-then-not-stands
returns-then-not-stands c = with_none _ _ _ _ (stands_read c.args.desk.now.work.now c.args.desk.now.nums c.args.m _ _ (search rules) c.lines.ensures.recs c.stands.ensures) c.if-not-stands.true

pub returns-in_err-overlaps_of : goal.returns-in_err-overlaps_of
returns-in_err-overlaps_of c = let p = err_from_is_err_and c.from_residual.result c.from_residual.ensures.1 in rw (p.1, p.2) (with_refused _ _ _ _ _ _ (stands_read c.args.desk.now.work.now c.args.desk.now.nums c.args.m _ _ (search rules) c.lines.ensures.recs c.stands.ensures) c.if-not-stands.false c.in_err-overlaps_of.ensures)

pub overlaps_of-requires-2 : goal.overlaps_of-requires-2
overlaps_of-requires-2 c = let o = c.in_ok-overlaps_of.ensures in (omega (arith, o.does.many), omega (arith, o.does.many))

pub returns : goal.returns
returns c = with_both _ _ _ _ _ _ _ (stands_read c.args.desk.now.work.now c.args.desk.now.nums c.args.m _ _ (search rules) c.lines.ensures.recs c.stands.ensures) c.if-not-stands.false c.in_ok-overlaps_of.ensures c.overlaps_of-2.ensures

-- Both left words are those of the state's lines.
use Rattle.std.proofs.Common.{rules}
use Rattle.workspace.proofs.ReadingLaws.{left_read}
use Rattle.new_lines.proofs.overlapping.make_pair.Goals as goal

pub returns : goal.returns
returns c =
    let d = c.args.desk.now in
    let e = c.lines-lines.ensures in
    rw (
      ← left_read d.work.now d.nums c.args.n _ _ _ (search rules) e.recs e.words c.left.ensures.0,
      ← left_read d.work.now d.nums c.args.m _ _ _ (search rules) e.recs e.words c.left-2.ensures.0,
    ) c.is_pair.ensures

-- The flag and both words are those of the state's line.
use Rattle.std.proofs.Common.{rules, [], false}
use Rattle.workspace.proofs.ReadingLaws.{left_read, right_read, stands_read}
use Rattle.new_lines.proofs.DeletingLaws.{reducible_none, reducible_left, reducible_right}
use Rattle.new_lines.proofs.deleting.reducible_by.Goals as goal

pub returns-then-stands_in : goal.returns-then-stands_in
returns-then-stands_in c =
    let d = c.args.desk.now in
    let e = c.lines-lines.ensures in
    reducible_left c.args.left.now _ [] _ _ _ false (search stands_read) c.if-stands.true
    (left_read d.work.now d.nums c.args.j _ _ _ (search rules) e.recs e.words c.left.ensures.0) c.stands_in.ensures c.if-stands_in.true

pub returns-else-stands_in : goal.returns-else-stands_in
returns-else-stands_in c =
    let d = c.args.desk.now in
    let e = c.lines-lines.ensures in
    reducible_right c.args.left.now _ _ _ _ _ _ (search stands_read) c.if-stands.true
    (left_read d.work.now d.nums c.args.j _ _ _ (search rules) e.recs e.words c.left.ensures.0) c.stands_in.ensures c.if-stands_in.false
    (right_read d.work.now d.nums c.args.j _ _ _ (search rules) e.recs e.words c.right.ensures.0) c.stands_in-else-stands_in.ensures

pub returns-else-stands : goal.returns-else-stands
returns-else-stands c = reducible_none c.args.left.now [] [] _ _ false false (search stands_read) c.if-stands.false

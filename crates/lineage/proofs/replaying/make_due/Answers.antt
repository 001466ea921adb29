-- What is due has its line among the lines, and the word that it makes has room.
use Rattle.std.proofs.Common.{rules}
use Rattle.lineage.proofs.ReplayLaws.{due_some, due_line, due_inside, due_room, due_made}
use Rattle.lineage.proofs.replaying.make_due.Goals as goal

pub unwrap-found-requires : goal.unwrap-found-requires
unwrap-found-requires c = let e = rw c.as_slice.ensures.word at c.search_by_lines.ensures in search due_some

pub left-left-requires : goal.left-left-requires
left-left-requires c = let e = rw c.as_slice.ensures.word at c.search_by_lines.ensures in (search rules, search due_line)

pub right-right-requires : goal.right-right-requires
right-right-requires c = let e = rw c.as_slice.ensures.word at c.search_by_lines.ensures in (search rules, search due_line)

pub replace-requires : goal.replace-requires
replace-requires c = let e = rw c.as_slice.ensures.word at c.search_by_lines.ensures in (search due_inside, search due_room)

pub returns : goal.returns
returns c =
    let e = rw c.as_slice.ensures.word at c.search_by_lines.ensures in
    let s = rw c.as_slice.ensures.word at c.as_slice.ensures.short in
    search due_made

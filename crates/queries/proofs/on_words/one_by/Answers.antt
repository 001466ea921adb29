-- The line that was found is there, and its left word stands in the word.
use Rattle.std.proofs.Common.{rules, arith, ◌+◌, ◌≤◌, length}
use Rattle.reducing.proofs.SearchingLaws.{found_line, found_inside}
use Rattle.queries.proofs.on_words.one_by.Goals as goal

pub left-left-requires : goal.left-left-requires
left-left-requires c = (search rules, search (found_line, c.in-Some.ensures))

pub right-right-requires : goal.right-right-requires
right-right-requires c = (search rules, search (found_line, c.in-Some.ensures))

pub replaced-requires : goal.replaced-requires
replaced-requires c =
    let i : c.in-Some.found.place + length c.left-left.result.now ≤ length c.args.word.now = rw c.left-left.ensures.0 (search (found_inside, c.in-Some.ensures)) in
    (i, omega (arith, i, c.requires, c.right-right.ensures.1))

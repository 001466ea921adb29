-- The turn goes by what the search finds; the new length is found before the word is made.
use Rattle.std.proofs.Common.{rules, arith, ◌+◌, ◌≤◌, length}
use Rattle.reducing.proofs.SearchingLaws.{found_line}
use Rattle.reducing.proofs.TurnLaws.{turn_none, turn_spent, turn_inside, turn_long, turn_replaced}
use Rattle.reducing.proofs.normal_words.turn.Goals as goal

pub returns-in_default : goal.returns-in_default
returns-in_default g c = let e = rw c.as_slice.ensures.word at c.in_default.ensures in search turn_none

pub returns-then-not-spare : goal.returns-then-not-spare
returns-then-not-spare g c = let e = rw c.as_slice.ensures.word at c.in-Some.ensures in search turn_spent

pub left-left-requires : goal.left-left-requires
left-left-requires g c = (search rules, search (found_line, c.in-Some.ensures))

pub right-right-requires : goal.right-right-requires
right-right-requires g c = (search rules, search (found_line, c.in-Some.ensures))

pub overflow_sub-len : goal.overflow_sub-len
overflow_sub-len g c =
    let e = rw c.as_slice.ensures.word at c.in-Some.ensures in
    let i : c.in-Some.found.place + length c.left-left.result.now ≤ length c.args.word.now = search turn_inside in
    omega (arith, i, c.len.ensures.0)

pub returns-then-len-left-gt-WORD_LIMIT : goal.returns-then-len-left-gt-WORD_LIMIT
returns-then-len-left-gt-WORD_LIMIT g c =
    let e = rw c.as_slice.ensures.word at c.in-Some.ensures in
    let k = rw c.len.ensures.0 at c.if-len-left-gt-WORD_LIMIT.true in
    search turn_long

pub replace-requires : goal.replace-requires
replace-requires g c =
    let e = rw c.as_slice.ensures.word at c.in-Some.ensures in
    let i : c.in-Some.found.place + length c.left-left.result.now ≤ length c.args.word.now = search turn_inside in
    (i, omega (arith, i, c.len.ensures.0))

pub returns : goal.returns
returns g c =
    let e = rw c.as_slice.ensures.word at c.in-Some.ensures in
    let k = rw c.len.ensures.0 at c.if-len-left-gt-WORD_LIMIT.false in
    search turn_replaced

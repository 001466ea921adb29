-- The refusals are tried in the definition's order: the output's size, then the table.
use Rattle.std.proofs.lemmas.Result.{err_from_is_err_and}
use Rattle.listing.proofs.CallLaws.{list_room, list_no_table, list_answer}
use Rattle.listing.proofs.calls.list.Goals as goal

pub returns-then-out-lt-TEXT_ROOM : goal.returns-then-out-lt-TEXT_ROOM
returns-then-out-lt-TEXT_ROOM c = search list_room

pub returns-in_err-read : goal.returns-in_err-read
returns-in_err-read c =
    let p = err_from_is_err_and c.from_residual.result c.from_residual.ensures.1 in
    let e = c.in_err-read.ensures.none in
    rw (p.1, p.2, e.0) (search (list_no_table, e.1))

pub returns : goal.returns
returns c = search (list_answer, c.in_ok-read.ensures.fits)

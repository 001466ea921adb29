-- The refusals are tried in the definition's order: the output's size, then the table; then its lines are lent.
use Rattle.std.proofs.lemmas.Result.{err_from_is_err_and}
use Rattle.queries.proofs.PairCallLaws.{pair_room, pair_no_table, pair_answer}
use Rattle.queries.proofs.pairing.pair.Goals as goal

pub returns-then-out-lt192 : goal.returns-then-out-lt192
returns-then-out-lt192 c = search pair_room

pub returns-in_err-table : goal.returns-in_err-table
returns-in_err-table c =
    let p = err_from_is_err_and c.from_residual.result c.from_residual.ensures.1 in
    let e = c.in_err-table.ensures.none in
    rw (p.1, p.2, e.0) (search (pair_no_table, e.1))

pub returns : goal.returns
returns c = search (pair_answer, c.in_ok-table.ensures.fits, c.lines.ensures.lines)

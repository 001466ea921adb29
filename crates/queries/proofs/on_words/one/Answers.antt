-- A refusal writes nothing; else the table's lines are lent.
use Rattle.std.proofs.lemmas.Result.{err_from_is_err_and}
use Rattle.queries.proofs.CallLaws.{ask_refused, answer_shown}
use Rattle.queries.proofs.on_words.one.Goals as goal

pub returns-in_err-table : goal.returns-in_err-table
returns-in_err-table c =
    let p = err_from_is_err_and c.from_residual.result c.from_residual.ensures.1 in
    rw (p.1, p.2) (search (ask_refused, c.in_err-table.ensures.asked))

pub returns : goal.returns
returns c = search (answer_shown, c.in_ok-table.ensures.bytes, c.in_ok-table.ensures.asked, c.lines.ensures.rules)

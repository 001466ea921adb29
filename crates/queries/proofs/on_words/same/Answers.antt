-- The table is tried first, then each word; then the table's lines are lent to the comparison.
use Rattle.std.proofs.Common.{rules}
use Rattle.std.proofs.lemmas.Result.{err_from_is_err_and}
use Rattle.queries.proofs.CallLaws.{word_short, same_no_table, same_no_first, same_no_second, same_answer}
use Rattle.queries.proofs.on_words.same.Goals as goal
use Rattle.queries.proofs.on_words.same.Goals.{then-not-query_word-via-then-not-query_word, then-not-query_word-via-else-not-query_word+then-not-query_word-2}

pub returns-in_err-table : goal.returns-in_err-table
returns-in_err-table c =
    let p = err_from_is_err_and c.from_residual.result c.from_residual.ensures.1 in
    let e = c.in_err-table.ensures.none in
    rw (p.1, p.2, e.0) (search (same_no_table, e.1))

pub returns-then-not-query_word : goal.returns-then-not-query_word
returns-then-not-query_word c =
    elim c.then-not-query_word.branch [
      | then-not-query_word-via-then-not-query_word w ↦ search (same_no_first, c.in_ok-table.ensures.fits)
      | then-not-query_word-via-else-not-query_word+then-not-query_word-2 w ↦ search (same_no_second, c.in_ok-table.ensures.fits)
    ]

pub same_normal-requires : goal.same_normal-requires
same_normal-requires c = (search rules, (search word_short, search word_short))

pub returns : goal.returns
returns c = search (same_answer, c.in_ok-table.ensures.fits, c.lines.ensures.rules)

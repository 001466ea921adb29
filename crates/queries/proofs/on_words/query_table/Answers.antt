-- The refusals are tried in the definition's order: the output's size, the table, the word.
use Rattle.std.proofs.Common.{rules}
use Rattle.queries.proofs.CallLaws.{query_short, header_refused, header_given}
use Rattle.queries.proofs.on_words.query_table.Goals as goal

pub returns-then-not-query_word-clause-asked : goal.returns-then-not-query_word-clause-asked
returns-then-not-query_word-clause-asked c = search (header_refused, c.in_ok-table.ensures.fits)

pub returns-clause-asked : goal.returns-clause-asked
returns-clause-asked c = search (header_given, c.in_ok-table.ensures.fits)

pub returns-clause-fit : goal.returns-clause-fit
returns-clause-fit c = (search rules, search query_short)

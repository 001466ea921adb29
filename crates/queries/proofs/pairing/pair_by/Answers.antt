-- Where the test fails nothing is written; else peak and reducts are.
use Rattle.std.proofs.Common.{rules}
use Rattle.queries.proofs.PairCallLaws.{pair_none, first_there, second_there, place_inside, pair_found}
use Rattle.queries.proofs.pairing.pair_by.Goals as goal

pub returns-then-not-pair_counts : goal.returns-then-not-pair_counts
returns-then-not-pair_counts c = search pair_none

pub show_pair-requires : goal.show_pair-requires
show_pair-requires c = (search first_there, search second_there, search place_inside, search rules)

pub returns : goal.returns
returns c = search pair_found

-- The tests are those of the definition: an absent line or a deleted one makes no pair.
use Rattle.std.proofs.Common.{arith}
use Rattle.std.proofs.lemmas.Bool.Decides.{nat_tests}
use Rattle.queries.proofs.PairCallLaws.{counts_tested}
use Rattle.queries.proofs.pairing.pair_counts.Goals as goal

pub returns-then-stands-2 : goal.returns-then-stands-2
returns-then-stands-2 c = rw (counts_tested c.args.lines.recs.now c.args.lines.words.now c.args.lines.n c.args.i c.args.m c.args.k) (grind (arith, nat_tests))

pub returns-else-stands-2 : goal.returns-else-stands-2
returns-else-stands-2 c = rw (counts_tested c.args.lines.recs.now c.args.lines.words.now c.args.lines.n c.args.i c.args.m c.args.k) (grind (arith, nat_tests))

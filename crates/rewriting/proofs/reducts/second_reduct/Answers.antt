-- A place behind the left word: three pieces.
use Rattle.std.proofs.Common.{rules}
use Rattle.rewriting.proofs.ReductLaws.{far_made}
use Rattle.rewriting.proofs.reducts.second_reduct.Goals as goal

pub returns-else-k-left : goal.returns-else-k-left
returns-else-k-left c = search (rules, far_made)

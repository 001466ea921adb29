-- The lengths in the result are short.
use Rattle.std.proofs.Common.{sym, subst}
use Rattle.grettalune.specs.Answers.{PairShort}
use Rattle.grettalune.proofs.LengthLaws.{pair_short}
use Rattle.grettalune.proofs.grettalune_pair.Goals as goal

pub pair_found-requires : goal.pair_found-requires
pair_found-requires c = subst PairShort (sym c.pair.ensures.answer) (pair_short _ _ _ _ _)

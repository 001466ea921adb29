-- The lengths in the result are short.
use Rattle.std.proofs.Common.{sym, subst}
use Rattle.grettalune.specs.Answers.{WordShort}
use Rattle.grettalune.proofs.LengthLaws.{normal_short}
use Rattle.grettalune.proofs.grettalune_normal.Goals as goal

pub word_reached-requires : goal.word_reached-requires
word_reached-requires c = subst WordShort (sym c.normal.ensures.answer) (normal_short _ _ _ _)

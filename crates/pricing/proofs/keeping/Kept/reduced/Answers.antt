-- With a price kept the next one is due.
use Rattle.std.proofs.Common.{rules, ◌<◌, length}
use Rattle.pricing.proofs.KeepingLaws.{keeping_on}
use Rattle.pricing.proofs.keeping.Kept.reduced.Goals as goal

pub loop-j-preserved : goal.loop-j-preserved
loop-j-preserved g c =
    let l : c.loop-j.j < length c.loop-j.words = search rules in
    (search rules, keeping_on _ _ _ _ _ _ _ c.loop-j.invariant.1 c.loop-j-test.true _ c.word.ensures.0 _ _ c.in_ok-words.ensures l)

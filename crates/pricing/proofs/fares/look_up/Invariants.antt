-- The loop keeps that none of the prices gone through has the word.
use Rattle.pricing.proofs.FareLaws.{Missed}
use Rattle.pricing.proofs.fares.look_up.Given as goal

abbrev pub invariant-loop-j : goal.invariant-loop-j
invariant-loop-j l = Missed l.kept.words l.kept.prices.recs.now l.kept.prices.n l.word l.j

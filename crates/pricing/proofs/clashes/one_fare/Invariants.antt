-- The loop keeps that no price gone through differs from an earlier one.
use Rattle.chains.proofs.EachLaws.{Passed}
use Rattle.pricing.specs.Clashes.{kept_verdict}
use Rattle.pricing.proofs.clashes.one_fare.Given as goal

abbrev pub invariant-loop-k : goal.invariant-loop-k
invariant-loop-k l = Passed (kept_verdict l.kept.words l.kept.prices.recs.now) l.kept.prices.n l.k

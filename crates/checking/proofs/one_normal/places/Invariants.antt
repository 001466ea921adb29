-- The loop keeps that every place before passed.
use Rattle.layout.specs.Lines.{lines, rules}
use Rattle.checking.specs.OneNormal.{pair_verdict}
use Rattle.chains.proofs.EachLaws.{Passed}
use Rattle.checking.proofs.one_normal.places.Given as goal

abbrev pub invariant-loop-k : goal.invariant-loop-k
invariant-loop-k l = Passed (λ p. pair_verdict (rules l.lines) (lines l.lines) l.i l.m p) l.k-end l.k

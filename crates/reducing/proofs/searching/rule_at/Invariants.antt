-- The loop keeps that none of the lines before this one is the choice.
use Rattle.reducing.proofs.SearchingLaws.{LinesPassed}
use Rattle.reducing.proofs.searching.rule_at.Given as goal

abbrev pub invariant-loop-j : goal.invariant-loop-j
invariant-loop-j g l = LinesPassed l.lines.recs.now l.lines.words.now l.lines.n l.word l.p l.j

-- The loop keeps that every equation before passed.
use Rattle.layout.specs.Lines.{rules}
use Rattle.checking.proofs.OneNormalLaws.{Sides}
use Rattle.checking.proofs.one_normal.equations.Given as goal

abbrev pub invariant-loop-i : goal.invariant-loop-i
invariant-loop-i l = Sides (rules l.lines) l.equations.recs.now l.equations.words.now l.equations.n l.i

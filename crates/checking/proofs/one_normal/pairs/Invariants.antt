-- The loop keeps that every line before passed.
use Rattle.layout.specs.Lines.{lines, rules}
use Rattle.checking.specs.OneNormal.{of_line}
use Rattle.chains.proofs.EachLaws.{Passed}
use Rattle.checking.proofs.one_normal.pairs.Given as goal

abbrev pub invariant-loop-i : goal.invariant-loop-i
invariant-loop-i l = Passed (of_line (rules l.lines) (lines l.lines)) l.lines.n l.i

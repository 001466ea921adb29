-- The loop keeps that every line before passed.
use Rattle.layout.specs.Lines.{lines, rules}
use Rattle.checking.specs.OneNormal.{two_lines}
use Rattle.chains.proofs.EachLaws.{Passed}
use Rattle.checking.proofs.one_normal.others.Given as goal

abbrev pub invariant-loop-m : goal.invariant-loop-m
invariant-loop-m l = Passed (two_lines (rules l.lines) (lines l.lines) l.i) l.lines.n l.m

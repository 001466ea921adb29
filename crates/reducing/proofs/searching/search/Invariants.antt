-- The loop keeps that no rule stands at a place before this one.
use Rattle.layout.specs.Lines.{rules}
use Rattle.reducing.proofs.SearchingLaws.{PlacesPassed}
use Rattle.reducing.proofs.searching.search.Given as goal

abbrev pub invariant-loop-place : goal.invariant-loop-place
invariant-loop-place g l = PlacesPassed (rules l.lines) l.word l.place

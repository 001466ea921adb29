-- The loop keeps that every line before passed.
use Rattle.chains.proofs.DirectionLaws.{Directed}
use Rattle.chains.proofs.directed.directions.Given as goal

abbrev pub invariant-loop-j : goal.invariant-loop-j
invariant-loop-j l = Directed l.order l.lines.recs.now l.lines.words.now l.lines.n l.j

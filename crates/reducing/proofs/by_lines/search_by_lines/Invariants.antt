-- The loop keeps that what is found is the replacement due to the lines before j.
use Rattle.reducing.proofs.ByLinesLaws.{SoFar}
use Rattle.reducing.proofs.by_lines.search_by_lines.Given as goal

abbrev pub invariant-loop-j : goal.invariant-loop-j
invariant-loop-j g l = SoFar l.lines.recs.now l.lines.words.now l.word l.j l.found

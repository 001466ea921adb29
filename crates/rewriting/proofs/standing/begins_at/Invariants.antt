-- The loop keeps that the letters before this one are the same.
use Rattle.rewriting.proofs.BeginsLaws.{Begun}
use Rattle.rewriting.proofs.standing.begins_at.Given as goal

abbrev pub invariant-loop-i : goal.invariant-loop-i
invariant-loop-i l = Begun l.left l.word l.p l.i

-- The loop keeps that the steps passed have been put.
use Rattle.packing.specs.Pieces.{step_piece}
use Rattle.packing.proofs.JoinedLaws.{Joined}
use Rattle.packing.proofs.put_steps.Given as goal

abbrev pub invariant-loop-i : goal.invariant-loop-i
invariant-loop-i l = Joined (step_piece l.steps) l.initial.out l.at l.out l.i

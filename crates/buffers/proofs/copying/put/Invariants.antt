-- The loop keeps that the first i bytes are copied and all else is as it was.
use Rattle.buffers.proofs.CopyLaws.{Copied}
use Rattle.buffers.proofs.copying.put.Given as goal

abbrev pub invariant-loop-i : goal.invariant-loop-i
invariant-loop-i l = Copied l.initial.dst l.at l.src l.i l.dst

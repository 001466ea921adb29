-- The loop keeps that the numbers so far stand at the start.
use Rattle.std.proofs.Common.{◌≡◌, take}
use Rattle.buffers.specs.Written.{written}
use Rattle.writing.specs.Writing.{numbers_bytes}
use Rattle.writing.proofs.put_numbers.Given as goal

abbrev pub invariant-loop-i : goal.invariant-loop-i
invariant-loop-i l = l.out ≡ written l.initial.out 0 (numbers_bytes (take l.i l.numbers))

-- The loop keeps that the letters of the lines passed have been put.
use Rattle.std.proofs.Common.{◌*◌}
use Rattle.buffers.specs.Appended.{Appended}
use Rattle.packing.specs.Limits.{pair_most}
use Rattle.packing.specs.Pieces.{words_piece}
use Rattle.packing.proofs.put_words.Given as goal

abbrev pub invariant-loop-j : goal.invariant-loop-j
invariant-loop-j l = Appended l.initial.tail l.tail 0 l.end (pair_most * l.j) (words_piece l.lines.recs.now l.lines.words.now l.j)

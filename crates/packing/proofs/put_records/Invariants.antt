-- The loop keeps that the records of the lines passed have been put, and their letters counted.
use Rattle.std.proofs.Common.{◌≡◌, ◌*◌, ◌≤◌, length}
use Rattle.packing.specs.Limits.{pair_most}
use Rattle.packing.specs.Pieces.{words_piece, record_piece}
use Rattle.packing.proofs.JoinedLaws.{Joined}
use Rattle.packing.proofs.put_records.Given as goal

abbrev pub invariant-loop-j : goal.invariant-loop-j
invariant-loop-j l = record {
  few : l.o ≤ pair_most * l.j;
  counted : l.o ≡ length (words_piece l.lines.recs.now l.lines.words.now l.j);
  put : Joined (record_piece l.lines.recs.now l.lines.words.now) l.initial.out l.at l.out l.j;
}

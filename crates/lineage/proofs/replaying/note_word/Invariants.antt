-- The steps still to be noted, from the word as it is, make the buffer that all of them make.
use Rattle.std.proofs.Common.{◌-◌}
use Rattle.lineage.proofs.NotingLaws.{Replaying, Noting}
use Rattle.lineage.proofs.replaying.note_word.Given as goal

abbrev pub invariant-loop-k : goal.invariant-loop-k
invariant-loop-k l =
    Replaying l.fn.desk l.desk l.copy (l.count - l.k)
    × Noting l.fn.desk l.cited l.at l.back l.count l.word l.desk l.copy l.k

-- The loop keeps that the verdict on all records is the verdict on what is left.
use Rattle.std.proofs.Common.{◌*◌, ◌≤◌, length}
use Rattle.prices.proofs.RecordLaws.{Seen}
use Rattle.prices.proofs.records.prices_fit.Given as goal

abbrev pub invariant-loop-j : goal.invariant-loop-j
invariant-loop-j l = record {
  inside : l.o ≤ length l.words;
  small : l.o ≤ 256 * l.j;
  seen : Seen l.recs l.words l.n l.j l.o;
}

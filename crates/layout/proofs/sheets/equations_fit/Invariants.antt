-- The loop keeps that the verdict on all records is the verdict on what is left.
use Rattle.std.proofs.Common.{◌*◌, ◌≤◌, length}
use Rattle.layout.proofs.SheetLaws.{Seen}
use Rattle.layout.proofs.sheets.equations_fit.Given as goal

abbrev pub invariant-loop-j : goal.invariant-loop-j
invariant-loop-j l = record {
  inside : l.o ≤ length l.words;
  small : l.o ≤ 512 * l.j;
  seen : Seen l.recs l.words l.n l.j l.o;
}

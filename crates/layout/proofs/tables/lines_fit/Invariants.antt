-- The loop keeps that the verdict on all lines is the verdict on what is left.
use Rattle.std.proofs.Common.{◌*◌, ◌≤◌, length}
use Rattle.layout.proofs.TableLaws.{LinesSeen}
use Rattle.layout.proofs.tables.lines_fit.Given as goal

abbrev pub invariant-loop-j : goal.invariant-loop-j
invariant-loop-j l = record {
  steps_inside : l.q ≤ length l.steps;
  words_inside : l.o ≤ length l.words;
  few_steps : l.q ≤ 262144 * l.j;
  few_letters : l.o ≤ 512 * l.j;
  seen : LinesSeen l.recs l.steps l.words l.n l.cited l.j l.q l.o;
}

-- The loop keeps that the answer is that of the word reached, with the allowance that is left; the allowance falls.
use Rattle.std.proofs.Common.{◌≤◌, ◌-◌}
use Rattle.layout.specs.Lines.{rules}
use Rattle.reducing.proofs.TurnLaws.{Onward}
use Rattle.reducing.proofs.normal_words.reduce.Given as goal

abbrev pub invariant-loop-count : goal.invariant-loop-count
invariant-loop-count g l = record {
  few : l.count ≤ l.allowance;
  onward : Onward (rules l.lines) l.allowance l.fn.word l.count l.word;
}

abbrev pub decreases-loop-count : goal.decreases-loop-count
decreases-loop-count g l = l.allowance - l.count

-- The loop keeps that the whole chain leads where what is left of it leads from the word that is reached.
use Rattle.layout.specs.Lines.{equations, lines_with}
use Rattle.chains.proofs.ChainLaws.{Following}
use Rattle.chains.proofs.Cited.follow.Given as goal

abbrev pub invariant-loop-i : goal.invariant-loop-i
invariant-loop-i l = Following (equations l.self.equations) (lines_with l.self.steps.now l.self.lines) l.self.steps.now l.q l.count l.fn.word l.i l.word

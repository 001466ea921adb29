-- The loop keeps that the lines passed have been put.
use Rattle.std.proofs.Common.{◌*◌}
use Rattle.layout.specs.Slices.{rules_in}
use Rattle.buffers.specs.Appended.{Appended}
use Rattle.listing.specs.Room.{rule_most}
use Rattle.listing.specs.Text.{rules_text}
use Rattle.listing.proofs.tables.put_rules.Given as goal

abbrev pub invariant-loop-j : goal.invariant-loop-j
invariant-loop-j l = Appended l.initial.out l.out l.at l.end (rule_most * l.j) (rules_text (rules_in l.lines.recs.now l.lines.words.now 0 l.j))

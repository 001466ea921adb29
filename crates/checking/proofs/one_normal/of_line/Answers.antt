-- A deleted line has no pairs.
use Rattle.std.proofs.Common.{rules}
use Rattle.checking.proofs.OneNormalLaws.{line_fallen, line_standing}
use Rattle.checking.proofs.one_normal.of_line.Goals as goal

pub returns-then-stands : goal.returns-then-stands
returns-then-stands c = search (rules, line_standing)

pub returns-else-stands : goal.returns-else-stands
returns-else-stands c = search (rules, line_fallen)

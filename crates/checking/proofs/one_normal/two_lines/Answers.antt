-- A deleted line makes no pair.
use Rattle.std.proofs.Common.{rules}
use Rattle.checking.proofs.OneNormalLaws.{with_fallen, with_standing}
use Rattle.checking.proofs.one_normal.two_lines.Goals as goal

pub returns-then-stands : goal.returns-then-stands
returns-then-stands c = search (rules, with_standing)

pub returns-else-stands : goal.returns-else-stands
returns-else-stands c = search (rules, with_fallen)

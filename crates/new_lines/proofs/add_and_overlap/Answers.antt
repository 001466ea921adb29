-- The line is made, then its overlaps follow from the state with it.
use native.Mathlib.Omega.{arith}
use Rattle.new_lines.proofs.GrowLaws.{joined}
use Rattle.new_lines.proofs.add_and_overlap.Goals as goal

pub overlaps_of_new-requires : goal.overlaps_of_new-requires
overlaps_of_new-requires c = omega (arith, c.add_line.ensures.does.many)

pub returns : goal.returns
returns c = search joined

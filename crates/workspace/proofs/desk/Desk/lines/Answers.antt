-- The lines made so far lie inside the areas, and are the state's.
use Rattle.std.proofs.Common.{refl}
use native.Mathlib.Omega.{arith}
use Rattle.workspace.proofs.AreaLaws.{records_long, lines_inside, area_lines, area_rules}
use Rattle.workspace.proofs.desk.Desk.lines.Goals as goal

pub slice_bounds-result-end : goal.slice_bounds-result-end
slice_bounds-result-end c = let d = c.args.self.now in records_long d.work.now d.nums d.good

pub invariant_of-result : goal.invariant_of-result
invariant_of-result c =
    let d = c.args.self.now in
    record { inside = lines_inside d.work.now d.nums d.good _ _ refl refl; few = d.good.lines; whole = omega arith }

pub returns-clause-lines : goal.returns-clause-lines
returns-clause-lines c = search area_lines

pub returns-clause-rules : goal.returns-clause-rules
returns-clause-rules c = search area_rules

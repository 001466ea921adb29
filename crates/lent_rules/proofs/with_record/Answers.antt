-- A record that breaks the list ends it; else what is found with it is kept.
use Rattle.std.proofs.Common.{rules}
use Rattle.lent_rules.proofs.ScanLaws.{step_broken, left_inside, step_good, step_small}
use Rattle.lent_rules.proofs.with_record.Goals as goal

pub returns-then-not-goes_on : goal.returns-then-not-goes_on
returns-then-not-goes_on c = (search step_broken, search rules)

pub slice_bounds-found_with-end : goal.slice_bounds-found_with-end
slice_bounds-found_with-end c = search (rules, left_inside)

pub returns : goal.returns
returns c = (search step_good, search (rules, step_small))

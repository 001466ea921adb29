-- The oldest stands at the head of the ring; without it the head is one further and one fewer waits. Any head and any number in the ring fit the desk.
use Rattle.std.proofs.Common.{rules}
use Rattle.workspace.proofs.DeskLaws.{popped_none, pop_good, popped_one}
use Rattle.workspace.proofs.desk.Desk.pop.Goals as goal

pub returns-then-self-eq0 : goal.returns-then-self-eq0
returns-then-self-eq0 c = search popped_none

pub invariant_of-self : goal.invariant_of-self
invariant_of-self c = search (rules, pop_good)

pub returns : goal.returns
returns c = search popped_one

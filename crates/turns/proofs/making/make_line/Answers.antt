-- The limits are tried in the definition's order.
use Rattle.std.proofs.Common.{rules}
use Rattle.rewriting.specs.Sheet.{rules_of}
use Rattle.workspace.specs.Desk.{state}
use Rattle.turns.proofs.MakingLaws.{reaches_few, left_over, right_over, too_many_lines, too_many_steps, line_made}
use Rattle.turns.proofs.making.make_line.Goals.{then-len-gt-SIDE_LIMIT-via-then-len-gt-SIDE_LIMIT, then-len-gt-SIDE_LIMIT-via-else-len-gt-SIDE_LIMIT+then-len-gt-SIDE_LIMIT-2}
use Rattle.turns.proofs.making.make_line.Goals as goal

pub returns-then-len-gt-SIDE_LIMIT : goal.returns-then-len-gt-SIDE_LIMIT
returns-then-len-gt-SIDE_LIMIT c =
    elim c.then-len-gt-SIDE_LIMIT.branch [ then-len-gt-SIDE_LIMIT-via-then-len-gt-SIDE_LIMIT w ↦ search left_over | then-len-gt-SIDE_LIMIT-via-else-len-gt-SIDE_LIMIT+then-len-gt-SIDE_LIMIT-2 w ↦ search right_over ]

pub returns-then-desk-ge-MOST_LINES : goal.returns-then-desk-ge-MOST_LINES
returns-then-desk-ge-MOST_LINES c = search too_many_lines

pub returns-then-desk-steps-gt-MOST_STEPS : goal.returns-then-desk-steps-gt-MOST_STEPS
returns-then-desk-steps-gt-MOST_STEPS c = search too_many_steps

pub returns : goal.returns
returns c = search line_made

pub overflow_add-steps-2 : goal.overflow_add-steps-2
overflow_add-steps-2 c = search (rules, reaches_few (rules_of (state c.args.desk.now).lines) c.args.left c.requires.1, reaches_few (rules_of (state c.args.desk.now).lines) c.args.right c.requires.2)

pub overflow_add-steps : goal.overflow_add-steps
overflow_add-steps c = search (rules, reaches_few (rules_of (state c.args.desk.now).lines) c.args.left c.requires.1, reaches_few (rules_of (state c.args.desk.now).lines) c.args.right c.requires.2)

pub overflow_add-desk : goal.overflow_add-desk
overflow_add-desk c = search (rules, reaches_few (rules_of (state c.args.desk.now).lines) c.args.left c.requires.1, reaches_few (rules_of (state c.args.desk.now).lines) c.args.right c.requires.2)

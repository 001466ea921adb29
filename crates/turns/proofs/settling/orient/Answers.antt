-- Equal normal words leave all as it is; else the greater is left.
use Rattle.turns.proofs.SettlingLaws.{orient_same, orient_less, orient_none, orient_greater}
use Rattle.turns.proofs.settling.orient.Goals as goal

pub returns-then-same_word : goal.returns-then-same_word
returns-then-same_word c = search orient_same

pub returns-in-Less : goal.returns-in-Less
returns-in-Less c = search (orient_less, c.in-Less.ensures)

pub returns-in-Equal : goal.returns-in-Equal
returns-in-Equal c = search (orient_none, c.in-Equal.ensures)

pub returns-in-Greater : goal.returns-in-Greater
returns-in-Greater c = search (orient_greater, c.in-Greater.ensures)

-- Of the two words from k on the longer must begin with the shorter.
use Rattle.rewriting.proofs.BeginsLaws.{agree_inside, agree_outside}
use Rattle.rewriting.proofs.standing.agree_at.Goals as goal

pub returns-then-laid-left : goal.returns-then-laid-left
returns-then-laid-left c = search agree_inside

pub returns-else-laid-left : goal.returns-else-laid-left
returns-else-laid-left c = search agree_outside

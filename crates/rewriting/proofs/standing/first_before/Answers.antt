-- A word that is too long stands nowhere.
use Rattle.rewriting.proofs.FirstLaws.{first_none}
use Rattle.rewriting.proofs.standing.first_before.Goals as goal

pub returns-then-word-left : goal.returns-then-word-left
returns-then-word-left c = search first_none

-- The two words are settled.
use Rattle.turns.proofs.TurnLaws.{treated}
use Rattle.turns.proofs.treat.Goals as goal

pub returns : goal.returns
returns c = search treated

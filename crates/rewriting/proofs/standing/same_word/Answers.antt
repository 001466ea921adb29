-- The library compares the words letter by letter, as the definition does.
use Rattle.rewriting.proofs.BeginsLaws.{same_is}
use Rattle.rewriting.proofs.standing.same_word.Goals as goal

pub returns : goal.returns
returns c = search same_is

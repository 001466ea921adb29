-- The words are read from the desk, and the reduct is made of them.
use Rattle.entry_words.proofs.WordLaws.{first_made}
use Rattle.entry_words.proofs.first_of.Goals as goal

pub returns : goal.returns
returns c = search first_made

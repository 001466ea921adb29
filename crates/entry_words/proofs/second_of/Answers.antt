-- The words are read from the desk, and the reduct is made of them.
use Rattle.entry_words.proofs.WordLaws.{second_made}
use Rattle.entry_words.proofs.second_of.Goals as goal

pub returns : goal.returns
returns c = search second_made

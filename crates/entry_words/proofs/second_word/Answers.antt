-- By the entry's kind, as in the definition.
use Rattle.workspace.proofs.ReadingLaws.{any_right_read}
use Rattle.entry_words.proofs.WordLaws.{any_equation_right, second_equation, second_deleted, second_overlap}
use Rattle.entry_words.proofs.second_word.Goals as goal

pub returns-in-OfEquation : goal.returns-in-OfEquation
returns-in-OfEquation c = search (second_equation, any_equation_right)

pub returns-in-OfDeleted : goal.returns-in-OfDeleted
returns-in-OfDeleted c = search (second_deleted, any_right_read)

pub returns-in-OfOverlap : goal.returns-in-OfOverlap
returns-in-OfOverlap c = search second_overlap

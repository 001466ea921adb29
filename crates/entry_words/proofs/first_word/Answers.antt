-- By the entry's kind, as in the definition.
use Rattle.workspace.proofs.ReadingLaws.{any_left_read}
use Rattle.entry_words.proofs.WordLaws.{any_equation_left, first_equation, first_deleted, first_overlap}
use Rattle.entry_words.proofs.first_word.Goals as goal

pub returns-in-OfEquation : goal.returns-in-OfEquation
returns-in-OfEquation c = search (first_equation, any_equation_left)

pub returns-in-OfDeleted : goal.returns-in-OfDeleted
returns-in-OfDeleted c = search (first_deleted, any_left_read)

pub returns-in-OfOverlap : goal.returns-in-OfOverlap
returns-in-OfOverlap c = search first_overlap

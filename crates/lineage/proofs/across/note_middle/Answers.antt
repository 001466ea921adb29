-- The steps of the definition, by the entry's kind.
use Rattle.std.proofs.Common.{rules}
use Rattle.lineage.proofs.TraceLaws.{across_equation, across_deleted, across_overlap, room_for_one, room_for_two}
use Rattle.lineage.proofs.across.note_middle.Goals as goal

pub note_step-requires : goal.note_step-requires
note_step-requires c = (search room_for_one, search rules)

pub note_step-requires-in-OfDeleted : goal.note_step-requires-in-OfDeleted
note_step-requires-in-OfDeleted c = (search room_for_one, search rules)

pub note_overlap-requires : goal.note_overlap-requires
note_overlap-requires c = (search room_for_two, search rules)

pub returns-in-OfEquation : goal.returns-in-OfEquation
returns-in-OfEquation c = search across_equation

pub returns-in-OfDeleted : goal.returns-in-OfDeleted
returns-in-OfDeleted c = search across_deleted

pub returns-in-OfOverlap : goal.returns-in-OfOverlap
returns-in-OfOverlap c = search across_overlap

-- The input's length is tried; what is short enough is completed.
use Rattle.printing.proofs.TellLaws.{long_told, sheet_told}
use Rattle.printing.proofs.tell.Goals as goal

pub returns-then-input-gt-SHEET_ROOM : goal.returns-then-input-gt-SHEET_ROOM
returns-then-input-gt-SHEET_ROOM c = search long_told

pub returns : goal.returns
returns c = search sheet_told

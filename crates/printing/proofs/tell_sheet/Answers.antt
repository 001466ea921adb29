-- A refusal of completion is put as text; its table's file is listed.
use Rattle.std.proofs.Common.{rules}
use Rattle.printing.proofs.TellLaws.{completion_refused, file_fits, completion_told}
use Rattle.printing.proofs.tell_sheet.Goals as goal

pub put_file-requires : goal.put_file-requires
put_file-requires c = (search rules, search (file_fits, c.in-Ok.ensures))

pub returns-in-Ok : goal.returns-in-Ok
returns-in-Ok c = search (completion_told, c.in-Ok.ensures)

pub returns-in-Err : goal.returns-in-Err
returns-in-Err c = search (completion_refused, c.in-Err.ensures)

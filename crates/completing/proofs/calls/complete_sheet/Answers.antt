-- A refusal of the turns passes on; else the closing check decides. What is left in the buffer is what the desk held.
use Rattle.std.proofs.lemmas.Result.{err_from_is_err_and}
use Rattle.layout.proofs.SliceLaws.{equations_long}
use Rattle.completing.proofs.ClosingLaws.{delivered_refused, delivered_closed}
use Rattle.completing.proofs.calls.complete_sheet.Goals as goal

pub returns-in_err-run_sheet : goal.returns-in_err-run_sheet
returns-in_err-run_sheet c =
    let p = err_from_is_err_and c.from_residual.result c.from_residual.ensures.1 in
    let t = c.in_err-run_sheet.ensures.started c.start-desk.ensures.empty in
    rw (p.1, p.2) (search (delivered_refused, equations_long, t))

pub returns : goal.returns
returns c =
    let t = c.in_ok-run_sheet.ensures.started c.start-desk.ensures.empty in
    search (delivered_closed, equations_long, t)

-- What is no sheet is refused; else the sheet that was read is completed.
use Rattle.std.proofs.lemmas.Result.{err_from_is_err_and}
use Rattle.completing.proofs.CallLaws.{no_sheet, sheet_delivered}
use Rattle.completing.proofs.calls.complete_judged.Goals as goal

pub returns-in_err-read : goal.returns-in_err-read
returns-in_err-read c =
    let p = err_from_is_err_and c.from_residual.result c.from_residual.ensures.1 in
    let e = c.in_err-read.ensures.none in
    rw (p.1, p.2, e.0) (search (no_sheet, e.1))

pub returns : goal.returns
returns c =
    let s = c.in_ok-read.ensures.fits in
    sheet_delivered _ _ _ _ _ _ (rw s at c.in_ok-read.field-0.fits) (rw s at c.complete_sheet.ensures)

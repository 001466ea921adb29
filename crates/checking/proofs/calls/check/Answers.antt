-- Both files are judged, sheet first; the conditions behind ask that both passed.
use Rattle.std.proofs.lemmas.Result.{err_from_is_err_and}
use Rattle.checking.proofs.CallLaws.{sheet_no, table_no, files_yes}
use Rattle.checking.proofs.calls.check.Goals as goal

pub returns-in_err-read : goal.returns-in_err-read
returns-in_err-read c =
    let p = err_from_is_err_and c.from_residual.result c.from_residual.ensures.1 in
    let e = c.in_err-read.ensures.none in
    rw (p.1, p.2, e.0) (sheet_no c.args.sheet.now c.args.table.now e.1)

pub returns-in_err-read-2 : goal.returns-in_err-read-2
returns-in_err-read-2 c =
    let p = err_from_is_err_and c.from_residual-in_err-read-2.result c.from_residual-in_err-read-2.ensures.1 in
    let e = c.in_err-read-2.ensures.none in
    let s = rw c.in_ok-read.ensures.fits at c.in_ok-read.field-0.fits in
    rw (p.1, p.2, e.0) (table_no c.args.sheet.now c.args.table.now s e.1)

pub returns : goal.returns
returns c =
    let s = c.in_ok-read.ensures.fits in
    let t = c.in_ok-read-2.ensures.fits in
    files_yes c.args.sheet.now c.args.table.now c.check_judged.result (rw s at c.in_ok-read.field-0.fits) (rw t at c.in_ok-read-2.field-0.fits) (rw (s, t) at c.check_judged.ensures)

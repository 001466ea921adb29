-- A refusal of the check passes on; where it is met the table is packed.
use Rattle.std.proofs.lemmas.Result.{err_from_is_err_and}
use Rattle.layout.specs.Sheets.{sheet_of}
use Rattle.layout.proofs.JudgedLaws.{sheet_order}
use Rattle.completing.proofs.ClosingLaws.{close_refused, close_met}
use Rattle.completing.proofs.closing.close.Goals as goal

pub check_lines-requires : goal.check_lines-requires
check_lines-requires c = (rw (c.lines.ensures.recs, c.lines.ensures.n) c.steps.ensures.there, c.steps.ensures.few)

pub returns-in_err-check_lines : goal.returns-in_err-check_lines
returns-in_err-check_lines c =
    let p = err_from_is_err_and c.from_residual.result c.from_residual.ensures.1 in
    let s = c.args.sheet in
    let t = rw (sheet_order s.bytes.now s.header s.read, c.equations.ensures.equations, c.steps.ensures.steps, c.lines.ensures.lines) at c.in_err-check_lines.ensures in
    rw (p.1, p.2) (close_refused (sheet_of s.bytes.now) c.args.desk.now _ _ t)

pub returns : goal.returns
returns c =
    let s = c.args.sheet in
    let t = rw (sheet_order s.bytes.now s.header s.read, c.equations.ensures.equations, c.steps.ensures.steps, c.lines.ensures.lines) at c.in_ok-check_lines.ensures in
    close_met (sheet_of s.bytes.now) c.args.desk.now _ _ _ _ t c.pack_state.ensures

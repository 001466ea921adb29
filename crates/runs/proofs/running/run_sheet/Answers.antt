-- The start, then the turns from there.
use Rattle.std.proofs.lemmas.Result.{err_from_is_err_and}
use Rattle.runs.proofs.RunningLaws.{sheet_run, sheet_starts, queued_run, queued_refused}
use Rattle.runs.proofs.running.run_sheet.Goals as goal

pub returns-in_err-push_equations-clause-queued : goal.returns-in_err-push_equations-clause-queued
returns-in_err-push_equations-clause-queued c =
    let p = err_from_is_err_and c.from_residual.result c.from_residual.ensures.1 in
    rw (p.1, p.2) (search (queued_refused, c.in_err-push_equations.ensures))

pub returns-in_err-push_equations-clause-started : goal.returns-in_err-push_equations-clause-started
returns-in_err-push_equations-clause-started c = λ none.
    let p = err_from_is_err_and c.from_residual.result c.from_residual.ensures.1 in
    rw (p.1, p.2) (search (sheet_starts, c.in_err-push_equations.ensures))

pub returns-clause-queued : goal.returns-clause-queued
returns-clause-queued c = search (queued_run, c.in_ok-push_equations.ensures)

pub returns-clause-started : goal.returns-clause-started
returns-clause-started c = λ none. search (sheet_run, c.in_ok-push_equations.ensures)

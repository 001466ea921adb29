-- A turn that goes on keeps the run and lowers the weight; a refused one refuses it, and where none waits it is over.
use Rattle.std.proofs.lemmas.Result.{err_from_is_err_and}
use Rattle.runs.proofs.RunningLaws.{running_start, run_over, run_refused, run_on, run_falls}
use Rattle.runs.proofs.running.run.Goals as goal

pub loop-init : goal.loop-init
loop-init c = search running_start

pub returns-in_err-turn : goal.returns-in_err-turn
returns-in_err-turn c =
    let p = err_from_is_err_and c.from_residual.result c.from_residual.ensures.1 in
    rw (p.1, p.2) (search (run_refused, c.in_err-turn.ensures))

pub loop-smaller : goal.loop-smaller
loop-smaller c = let t = rw c.if-branch.true at c.in_ok-turn.ensures in run_falls _ _ _ _ _ c.loop.invariant t

pub loop-preserved : goal.loop-preserved
loop-preserved c = let t = rw c.if-branch.true at c.in_ok-turn.ensures in run_on _ _ _ _ _ c.loop.invariant t

pub returns : goal.returns
returns c = let t = rw c.if-branch.false at c.in_ok-turn.ensures in run_over _ _ _ _ _ c.loop.invariant t

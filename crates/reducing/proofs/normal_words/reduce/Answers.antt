-- A turn that replaces keeps the answer; a refused one refuses it, and with an irreducible word it is reached.
use Rattle.std.proofs.Common.{rules}
use Rattle.std.proofs.lemmas.Result.{err_from_is_err_and}
use Rattle.reducing.proofs.TurnLaws.{onward_start, normal_reached, normal_refused, allowance_left, allowance_falls, count_fits, onward_on}
use Rattle.reducing.proofs.normal_words.reduce.Goals as goal

pub loop-count-init : goal.loop-count-init
loop-count-init g c = record { few = search rules; onward = onward_start _ _ _ }

pub returns-in_err-turn : goal.returns-in_err-turn
returns-in_err-turn g c =
    let p = err_from_is_err_and c.from_residual.result c.from_residual.ensures.1 in
    rw (p.1, p.2) (search (normal_refused, c.in_err-turn.ensures))

pub overflow_add-count : goal.overflow_add-count
overflow_add-count g c = let t = rw c.if-branch.true at c.in_ok-turn.ensures in search (count_fits, t)

pub loop-count-smaller : goal.loop-count-smaller
loop-count-smaller g c = let t = rw c.if-branch.true at c.in_ok-turn.ensures in search (allowance_falls, t)

pub loop-count-preserved : goal.loop-count-preserved
loop-count-preserved g c =
    let t = rw c.if-branch.true at c.in_ok-turn.ensures in
    record { few = search (allowance_left, t); onward = search (onward_on, t) }

pub returns : goal.returns
returns g c = let t = rw c.if-branch.false at c.in_ok-turn.ensures in search (normal_reached, t)

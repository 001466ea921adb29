-- The oldest entry is taken and treated; where there is none the turns are over.
use Rattle.std.proofs.lemmas.Result.{err_from_is_err_and}
use Rattle.layout.proofs.SliceLaws.{equations_long}
use Rattle.turns.proofs.TurnLaws.{turn_over, turn_going, turn_refused}
use Rattle.turns.proofs.turn.Goals as goal

pub returns-in-None : goal.returns-in-None
returns-in-None c = search (turn_over, c.in-None.ensures)

pub returns-in_err-treat-in-Some : goal.returns-in_err-treat-in-Some
returns-in_err-treat-in-Some c = let p = err_from_is_err_and c.from_residual.result c.from_residual.ensures.1 in rw (p.1, p.2) (search (turn_refused, equations_long, c.in-Some.ensures, c.in_err-treat-in-Some.ensures))

pub returns-in_ok-treat-in-Some : goal.returns-in_ok-treat-in-Some
returns-in_ok-treat-in-Some c = search (turn_going, equations_long, c.in-Some.ensures, c.in_ok-treat-in-Some.ensures)

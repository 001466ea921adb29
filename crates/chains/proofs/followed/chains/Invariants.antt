-- The loop keeps that all lines before passed, and that the next line's steps start at q.
use Rattle.std.proofs.Common.{◌≤◌, ◌*◌}
use Rattle.chains.proofs.ChainLaws.{Followed}
use Rattle.chains.proofs.followed.chains.Given as goal

abbrev pub invariant-loop-j : goal.invariant-loop-j
invariant-loop-j l = (l.q ≤ 65536 * l.j) × Followed l.equations.recs.now l.equations.words.now l.equations.n l.lines.recs.now l.steps l.lines.words.now l.lines.n l.j l.q

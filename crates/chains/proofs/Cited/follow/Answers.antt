-- Each step leads on or astray; where all are done the chain has come to its end.
use Rattle.std.proofs.Common.{rules}
use Rattle.chains.proofs.ChainLaws.{following_start, following_astray, following_on, following_end}
use Rattle.chains.proofs.Cited.follow.Goals as goal

pub loop-i-init : goal.loop-i-init
loop-i-init c = search (rules, following_start)

pub returns-then-not-step_at : goal.returns-then-not-step_at
returns-then-not-step_at c = search (rules, following_astray)

pub loop-i-preserved : goal.loop-i-preserved
loop-i-preserved c = search (rules, following_on)

pub returns : goal.returns
returns c = search (rules, following_end)

-- A line whose chain holds leads to the next, and the first whose chain fails is refused.
use Rattle.std.proofs.Common.{rules}
use Rattle.chains.proofs.ChainLaws.{followed_start, followed_place, followed_inside, followed_on, followed_no, followed_end}
use Rattle.chains.proofs.followed.chains.Goals as goal

pub loop-j-init : goal.loop-j-init
loop-j-init c = search (rules, followed_start)

pub chain_holds-requires : goal.chain_holds-requires
chain_holds-requires c = search (rules, followed_place, followed_inside)

pub returns-then-not-chain_holds : goal.returns-then-not-chain_holds
returns-then-not-chain_holds c = search (rules, followed_no)

pub loop-j-preserved : goal.loop-j-preserved
loop-j-preserved c = search (rules, followed_on)

pub returns : goal.returns
returns c = search (rules, followed_end)

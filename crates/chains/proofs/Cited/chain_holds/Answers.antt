-- The chain is followed from a copy of the left word, and its end compared with the right word.
use Rattle.std.proofs.Common.{rules}
use Rattle.chains.proofs.ChainLaws.{chain_reached, chain_astray}
use Rattle.chains.proofs.Cited.chain_holds.Goals as goal

pub returns-then-follow : goal.returns-then-follow
returns-then-follow c = let e = rw c.as_slice.ensures.word at c.same_word.ensures in let f = c.left.ensures.0 in let g = c.right.ensures.0 in search (rules, chain_reached)

pub returns-else-follow : goal.returns-else-follow
returns-else-follow c = let f = c.left.ensures.0 in search (rules, chain_astray)

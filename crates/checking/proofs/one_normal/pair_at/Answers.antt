-- Where there is no pair the condition is met; where there is one its place lies inside the left word, and its reducts are compared.
use Rattle.std.proofs.Common.{rules}
use Rattle.checking.proofs.OneNormalLaws.{pair_none, pair_joined}
use Rattle.checking.proofs.one_normal.pair_at.Goals as goal

pub returns-then-not-is_pair : goal.returns-then-not-is_pair
returns-then-not-is_pair c = search (rules, pair_none)

pub returns : goal.returns
returns c = search (rules, pair_joined)

-- The two sides of the equation are the words that are reduced and compared.
use Rattle.std.proofs.Common.{rules}
use Rattle.checking.proofs.OneNormalLaws.{joins_are}
use Rattle.checking.proofs.one_normal.equation_same.Goals as goal

pub returns : goal.returns
returns c = search (rules, joins_are)

-- Three copies, each directly behind the one before.
use Rattle.rewriting.proofs.ReplacingLaws.{joined}
use Rattle.rewriting.proofs.replacing.join.Goals as goal

pub returns : goal.returns
returns c = search joined

-- The number, the words behind it, and the end of the line.
use Rattle.listing.proofs.TextLaws.{rule_put}
use Rattle.listing.proofs.tables.put_rule.Goals as goal

pub returns : goal.returns
returns c = search rule_put

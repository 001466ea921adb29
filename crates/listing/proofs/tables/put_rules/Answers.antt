-- Each line's text is put behind those of the lines before it.
use Rattle.std.proofs.Common.{rules}
use Rattle.listing.proofs.TextLaws.{rules_start, rules_on}
use Rattle.listing.proofs.tables.put_rules.Goals as goal

pub loop-j-init : goal.loop-j-init
loop-j-init c = search rules_start

pub loop-j-preserved : goal.loop-j-preserved
loop-j-preserved c = search (rules, rules_on)

-- A deleted line has no text, a standing one its rule's.
use Rattle.std.proofs.Common.{rules}
use Rattle.listing.proofs.DecimalLaws.{line_digits}
use Rattle.listing.proofs.TextLaws.{line_deleted, line_put}
use Rattle.listing.proofs.tables.put_line.Goals as goal

pub put_rule-requires : goal.put_rule-requires
put_rule-requires c = (search rules, search (line_digits, c.args.lines.few), search rules, search rules)

pub returns-then-stands : goal.returns-then-stands
returns-then-stands c = search line_put

pub returns-else-stands : goal.returns-else-stands
returns-else-stands c = search line_deleted

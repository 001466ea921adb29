-- The title, and the rules behind it.
use Rattle.std.proofs.Common.{rules}
use Rattle.listing.proofs.DecimalLaws.{rules_digits, lines_digits}
use Rattle.listing.proofs.TextLaws.{table_put}
use Rattle.listing.proofs.tables.put_table.Goals as goal

pub put_title-middle-requires : goal.put_title-middle-requires
put_title-middle-requires c = (search rules, search rules_digits, search lines_digits)

pub returns : goal.returns
returns c = search table_put

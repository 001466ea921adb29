-- The records that were cut out are as long as the header says.
use Rattle.std.proofs.Common.{rules}
use Rattle.layout.specs.Header.{table_kind}
use Rattle.layout.proofs.AreaLaws.{records_long}
use Rattle.layout.proofs.tables.table_areas_fit.Goals as goal

pub lines_fit-requires : goal.lines_fit-requires
lines_fit-requires c = (search (records_long table_kind), search rules, search rules)

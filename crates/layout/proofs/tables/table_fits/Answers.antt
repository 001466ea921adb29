-- A good header puts the areas inside the file, where they are judged.
use Rattle.std.proofs.Common.{rules}
use Rattle.layout.proofs.HeaderLaws.{table_limited, head_judged}
use Rattle.layout.proofs.tables.table_fits.Goals as goal

pub table_areas_fit-requires : goal.table_areas_fit-requires
table_areas_fit-requires c = (search (head_judged, table_limited), search rules)

-- The records that were cut out are as long as the header says.
use Rattle.std.proofs.Common.{rules}
use Rattle.layout.specs.Header.{sheet_kind}
use Rattle.layout.proofs.AreaLaws.{records_long}
use Rattle.layout.proofs.sheets.sheet_areas_fit.Goals as goal

pub equations_fit-requires : goal.equations_fit-requires
equations_fit-requires c = (search (records_long sheet_kind), search rules)

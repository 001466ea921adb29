-- A good header puts the areas inside the file, where they are judged.
use Rattle.std.proofs.Common.{rules}
use Rattle.layout.proofs.HeaderLaws.{sheet_limited, head_judged}
use Rattle.layout.proofs.sheets.sheet_fits.Goals as goal

pub sheet_areas_fit-requires : goal.sheet_areas_fit-requires
sheet_areas_fit-requires c = (search (head_judged, sheet_limited), search rules)

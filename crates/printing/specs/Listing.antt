-- What the program prints for an input. Specification, "Listing": no sheet has more than 4,368 bytes, and longer input is refused by 1.
use Rattle.std.specs.Prelude.{ℕ, List, cond, leb, length}
use Rattle.words.specs.Refusal.{Result, refused}
use Rattle.rewriting.specs.Sheet.{Table}
use Rattle.layout.specs.Sheets.{sheet_fits, sheet_of}
use Rattle.packing.specs.Limits.{sheet_room}
use Rattle.listing.specs.Text.{result_text}
use Rattle.runs.specs.Completion.{complete}

-- the table of a file, if it is a sheet
unfoldable pub file_table : List ℕ → Result Table
file_table file = cond (sheet_fits file) (complete (sheet_of file)) (refused 1 0)

-- the table of an input, as the program finds it; a longer one than the largest sheet is no sheet
unfoldable pub input_table : List ℕ → Result Table
input_table input = cond (leb (length input) sheet_room) (file_table input) (refused 1 0)

-- what is printed for an input
unfoldable pub listing : List ℕ → List ℕ
listing input = result_text (input_table input)

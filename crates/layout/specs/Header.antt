-- The header, read and judged once for all kinds of file. Specification, "Layout": eight numbers of two bytes each, low byte first, then
-- records, in a table steps, and the words area, with nothing between and nothing behind.
use Rattle.std.specs.Prelude.{ℕ, ◌+◌, ◌*◌, List, Bool, ◌&&◌, leb, eqb, length, take, drop}
use Rattle.words.specs.Comparing.{order_known}
use Rattle.buffers.specs.Bytes.{u16_at}
use Rattle.layout.specs.declared.Kind.{Kind}
use Rattle.layout.specs.declared.Header.{Header}

-- the bytes of the header's eight numbers, of a sheet's record, of a table's, of a step
abbrev pub header_size : ℕ
header_size = 16

abbrev pub sheet_width : ℕ
sheet_width = 4

abbrev pub table_width : ℕ
table_width = 8

abbrev pub step_width : ℕ
step_width = 4

-- what sets a kind of file apart: its number, its record's width, and the most pairs, cited equations and steps
abbrev pub sheet_kind : Kind
sheet_kind = record { number = 1; width = sheet_width; pairs = 64; cited = 0; steps = 0 }

abbrev pub table_kind : Kind
table_kind = record { number = 2; width = table_width; pairs = 256; cited = 64; steps = 8192 }

-- what a header says of its file, beside the kind and the two lengths that follow from it
unfoldable pub header_of : List ℕ → Header
header_of b = record { order = record { code = u16_at b 2 }; letters = u16_at b 4; pairs = u16_at b 6; cited = u16_at b 8; steps = u16_at b 10 }

-- where the records start, the steps and the words area
unfoldable pub records_at : Kind → Header → ℕ
records_at k h = header_size

abbrev pub steps_at : Kind → Header → ℕ
steps_at k h = records_at k h + k.width * h.pairs

abbrev pub words_at : Kind → Header → ℕ
words_at k h = steps_at k h + step_width * h.steps

-- the order is known, and the numbers are within the kind's limits
unfoldable pub numbers_fit : Kind → Header → Bool
numbers_fit k h =
    order_known h.order h.letters && (leb h.pairs k.pairs && (leb h.cited k.cited && leb h.steps k.steps))

-- the words area starts where it is due, inside the file, and the total is the file's size
unfoldable pub lengths_fit : ℕ → ℕ → ℕ → ℕ → Bool
lengths_fit start total due size = eqb start due && (eqb total size && leb due size)

-- a header of this kind, on a slice that is as long as it says
unfoldable pub header_fits : Kind → List ℕ → Bool
header_fits k b =
    leb header_size (length b) && (eqb (u16_at b 0) k.number && (numbers_fit k (header_of b)
    && lengths_fit (u16_at b 12) (u16_at b 14) (words_at k (header_of b)) (length b)))

-- the three areas of a file
unfoldable pub records_of : Kind → List ℕ → List ℕ
records_of k b = take (k.width * (header_of b).pairs) (drop (records_at k (header_of b)) b)

unfoldable pub steps_of : Kind → List ℕ → List ℕ
steps_of k b = take (step_width * (header_of b).steps) (drop (steps_at k (header_of b)) b)

unfoldable pub words_of : Kind → List ℕ → List ℕ
words_of k b = drop (words_at k (header_of b)) b

-- How sheets and tables are written. Specification, "Layout": header, records, steps and words area, one directly behind the other, and in the
-- words area each pair's left letters, then its right ones.
use Rattle.std.specs.Prelude.{ℕ, ◌+◌, List, [], ◌∷◌, ◌++◌, Bool, cond, length}
use Rattle.rewriting.specs.Sheet.{Equation, Sheet, Step, Line, Table}
use Rattle.buffers.specs.Bytes.{u16_bytes}
use Rattle.layout.specs.declared.Kind.{Kind}
use Rattle.layout.specs.declared.Header.{Header}
use Rattle.layout.specs.Header.{sheet_kind, table_kind, words_at}

abbrev pub bit : Bool → ℕ
bit b = cond b 1 0

-- numbers below 65,536, one behind the other
unfoldable pub numbers_bytes : List ℕ → List ℕ
numbers_bytes [] = []
numbers_bytes (n ∷ ns) = u16_bytes n ++ numbers_bytes ns

-- the eight numbers of the header of a file whose words area has so many letters
unfoldable pub header_bytes : Kind → Header → ℕ → List ℕ
header_bytes k h letters =
    u16_bytes k.number ++ (u16_bytes h.order.code ++ (u16_bytes h.letters ++ (u16_bytes h.pairs ++ (u16_bytes h.cited
    ++ (u16_bytes h.steps ++ (u16_bytes (words_at k h) ++ u16_bytes (words_at k h + letters)))))))

-- what every record starts with: where the letters start, and how many the two sides have
abbrev pub sides_bytes : ℕ → ℕ → ℕ → List ℕ
sides_bytes offset left right = u16_bytes offset ++ (left ∷ right ∷ [])

-- a line's record: its sides, its number of steps, whether it stands, a zero byte
abbrev pub record_bytes : ℕ → ℕ → ℕ → ℕ → Bool → List ℕ
record_bytes offset left right steps stands = sides_bytes offset left right ++ (u16_bytes steps ++ (bit stands ∷ 0 ∷ []))

unfoldable pub equation_records : ℕ → List Equation → List ℕ
equation_records o [] = []
equation_records o (e ∷ es) = sides_bytes o (length e.left) (length e.right) ++ equation_records (o + (length e.left + length e.right)) es

unfoldable pub equation_words : List Equation → List ℕ
equation_words [] = []
equation_words (e ∷ es) = e.left ++ (e.right ++ equation_words es)

unfoldable pub line_records : ℕ → List Line → List ℕ
line_records o [] = []
line_records o (t ∷ ts) =
    record_bytes o (length t.left) (length t.right) (length t.steps) t.stands ++ line_records (o + (length t.left + length t.right)) ts

unfoldable pub step_bytes : Step → List ℕ
step_bytes s = u16_bytes s.reference ++ (bit s.back ∷ s.place ∷ [])

unfoldable pub steps_bytes : List Step → List ℕ
steps_bytes [] = []
steps_bytes (s ∷ ss) = step_bytes s ++ steps_bytes ss

unfoldable pub line_steps : List Line → List ℕ
line_steps [] = []
line_steps (t ∷ ts) = steps_bytes t.steps ++ line_steps ts

unfoldable pub line_words : List Line → List ℕ
line_words [] = []
line_words (t ∷ ts) = t.left ++ (t.right ++ line_words ts)

-- the number of steps of all lines
unfoldable pub steps_made : List Line → ℕ
steps_made [] = 0
steps_made (t ∷ ts) = length t.steps + steps_made ts

unfoldable pub sheet_header : Sheet → Header
sheet_header s = record { order = s.order; letters = s.letters; pairs = length s.equations; cited = 0; steps = 0 }

unfoldable pub write_sheet : Sheet → List ℕ
write_sheet s =
    header_bytes sheet_kind (sheet_header s) (length (equation_words s.equations))
    ++ (equation_records 0 s.equations ++ equation_words s.equations)

unfoldable pub table_header : Table → Header
table_header t = record { order = t.order; letters = t.letters; pairs = length t.lines; cited = t.cited; steps = steps_made t.lines }

unfoldable pub write_table : Table → List ℕ
write_table t =
    header_bytes table_kind (table_header t) (length (line_words t.lines))
    ++ (line_records 0 t.lines ++ (line_steps t.lines ++ line_words t.lines))

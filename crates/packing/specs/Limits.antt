-- The sheets and tables that have a file: those within the limits of Specification, "Layout". A byte list is in the layout
-- exactly if it is the written form of one of them.
use Rattle.std.specs.Prelude.{ℕ, ◌+◌, ◌<◌, List, [], ◌∷◌, Bool, true, ◌&&◌, leb, ltb, length, get_or}
use Rattle.words.specs.Word.{letters_below}
use Rattle.words.specs.Comparing.{order_known}
use Rattle.rewriting.specs.Sheet.{side_limit, Equation, Sheet, Step, Line, Table}
use Rattle.layout.specs.Header.{sheet_kind, table_kind}
use Rattle.writing.specs.Writing.{equation_words, line_words, steps_made}

-- the bytes of the largest sheet
abbrev pub sheet_room : ℕ
sheet_room = 4368

-- the letters of two sides, at most
abbrev pub pair_most : ℕ
pair_most = 64

-- every element is a byte
abbrev pub Bytes : List ℕ → Type 0
Bytes b = (i : ℕ) → get_or b i 0 < 256

unfoldable pub equations_within : List Equation → Bool
equations_within [] = true
equations_within (e ∷ es) = leb (length e.left) side_limit && (leb (length e.right) side_limit && equations_within es)

unfoldable pub sheet_within : Sheet → Bool
sheet_within s =
    order_known s.order s.letters && (leb (length s.equations) sheet_kind.pairs && (equations_within s.equations
    && letters_below s.letters (equation_words s.equations)))

-- a step refers below the bound, at a position of at most 128
unfoldable pub steps_within : ℕ → List Step → Bool
steps_within bound [] = true
steps_within bound (s ∷ ss) = ltb s.reference bound && (leb s.place 128 && steps_within bound ss)

unfoldable pub lines_within : ℕ → List Line → Bool
lines_within bound [] = true
lines_within bound (t ∷ ts) =
    leb (length t.left) side_limit && (leb (length t.right) side_limit && (steps_within bound t.steps && lines_within (bound + 1) ts))

unfoldable pub table_within : Table → Bool
table_within t =
    order_known t.order t.letters && (leb (length t.lines) table_kind.pairs && (leb t.cited table_kind.cited && (leb (steps_made t.lines) table_kind.steps
    && (lines_within t.cited t.lines && letters_below t.letters (line_words t.lines)))))

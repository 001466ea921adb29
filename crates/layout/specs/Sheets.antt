-- Sheets as bytes: which files are sheets, and what they stand for. Specification, "Layout": a record for each equation, with sides of at
-- most 32 letters, all letters below n and one pair's behind the other's.
-- Records are read at the front of what is left of them; so are their letters, with the offset o that is due.
use Rattle.std.specs.Prelude.{ℕ, zero, suc, ◌+◌, List, [], ◌∷◌, Bool, ◌&&◌, leb, eqb, length, get_or, take, drop}
use Rattle.words.specs.Word.{Word, letters_below}
use Rattle.rewriting.specs.Sheet.{side_limit, Equation, Sheet}
use Rattle.buffers.specs.Bytes.{u16_at}
use Rattle.layout.specs.Header.{sheet_width, sheet_kind, header_of, header_fits, records_of, words_of}

-- the bytes that every record starts with: offset, left length, right length
abbrev pub sides_width : ℕ
sides_width = 4

-- the sides of the record at the front
abbrev pub left_length : List ℕ → ℕ
left_length recs = get_or recs 2 0

abbrev pub right_length : List ℕ → ℕ
right_length recs = get_or recs 3 0

-- both sides' letters, which stand at the front of the words
abbrev pub pair_length : List ℕ → ℕ
pair_length recs = left_length recs + right_length recs

abbrev pub left_of : List ℕ → List ℕ → Word
left_of recs words = take (left_length recs) words

abbrev pub right_of : List ℕ → List ℕ → Word
right_of recs words = take (right_length recs) (drop (left_length recs) words)

-- the offset is the one due, no side has over 32 letters, and the letters are there
unfoldable pub sides_fit : ℕ → List ℕ → List ℕ → Bool
sides_fit o recs words =
    eqb (u16_at recs 0) o && (leb (left_length recs) side_limit && (leb (right_length recs) side_limit && leb (pair_length recs) (length words)))

-- n equations, and no letter behind the last
unfoldable pub equations_fit : ℕ → ℕ → List ℕ → List ℕ → Bool
equations_fit o zero recs words = eqb (length words) 0
equations_fit o (suc n) recs words =
    sides_fit o recs words && equations_fit (o + pair_length recs) n (drop sheet_width recs) (drop (pair_length recs) words)

unfoldable pub sheet_fits : List ℕ → Bool
sheet_fits b =
    header_fits sheet_kind b
    && (equations_fit 0 (header_of b).pairs (records_of sheet_kind b) (words_of sheet_kind b)
    && letters_below (header_of b).letters (words_of sheet_kind b))

unfoldable pub read_equations : ℕ → List ℕ → List ℕ → List Equation
read_equations zero recs words = []
read_equations (suc n) recs words =
    record { left = left_of recs words; right = right_of recs words } ∷ read_equations n (drop sheet_width recs) (drop (pair_length recs) words)

unfoldable pub sheet_of : List ℕ → Sheet
sheet_of b = record {
  order = (header_of b).order;
  letters = (header_of b).letters;
  equations = read_equations (header_of b).pairs (records_of sheet_kind b) (words_of sheet_kind b);
}

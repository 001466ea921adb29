-- Tables as bytes: which files are tables, and what they stand for. Specification, "Layout": a record of eight bytes for each line and steps of four
-- bytes, line after line, each citing an equation or an earlier line. Records, steps and letters are read at the front of what
-- is left of them.
use Rattle.std.specs.Prelude.{ℕ, zero, suc, ◌+◌, ◌*◌, List, [], ◌∷◌, Bool, true, cond, ◌&&◌, leb, ltb, eqb, length, get_or, drop}
use Rattle.words.specs.Word.{letters_below}
use Rattle.words.specs.Refusal.{Result, refused}
use Rattle.rewriting.specs.Sheet.{Step, Line, Table}
use Rattle.buffers.specs.Bytes.{u16_at}
use Rattle.layout.specs.Header.{table_width, step_width, table_kind, header_of, header_fits, records_of, steps_of, words_of}
use Rattle.layout.specs.Sheets.{pair_length, left_of, right_of, sides_fit}

-- the number of steps of the record at the front
abbrev pub steps_in : List ℕ → ℕ
steps_in recs = u16_at recs 4

-- the step at the front: its reference is below the bound, an equation's number or an earlier line's
unfoldable pub step_fits : ℕ → List ℕ → Bool
step_fits bound s = ltb (u16_at s 0) bound && (leb (get_or s 2 0) 1 && leb (get_or s 3 0) 128)

unfoldable pub steps_fit : ℕ → ℕ → List ℕ → Bool
steps_fit bound zero s = true
steps_fit bound (suc n) s = step_fits bound s && steps_fit bound n (drop step_width s)

-- the line at the front: its sides, its flag, its zero byte, its steps
unfoldable pub line_fits : ℕ → ℕ → List ℕ → List ℕ → List ℕ → Bool
line_fits bound o recs steps words =
    sides_fit o recs words && (leb (get_or recs 6 0) 1 && (eqb (get_or recs 7 0) 0
    && (leb (step_width * steps_in recs) (length steps) && steps_fit bound (steps_in recs) steps)))

-- n lines, and neither step nor letter behind the last; a line's steps may cite the equations and the lines before it
unfoldable pub lines_fit : ℕ → ℕ → ℕ → List ℕ → List ℕ → List ℕ → Bool
lines_fit bound o zero recs steps words = eqb (length steps) 0 && eqb (length words) 0
lines_fit bound o (suc n) recs steps words =
    line_fits bound o recs steps words
    && lines_fit (bound + 1) (o + pair_length recs) n (drop table_width recs) (drop (step_width * steps_in recs) steps) (drop (pair_length recs) words)

unfoldable pub table_fits : List ℕ → Bool
table_fits b =
    header_fits table_kind b
    && (lines_fit (header_of b).cited 0 (header_of b).pairs (records_of table_kind b) (steps_of table_kind b) (words_of table_kind b)
    && letters_below (header_of b).letters (words_of table_kind b))

unfoldable pub step_of : List ℕ → Step
step_of s = record { reference = u16_at s 0; back = eqb (get_or s 2 0) 1; place = get_or s 3 0 }

unfoldable pub read_steps : ℕ → List ℕ → List Step
read_steps zero s = []
read_steps (suc n) s = step_of s ∷ read_steps n (drop step_width s)

unfoldable pub line_of : List ℕ → List ℕ → List ℕ → Line
line_of recs steps words = record {
  left = left_of recs words;
  right = right_of recs words;
  steps = read_steps (steps_in recs) steps;
  stands = eqb (get_or recs 6 0) 1;
}

unfoldable pub read_lines : ℕ → List ℕ → List ℕ → List ℕ → List Line
read_lines zero recs steps words = []
read_lines (suc n) recs steps words =
    line_of recs steps words ∷ read_lines n (drop table_width recs) (drop (step_width * steps_in recs) steps) (drop (pair_length recs) words)

unfoldable pub table_of : List ℕ → Table
table_of b = record {
  order = (header_of b).order;
  letters = (header_of b).letters;
  cited = (header_of b).cited;
  lines = read_lines (header_of b).pairs (records_of table_kind b) (steps_of table_kind b) (words_of table_kind b);
}

-- a call on a file that is a table
abbrev pub on_table : {A : Type 0} → List ℕ → (Table → Result A) → Result A
on_table b f = cond (table_fits b) (f (table_of b)) (refused 1 0)

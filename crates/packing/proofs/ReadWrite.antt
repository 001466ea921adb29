-- What is written is read back as it was, whatever it is. A number is the sum of its two bytes; a record's letters and steps stand at the front of
-- what is left, and dropping them leaves those of the records behind.
use Prim.Native.Nat.{ℕ, ◌+◌, ◌*◌, ◌/◌, ◌%◌}
use native.Mathlib.Omega.{arith}
use mathlib.Core.Path.{◌≡◌, refl, ◌∙◌, ap, ap₂}
use mathlib.Core.List.{List, [], ◌∷◌, ◌++◌}
use lib.ListN.{length, take, drop, length-append}
use lib.Seq.{take-append_seam, drop-append_seam, drop-append-add, take_at, drop_at}
use Rattle.rewriting.specs.Sheet.{Equation, Sheet, Line, Table}
use Rattle.layout.specs.declared.Kind.{Kind}
use Rattle.layout.specs.declared.Header.{Header}
use Rattle.layout.specs.Header.{sheet_width, table_width, step_width, sheet_kind, table_kind, header_of, records_at, records_of, steps_of, words_of}
use Rattle.layout.specs.Sheets.{read_equations, sheet_of}
use Rattle.layout.specs.Tables.{read_steps, line_of, read_lines, table_of}
use Rattle.writing.specs.Writing.{header_bytes, equation_records, equation_words, line_records, steps_bytes, line_steps, line_words, steps_made, sheet_header, write_sheet, table_header, write_table}
use Rattle.writing.proofs.StepLaws.{two_bytes, bit_is, steps_read, steps_size}

-- the sides at the front of the letters
right_front : (l r w : List ℕ) → take (length r) (drop (length l) (l ++ (r ++ w))) ≡ r
right_front l r w = rw (drop-append_seam l (r ++ w)) (take-append_seam r w)

pub sides_behind : (l r w : List ℕ) → drop (length l + length r) (l ++ (r ++ w)) ≡ w
sides_behind l r w = drop-append-add l (r ++ w) (length r) ∙ drop-append_seam r w

-- equations
equations_read : (o : ℕ) (es : List Equation) → read_equations (length es) (equation_records o es) (equation_words es) ≡ es
unfolding read_equations equation_records equation_words
equations_read o [] = refl
equations_read o (e ∷ es) =
    ap₂ ◌∷◌
    (λ i. record { left = take-append_seam e.left (e.right ++ equation_words es) i; right = right_front e.left e.right (equation_words es) i })
    (ap (read_equations (length es) (equation_records (o + (length e.left + length e.right)) es)) (sides_behind e.left e.right (equation_words es))
    ∙ equations_read (o + (length e.left + length e.right)) es)

pub equations_size : (o : ℕ) (es : List Equation) → length (equation_records o es) ≡ sheet_width * length es
unfolding equation_records
equations_size o [] = refl
equations_size o (e ∷ es) = let h = equations_size (o + (length e.left + length e.right)) es in omega (arith, h)

-- lines
lines_read : (o : ℕ) (ts : List Line) → read_lines (length ts) (line_records o ts) (line_steps ts) (line_words ts) ≡ ts
unfolding read_lines line_of line_records line_steps line_words
lines_read o [] = refl
lines_read o (t ∷ ts) =
    let n = length t.steps in
    let p = o + (length t.left + length t.right) in
    let es : drop (step_width * (n % 256 + 256 * (n / 256))) (steps_bytes t.steps ++ line_steps ts) ≡ line_steps ts =
    ap (λ (k : ℕ). drop (step_width * k) (steps_bytes t.steps ++ line_steps ts)) (two_bytes n) ∙ drop_at (steps_bytes t.steps) (line_steps ts) (step_width * n) (steps_size t.steps) in
    let ew = sides_behind t.left t.right (line_words ts) in
    let ss = ap (λ (k : ℕ). read_steps k (steps_bytes t.steps ++ line_steps ts)) (two_bytes n) ∙ steps_read t.steps (line_steps ts) in
    ap₂ ◌∷◌
    (λ i. record {
      left = take-append_seam t.left (t.right ++ line_words ts) i;
      right = right_front t.left t.right (line_words ts) i;
      steps = ss i;
      stands = bit_is t.stands i;
    })
    (ap₂ (read_lines (length ts) (line_records p ts)) es ew ∙ lines_read p ts)

pub lines_size : (o : ℕ) (ts : List Line) → length (line_records o ts) ≡ table_width * length ts
unfolding line_records
lines_size o [] = refl
lines_size o (t ∷ ts) = let h = lines_size (o + (length t.left + length t.right)) ts in omega (arith, h)

pub line_steps_size : (ts : List Line) → length (line_steps ts) ≡ step_width * steps_made ts
unfolding line_steps steps_made
line_steps_size [] = refl
line_steps_size (t ∷ ts) = let h = line_steps_size ts in rw length-append (omega (arith, h, steps_size t.steps))

-- the header of a written file
pub header_read : (k : Kind) (h : Header) (n : ℕ) (rest : List ℕ) → header_of (header_bytes k h n ++ rest) ≡ h
unfolding header_of header_bytes
header_read k h n rest i = record {
  order = record { code = two_bytes h.order.code i };
  letters = two_bytes h.letters i;
  pairs = two_bytes h.pairs i;
  cited = two_bytes h.cited i;
  steps = two_bytes h.steps i;
}

-- a file of four parts, cut where its header says
module _ (k : Kind) (h : Header) (n : ℕ) (r s w : List ℕ) (lr : length r ≡ k.width * h.pairs) (ls : length s ≡ step_width * h.steps) where
  abbrev pub file : List ℕ
  file = header_bytes k h n ++ (r ++ (s ++ w))

  pub records_cut : records_of k file ≡ r
  unfolding records_of records_at header_bytes
  records_cut = rw (header_read k h n (r ++ (s ++ w))) (take_at r (s ++ w) (k.width * h.pairs) lr)

  behind_header : (x : ℕ) → drop (records_at k h + x) file ≡ drop x (r ++ (s ++ w))
  unfolding records_at header_bytes
  behind_header x = drop-append-add (header_bytes k h n) (r ++ (s ++ w)) x

  pub steps_cut : steps_of k file ≡ s
  unfolding steps_of
  steps_cut =
      rw (header_read k h n (r ++ (s ++ w)), behind_header (k.width * h.pairs), drop_at r (s ++ w) (k.width * h.pairs) lr)
      (take_at s w (step_width * h.steps) ls)

  pub words_cut : words_of k file ≡ w
  unfolding words_of
  words_cut =
      let e : records_at k h + k.width * h.pairs + step_width * h.steps ≡ records_at k h + (k.width * h.pairs + step_width * h.steps) = omega arith in
      rw (header_read k h n (r ++ (s ++ w)), e, behind_header (k.width * h.pairs + step_width * h.steps), ← lr, drop-append-add r (s ++ w) (step_width * h.steps))
      (drop_at s w (step_width * h.steps) ls)

-- a written table is read back
pub table_read_lem : (t : Table) → table_of (write_table t) ≡ t
unfolding table_of write_table table_header
table_read_lem t =
    let h = table_header t in
    let n = length (line_words t.lines) in
    let r = line_records 0 t.lines in
    let s = line_steps t.lines in
    let w = line_words t.lines in
    let lr = lines_size 0 t.lines in
    let ls = line_steps_size t.lines in
    let e = header_read table_kind h n (r ++ (s ++ w)) in
    let cut : read_lines (header_of (write_table t)).pairs (records_of table_kind (write_table t)) (steps_of table_kind (write_table t)) (words_of table_kind (write_table t)) ≡ t.lines =
    rw (e, records_cut table_kind h n r s w lr ls, steps_cut table_kind h n r s w lr ls, words_cut table_kind h n r s w lr ls) (lines_read 0 t.lines) in
    λ i. record { order = (e i).order; letters = (e i).letters; cited = (e i).cited; lines = cut i }

-- and so is a written sheet
pub sheet_read_lem : (s : Sheet) → sheet_of (write_sheet s) ≡ s
unfolding sheet_of write_sheet sheet_header
sheet_read_lem s =
    let h = sheet_header s in
    let n = length (equation_words s.equations) in
    let r = equation_records 0 s.equations in
    let w = equation_words s.equations in
    let lr = equations_size 0 s.equations in
    let e = header_read sheet_kind h n (r ++ ([] ++ w)) in
    let cut : read_equations (header_of (write_sheet s)).pairs (records_of sheet_kind (write_sheet s)) (words_of sheet_kind (write_sheet s)) ≡ s.equations =
    rw (e, records_cut sheet_kind h n r [] w lr refl, words_cut sheet_kind h n r [] w lr refl) (equations_read 0 s.equations) in
    λ i. record { order = (e i).order; letters = (e i).letters; equations = cut i }

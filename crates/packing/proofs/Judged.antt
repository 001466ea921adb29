-- What is written of a sheet or table within the limits is judged good: each test of the layout meets the number that was written for it.
use Prim.Native.Nat.{ℕ, ◌+◌, ◌*◌, ◌/◌, ◌%◌, ◌≤◌}
use native.Mathlib.Omega.{arith}
use mathlib.Core.Path.{◌≡◌, refl}
use mathlib.Core.List.{List, [], ◌∷◌, ◌++◌}
use mathlib.Core.Bool.{Bool, true, false, ◌&&◌}
use borrow.Author.Tests.{le-leb, eq-eqb}
use lib.Dec.{leb, ltb, eqb}
use lib.ListN.{length, length-append}
use lib.Seq.{drop_at}
use Rattle.words.specs.Word.{letters_below}
use Rattle.words.specs.Comparing.{order_known}
use Rattle.words.proofs.TestLaws.{and_left, and_right}
use Rattle.rewriting.specs.Sheet.{side_limit, Equation, Sheet, Step, Line, Table}
use Rattle.buffers.specs.Bytes.{u16_at}
use Rattle.layout.specs.declared.Kind.{Kind}
use Rattle.layout.specs.declared.Header.{Header}
use Rattle.layout.specs.Header.{header_size, step_width, sheet_kind, table_kind, header_of, records_at, words_at, numbers_fit, lengths_fit, header_fits}
use Rattle.layout.specs.Sheets.{sides_fit, equations_fit, sheet_fits}
use Rattle.layout.specs.Tables.{step_fits, steps_fit, line_fits, lines_fit, table_fits}
use Rattle.writing.specs.Writing.{bit, header_bytes, equation_records, equation_words, line_records, step_bytes, steps_bytes, line_steps, line_words, steps_made, sheet_header, write_sheet, table_header, write_table}
use Rattle.packing.specs.Limits.{equations_within, sheet_within, steps_within, lines_within, table_within}
use Rattle.packing.proofs.ReadWrite.{sides_behind, equations_size, lines_size, line_steps_size, header_read, file, records_cut, steps_cut, words_cut}
use Rattle.writing.proofs.StepLaws.{two_bytes, steps_size}

number_is : (n : ℕ) → eqb (n % 256 + 256 * (n / 256)) n ≡ true
number_is n = eq-eqb (n % 256 + 256 * (n / 256)) n (two_bytes n)

bit_fits : (b : Bool) → leb (bit b) 1 ≡ true
bit_fits true = refl
bit_fits false = refl

letters_there : (l r w : List ℕ) → leb (length l + length r) (length (l ++ (r ++ w))) ≡ true
letters_there l r w = le-leb (length l + length r) (length (l ++ (r ++ w))) (simp length-append (omega arith))

steps_judged : (bound : ℕ) (ss : List Step) (s : List ℕ) → steps_within bound ss ≡ true → steps_fit bound (length ss) (steps_bytes ss ++ s) ≡ true
unfolding steps_within steps_fit step_fits steps_bytes step_bytes
steps_judged bound [] s e = refl
steps_judged bound (x ∷ ss) s e =
    let a = ltb x.reference bound in
    let b = leb x.place 128 in
    let c = steps_within bound ss in
    let f = and_right a (b && c) e in
    rw (two_bytes x.reference, and_left a (b && c) e, bit_fits x.back, and_left b c f) (steps_judged bound ss s (and_right b c f))

equations_judged : (o : ℕ) (es : List Equation) → equations_within es ≡ true → equations_fit o (length es) (equation_records o es) (equation_words es) ≡ true
unfolding equations_within equations_fit sides_fit equation_records equation_words
equations_judged o [] e = refl
equations_judged o (x ∷ es) e =
    let a = leb (length x.left) side_limit in
    let b = leb (length x.right) side_limit in
    let f = and_right a (b && equations_within es) e in
    let p = o + (length x.left + length x.right) in
    rw (number_is o, and_left a (b && equations_within es) e, and_left b (equations_within es) f, letters_there x.left x.right (equation_words es), sides_behind x.left x.right (equation_words es))
    (equations_judged p es (and_right b (equations_within es) f))

lines_judged : (bound o : ℕ) (ts : List Line) → lines_within bound ts ≡ true
    → lines_fit bound o (length ts) (line_records o ts) (line_steps ts) (line_words ts) ≡ true
unfolding lines_within lines_fit line_fits sides_fit line_records line_steps line_words
lines_judged bound o [] e = refl
lines_judged bound o (t ∷ ts) e =
    let a = leb (length t.left) side_limit in
    let b = leb (length t.right) side_limit in
    let c = steps_within bound t.steps in
    let d = lines_within (bound + 1) ts in
    let f = and_right a (b && (c && d)) e in
    let g = and_right b (c && d) f in
    let n = length t.steps in
    let room : leb (step_width * n) (length (steps_bytes t.steps ++ line_steps ts)) ≡ true =
    le-leb (step_width * n) (length (steps_bytes t.steps ++ line_steps ts)) (rw length-append (omega (arith, steps_size t.steps))) in
    rw (
      number_is o,
      and_left a (b && (c && d)) e,
      and_left b (c && d) f,
      letters_there t.left t.right (line_words ts),
      bit_fits t.stands,
      two_bytes n,
      room,
      steps_judged bound t.steps (line_steps ts) (and_left c d g),
      drop_at (steps_bytes t.steps) (line_steps ts) (step_width * n) (steps_size t.steps),
      sides_behind t.left t.right (line_words ts),
    )
    (lines_judged (bound + 1) (o + (length t.left + length t.right)) ts (and_right c d g))

-- the header of a file of four parts
header_there : (k : Kind) (h : Header) (n : ℕ) (rest : List ℕ) → header_size ≤ length (header_bytes k h n ++ rest)
unfolding header_bytes
header_there k h n rest = rw (length-append (header_bytes k h n) rest) (omega arith)

module _ (k : Kind) (h : Header) (r s w : List ℕ) (lr : length r ≡ k.width * h.pairs) (ls : length s ≡ step_width * h.steps)
    (ok : order_known h.order h.letters ≡ true) (op : leb h.pairs k.pairs ≡ true) (oc : leb h.cited k.cited ≡ true)
    (os : leb h.steps k.steps ≡ true) where
  size_is : length (file k h (length w) r s w lr ls) ≡ words_at k h + length w
  unfolding records_at header_bytes
  size_is = simp length-append (omega (arith, lr, ls))

  header_judged : header_fits k (file k h (length w) r s w lr ls) ≡ true
  unfolding header_fits numbers_fit lengths_fit header_bytes
  header_judged =
      let b = file k h (length w) r s w lr ls in
      let hr : header_of b ≡ h = header_read k h (length w) (r ++ (s ++ w)) in
      let long : leb header_size (length b) ≡ true = le-leb header_size (length b) (header_there k h (length w) (r ++ (s ++ w))) in
      let total : eqb (u16_at b 14) (length b) ≡ true = rw size_is (number_is (words_at k h + length w)) in
      let inside : leb (words_at k h) (length b) ≡ true = le-leb (words_at k h) (length b) (omega (arith, size_is)) in
      rw (long, number_is k.number, hr, ok, op, oc, os, number_is (words_at k h), total) inside

-- a written table within the limits is judged good
pub table_judged : (t : Table) → table_within t ≡ true → table_fits (write_table t) ≡ true
unfolding table_within table_fits write_table table_header
table_judged t e =
    let ts = t.lines in
    let a = order_known t.order t.letters in
    let b = leb (length ts) table_kind.pairs in
    let c = leb t.cited table_kind.cited in
    let d = leb (steps_made ts) table_kind.steps in
    let f = lines_within t.cited ts in
    let g = letters_below t.letters (line_words ts) in
    let p = and_right a (b && (c && (d && (f && g)))) e in
    let q = and_right b (c && (d && (f && g))) p in
    let u = and_right c (d && (f && g)) q in
    let v = and_right d (f && g) u in
    let h = table_header t in
    let r = line_records 0 ts in
    let s = line_steps ts in
    let w = line_words ts in
    let lr = lines_size 0 ts in
    let ls = line_steps_size ts in
    let head = header_judged table_kind h r s w lr ls (and_left a (b && (c && (d && (f && g)))) e) (and_left b (c && (d && (f && g))) p) (and_left c (d && (f && g)) q) (and_left d (f && g) u) in
    rw (
      head,
      header_read table_kind h (length w) (r ++ (s ++ w)),
      records_cut table_kind h (length w) r s w lr ls,
      steps_cut table_kind h (length w) r s w lr ls,
      words_cut table_kind h (length w) r s w lr ls,
      lines_judged t.cited 0 ts (and_left f g v),
    ) (and_right f g v)

-- and so is a written sheet
pub sheet_judged : (s : Sheet) → sheet_within s ≡ true → sheet_fits (write_sheet s) ≡ true
unfolding sheet_within sheet_fits write_sheet sheet_header
sheet_judged s e =
    let es = s.equations in
    let a = order_known s.order s.letters in
    let b = leb (length es) sheet_kind.pairs in
    let f = equations_within es in
    let g = letters_below s.letters (equation_words es) in
    let p = and_right a (b && (f && g)) e in
    let v = and_right b (f && g) p in
    let h = sheet_header s in
    let r = equation_records 0 es in
    let w = equation_words es in
    let lr = equations_size 0 es in
    let head = header_judged sheet_kind h r [] w lr refl (and_left a (b && (f && g)) e) (and_left b (f && g) p) refl refl in
    rw (
      head,
      header_read sheet_kind h (length w) (r ++ ([] ++ w)),
      records_cut sheet_kind h (length w) r [] w lr refl,
      words_cut sheet_kind h (length w) r [] w lr refl,
      equations_judged 0 es (and_left f g v),
    ) (and_right f g v)

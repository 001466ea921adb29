-- A judged file is the written form of what it stands for. Its bytes are taken apart from the front: each byte of a record or step is the one that
-- would be written, since the tests of the layout leave no other, and what is left behind follows by the same argument.
use Prim.Native.Nat.{ℕ, zero, suc, ◌+◌, ◌-◌, ◌*◌, ◌/◌, ◌%◌, ◌≤◌, ◌<◌}
use native.Mathlib.Omega.{arith}
use mathlib.Core.Path.{◌≡◌, refl, sym, ◌∙◌, ap}
use mathlib.Core.List.{List, [], ◌∷◌, ◌++◌}
use mathlib.Core.Bool.{Bool, true, false, ◌&&◌}
use borrow.Author.Tests.{leb-true, eqb-true, ltb-true, ltb-false}
use lib.Dec.{leb, ltb, eqb, lit<}
use lib.ListN.{length, get_or, take, drop, length-take, length-drop, take-append-drop, get_or-eq_default}
use lib.Seq.{drop-cons, get_or-drop, get_or-take, drop-drop, length-take-le}
use Rattle.rewriting.specs.Sheet.{side_limit}
use Rattle.words.proofs.TestLaws.{and_left, and_right}
use Rattle.buffers.specs.Bytes.{u16_at}
use Rattle.layout.specs.declared.Kind.{Kind}
use Rattle.layout.specs.Header.{header_size, sheet_width, table_width, step_width, sheet_kind, table_kind, header_of, records_at, steps_at, words_at, records_of, steps_of, words_of}
use Rattle.layout.specs.Sheets.{left_length, right_length, pair_length, left_of, right_of, sides_fit, equations_fit, sheet_fits, read_equations, sheet_of}
use Rattle.layout.specs.Tables.{steps_in, step_fits, steps_fit, line_fits, lines_fit, table_fits, step_of, read_steps, line_of, read_lines, table_of}
use Rattle.writing.specs.Writing.{bit, header_bytes, equation_records, equation_words, line_records, step_bytes, steps_bytes, line_steps, line_words, steps_made, sheet_header, write_sheet, table_header, write_table}
use Rattle.layout.proofs.TableLaws.{line_good}
use Rattle.layout.proofs.HeaderLaws.{Sized, good_sized}
use Rattle.layout.proofs.AreaLaws.{records_long}
use Rattle.layout.proofs.FitsLaws.{sheet_good_header, sheet_good_head, sheet_good_equations, table_good_header, table_good_head, table_good_lines}
use Rattle.layout.proofs.ReferenceLaws.{table_long}
use Rattle.layout.proofs.JudgedLaws.{sheet_long}
use Rattle.packing.specs.Limits.{Bytes}
use Rattle.packing.proofs.ReadWrite.{line_steps_size}
use Rattle.writing.proofs.StepLaws.{read_long}

-- the n elements from k on, one by one
abbrev firsts : ℕ → ℕ → List ℕ → List ℕ
firsts k zero l = []
firsts k (suc n) l = get_or l k 0 ∷ firsts (k + 1) n l

firsts_are : (n k : ℕ) (l : List ℕ) → k + n ≤ length l → firsts k n l ++ drop (k + n) l ≡ drop k l
firsts_are zero k l h = let e : k + 0 ≡ k = omega arith in rw e
firsts_are (suc n) k l h =
    let e : k + suc n ≡ k + 1 + n = omega arith in
    let f : k + 1 ≡ suc k = omega arith in
    rw (e, firsts_are n (k + 1) l (omega arith), f) (sym (drop-cons l k 0 (omega arith)))

none : (l : List ℕ) → length l ≡ 0 → l ≡ []
none [] e = refl
none (a ∷ l) e = absurd (omega arith)

-- a number's bytes
low : (x y : ℕ) → x < 256 → (x + 256 * y) % 256 ≡ x
low x y h = omega arith

high : (x y : ℕ) → x < 256 → (x + 256 * y) / 256 ≡ y
high x y h = omega arith

bytes_drop : (n : ℕ) (b : List ℕ) → Bytes b → Bytes (drop n b)
bytes_drop n b h i = rw (get_or-drop n b i 0) (h (n + i))

bit_back : (x : ℕ) → x ≤ 1 → bit (eqb x 1) ≡ x
bit_back zero h = refl
bit_back (suc zero) h = refl
bit_back (suc (suc x)) h = absurd (omega arith)

-- the sides and what is behind them are the letters
sides_whole : (l r : ℕ) (w : List ℕ) → take l w ++ (take r (drop l w) ++ drop (l + r) w) ≡ w
sides_whole l r w = rw (← drop-drop r l w, take-append-drop r (drop l w)) (take-append-drop l w)

-- steps
steps_written : (bound n : ℕ) (s : List ℕ) → Bytes s → step_width * n ≤ length s → steps_fit bound n s ≡ true → steps_bytes (read_steps n s) ≡ take (step_width * n) s
unfolding steps_fit step_fits steps_bytes read_steps step_bytes step_of
steps_written bound zero s h l e = refl
steps_written bound (suc n) s h l e =
    let four : get_or s 0 0 ∷ get_or s 1 0 ∷ get_or s 2 0 ∷ get_or s 3 0 ∷ drop step_width s ≡ s = firsts_are step_width 0 s (omega arith) in
    let m : step_width * suc n ≡ suc (suc (suc (suc (step_width * n)))) = omega arith in
    let a = ltb (u16_at s 0) bound in
    let b = leb (get_or s 2 0) 1 in
    let c = leb (get_or s 3 0) 128 in
    let d = steps_fit bound n (drop step_width s) in
    let one = leb-true (get_or s 2 0) 1 (and_left b c (and_right a (b && c) (and_left (a && (b && c)) d e))) in
    let rest = steps_written bound n (drop step_width s) (bytes_drop step_width s h) (rw (length-drop step_width s) (omega arith)) (and_right (a && (b && c)) d e) in
    rw (low (get_or s 0 0) (get_or s 1 0) (h 0), high (get_or s 0 0) (get_or s 1 0) (h 0), bit_back (get_or s 2 0) one, rest, m)
    (ap (λ (x : List ℕ). take (suc (suc (suc (suc (step_width * n))))) x) four)

-- what the sides' test says of the record at the front
sides_parts : (o : ℕ) (recs words : List ℕ) → sides_fit o recs words ≡ true → (u16_at recs 0 ≡ o) × (pair_length recs ≤ length words)
unfolding sides_fit
sides_parts o recs words e =
    let a = eqb (u16_at recs 0) o in
    let b = leb (left_length recs) side_limit in
    let c = leb (right_length recs) side_limit in
    let d = leb (pair_length recs) (length words) in (
      eqb-true (u16_at recs 0) o (and_left a (b && (c && d)) e),
      leb-true (pair_length recs) (length words) (and_right c d (and_right b (c && d) (and_right a (b && (c && d)) e))),
    )

module _ (o : ℕ) (recs words : List ℕ) (h : Bytes recs) (e : sides_fit o recs words ≡ true) where
  low_is : o % 256 ≡ get_or recs 0 0
  low_is = rw (sym (sides_parts o recs words e).0) (low (get_or recs 0 0) (get_or recs 1 0) (h 0))

  high_is : o / 256 ≡ get_or recs 1 0
  high_is = rw (sym (sides_parts o recs words e).0) (high (get_or recs 0 0) (get_or recs 1 0) (h 0))

  left_is : length (left_of recs words) ≡ left_length recs
  left_is = length-take-le (left_length recs) words (omega (arith, (sides_parts o recs words e).1))

  right_is : length (right_of recs words) ≡ right_length recs
  right_is = length-take-le (right_length recs) (drop (left_length recs) words) (rw (length-drop (left_length recs) words) (omega (arith, (sides_parts o recs words e).1)))

-- equations: their letters, and their records
equations_letters : (o n : ℕ) (recs words : List ℕ) → equations_fit o n recs words ≡ true → equation_words (read_equations n recs words) ≡ words
unfolding equations_fit read_equations equation_words
equations_letters o zero recs words e = sym (none words (eqb-true (length words) 0 e))
equations_letters o (suc n) recs words e =
    let m = pair_length recs in
    let rest = equations_fit (o + m) n (drop sheet_width recs) (drop m words) in
    rw (equations_letters (o + m) n (drop sheet_width recs) (drop m words) (and_right (sides_fit o recs words) rest e))
    (sides_whole (left_length recs) (right_length recs) words)

equations_written : (o n : ℕ) (recs words : List ℕ) → Bytes recs → length recs ≡ sheet_width * n → equations_fit o n recs words ≡ true
    → equation_records o (read_equations n recs words) ≡ recs
unfolding equations_fit read_equations equation_records
equations_written o zero recs words h l e = sym (none recs l)
equations_written o (suc n) recs words h l e =
    let fit = sides_fit o recs words in
    let m = pair_length recs in
    let rest = equations_fit (o + m) n (drop sheet_width recs) (drop m words) in
    let g = and_left fit rest e in
    let ih = equations_written (o + m) n (drop sheet_width recs) (drop m words) (bytes_drop sheet_width recs h) (rw (length-drop sheet_width recs) (omega arith)) (and_right fit rest e) in
    let four : get_or recs 0 0 ∷ get_or recs 1 0 ∷ get_or recs 2 0 ∷ get_or recs 3 0 ∷ drop sheet_width recs ≡ recs = firsts_are sheet_width 0 recs (omega arith) in
    rw (low_is o recs words h g, high_is o recs words h g, left_is o recs words h g, right_is o recs words h g, ih) four

-- lines
lines_written : (bound o n : ℕ) (recs steps words : List ℕ) → Bytes recs → Bytes steps → length recs ≡ table_width * n → lines_fit bound o n recs steps words ≡ true
    → (line_records o (read_lines n recs steps words) ≡ recs) × (line_steps (read_lines n recs steps words) ≡ steps)
    × (line_words (read_lines n recs steps words) ≡ words)
unfolding lines_fit read_lines line_of line_records line_steps line_words
lines_written bound o zero recs steps words h k l e =
    let a = eqb (length steps) 0 in
    let b = eqb (length words) 0 in
    (sym (none recs l), sym (none steps (eqb-true (length steps) 0 (and_left a b e))), sym (none words (eqb-true (length words) 0 (and_right a b e))))
lines_written bound o (suc n) recs steps words h k l e =
    let m = pair_length recs in
    let c = steps_in recs in
    let line = line_fits bound o recs steps words in
    let rest = lines_fit (bound + 1) (o + m) n (drop table_width recs) (drop (step_width * c) steps) (drop m words) in
    let f = line_good bound o recs steps words (and_left line rest e) in
    let g = f.sides in
    let flag = bit_back (get_or recs 6 0) f.flag in
    let ss = steps_written bound c steps k f.room f.lineage in
    let ih = lines_written (bound + 1) (o + m) n (drop table_width recs) (drop (step_width * c) steps) (drop m words) (bytes_drop table_width recs h) (bytes_drop (step_width * c) steps k)
    (rw (length-drop table_width recs) (omega arith)) (and_right line rest e) in
    let eight : get_or recs 0 0 ∷ get_or recs 1 0 ∷ get_or recs 2 0 ∷ get_or recs 3 0 ∷ get_or recs 4 0 ∷ get_or recs 5 0 ∷ get_or recs 6 0 ∷ get_or recs 7 0 ∷ drop table_width recs ≡ recs =
    firsts_are table_width 0 recs (omega arith) in (
      rw (
        low_is o recs words h g,
        high_is o recs words h g,
        left_is o recs words h g,
        right_is o recs words h g,
        read_long c steps,
        low (get_or recs 4 0) (get_or recs 5 0) (h 4),
        high (get_or recs 4 0) (get_or recs 5 0) (h 4),
        flag,
        ih.0,
      )
          (ap (λ (x : ℕ). get_or recs 0 0 ∷ get_or recs 1 0 ∷ get_or recs 2 0 ∷ get_or recs 3 0 ∷ get_or recs 4 0 ∷ get_or recs 5 0 ∷ get_or recs 6 0 ∷ x ∷ drop table_width recs) (sym f.nil) ∙ eight),
      rw (ss, ih.1) (take-append-drop (step_width * c) steps),
      rw ih.2 (sides_whole (left_length recs) (right_length recs) words),
    )

-- the areas are all that stands behind the header
areas_whole : (k : Kind) (b : List ℕ) → records_of k b ++ (steps_of k b ++ words_of k b) ≡ drop (records_at k (header_of b)) b
unfolding records_of steps_of words_of
areas_whole k b =
    let p = records_at k (header_of b) in
    let a = k.width * (header_of b).pairs in
    let s = step_width * (header_of b).steps in
    rw (← drop-drop s (p + a) b, take-append-drop s (drop (p + a) b), ← drop-drop a p b) (take-append-drop a (drop p b))

-- a header is the one that would be written
module _ (k : Kind) (b : List ℕ) (h : Bytes b) (z : Sized k b) (i : words_at k (header_of b) ≤ length b) where
  low_at : (i v : ℕ) → u16_at b i ≡ v → v % 256 ≡ get_or b i 0
  low_at i v e = rw (sym e) (low (get_or b i 0) (get_or b (i + 1) 0) (h i))

  high_at : (i v : ℕ) → u16_at b i ≡ v → v / 256 ≡ get_or b (i + 1) 0
  high_at i v e = rw (sym e) (high (get_or b i 0) (get_or b (i + 1) 0) (h i))

  words_long : length (words_of k b) ≡ length b - words_at k (header_of b)
  unfolding words_of
  words_long = length-drop (words_at k (header_of b)) b

  header_written : header_bytes k (header_of b) (length (words_of k b)) ++ drop header_size b ≡ b
  unfolding header_bytes header_of
  header_written =
      let total : u16_at b 14 ≡ words_at k (header_of b) + length (words_of k b) = omega (arith, z.total, words_long) in
      rw (
        low_at 0 k.number z.kind,
        high_at 0 k.number z.kind,
        low_at 12 (words_at k (header_of b)) z.start,
        high_at 12 (words_at k (header_of b)) z.start,
        low_at 14 (words_at k (header_of b) + length (words_of k b)) total,
        high_at 14 (words_at k (header_of b) + length (words_of k b)) total,
        low_at 2 (u16_at b 2) refl,
        high_at 2 (u16_at b 2) refl,
        low_at 4 (u16_at b 4) refl,
        high_at 4 (u16_at b 4) refl,
        low_at 6 (u16_at b 6) refl,
        high_at 6 (u16_at b 6) refl,
        low_at 8 (u16_at b 8) refl,
        high_at 8 (u16_at b 8) refl,
        low_at 10 (u16_at b 10) refl,
        high_at 10 (u16_at b 10) refl,
      )
      (firsts_are header_size 0 b z.there.long)

-- parts of bytes are bytes
bytes_take : (n : ℕ) (b : List ℕ) → Bytes b → Bytes (take n b)
bytes_take n b h i = go (ltb i n) refl
  where
    go : (t : Bool) → ltb i n ≡ t → get_or (take n b) i 0 < 256
    go true e = rw (get_or-take n b i 0 (ltb-true i n e)) (h i)
    go false e = let l : length (take n b) ≤ i = omega (arith, ltb-false i n e, length-take n b) in rw (get_or-eq_default (take n b) 0 l) (lit< tt)

records_bytes : (k : Kind) (b : List ℕ) → Bytes b → Bytes (records_of k b)
unfolding records_of
records_bytes k b h = bytes_take (k.width * (header_of b).pairs) (drop (records_at k (header_of b)) b) (bytes_drop (records_at k (header_of b)) b h)

steps_bytes_lem : (k : Kind) (b : List ℕ) → Bytes b → Bytes (steps_of k b)
unfolding steps_of
steps_bytes_lem k b h = bytes_take (step_width * (header_of b).steps) (drop (steps_at k (header_of b)) b) (bytes_drop (steps_at k (header_of b)) b h)

-- a judged table is the written form of what it stands for
module _ (b : List ℕ) (h : Bytes b) (e : table_fits b ≡ true) where
  pub table_parts : (line_records 0 (table_of b).lines ≡ records_of table_kind b) × (line_steps (table_of b).lines ≡ steps_of table_kind b)
      × (line_words (table_of b).lines ≡ words_of table_kind b)
  unfolding table_of
  table_parts = lines_written (header_of b).cited 0 (header_of b).pairs (records_of table_kind b) (steps_of table_kind b) (words_of table_kind b)
      (records_bytes table_kind b h)
      (steps_bytes_lem table_kind b h)
      (records_long table_kind b (records_of table_kind b) (header_of b) (table_good_head b e) refl refl)
      (table_good_lines b e)

  pub table_steps_made : steps_made (table_of b).lines ≡ (header_of b).steps
  unfolding steps_of
  table_steps_made =
      let n = step_width * (header_of b).steps in
      let p = steps_at table_kind (header_of b) in
      let d = length-take-le n (drop p b) (rw (length-drop p b) (omega (arith, (table_good_head b e).inside))) in
      omega (arith, line_steps_size (table_of b).lines, ap length table_parts.1, d)

  table_header_lem : table_header (table_of b) ≡ header_of b
  unfolding table_header table_of header_of
  table_header_lem i = record {
    order = (header_of b).order;
    letters = (header_of b).letters;
    pairs = table_long b i;
    cited = (header_of b).cited;
    steps = table_steps_made i;
  }

  pub table_written : write_table (table_of b) ≡ b
  unfolding write_table records_at
  table_written =
      let z = good_sized table_kind b (table_good_header b e) in
      let i = (table_good_head b e).inside in
      rw (table_header_lem, table_parts.0, table_parts.1, table_parts.2, areas_whole table_kind b) (header_written table_kind b h z i)

-- and so is a judged sheet
pub sheet_all_letters : (b : List ℕ) → sheet_fits b ≡ true → equation_words (sheet_of b).equations ≡ words_of sheet_kind b
unfolding sheet_of
sheet_all_letters b e = equations_letters 0 (header_of b).pairs (records_of sheet_kind b) (words_of sheet_kind b) (sheet_good_equations b e)

module _ (b : List ℕ) (h : Bytes b) (e : sheet_fits b ≡ true) where
  sheet_records : equation_records 0 (sheet_of b).equations ≡ records_of sheet_kind b
  unfolding sheet_of
  sheet_records = equations_written 0 (header_of b).pairs (records_of sheet_kind b) (words_of sheet_kind b)
      (records_bytes sheet_kind b h)
      (records_long sheet_kind b (records_of sheet_kind b) (header_of b) (sheet_good_head b e) refl refl)
      (sheet_good_equations b e)

  -- a sheet cites nothing and has no steps
  none_cited : 0 ≡ (header_of b).cited
  none_cited = omega (arith, (sheet_good_head b e).within.cited)

  none_made : 0 ≡ (header_of b).steps
  none_made = omega (arith, (sheet_good_head b e).within.steps)

  sheet_header_lem : sheet_header (sheet_of b) ≡ header_of b
  unfolding sheet_header sheet_of
  sheet_header_lem i = record {
    order = (header_of b).order;
    letters = (header_of b).letters;
    pairs = sheet_long b (header_of b) refl i;
    cited = none_cited i;
    steps = none_made i;
  }

  no_steps : steps_of sheet_kind b ≡ []
  unfolding steps_of
  no_steps = rw (← none_made)

  pub sheet_written : write_sheet (sheet_of b) ≡ b
  unfolding write_sheet records_at
  sheet_written =
      let z = good_sized sheet_kind b (sheet_good_header b e) in
      let i = (sheet_good_head b e).inside in
      let a : records_of sheet_kind b ++ words_of sheet_kind b ≡ drop header_size b =
      ap (λ (x : List ℕ). records_of sheet_kind b ++ (x ++ words_of sheet_kind b)) (sym no_steps) ∙ areas_whole sheet_kind b in
      rw (sheet_header_lem, sheet_records, sheet_all_letters b e, a) (header_written sheet_kind b h z i)

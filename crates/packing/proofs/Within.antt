-- What a judged file stands for is within the limits, so files and sheets or tables within the limits go with each other one to one; and
-- the largest files are as large as Specification, "Layout", says.
use Prim.Native.Nat.{ℕ, zero, suc, ◌+◌, ◌*◌, ◌≤◌}
use native.Mathlib.Omega.{arith}
use mathlib.Core.Path.{◌≡◌, refl, sym, ◌∙◌, ap}
use mathlib.Core.List.{List}
use mathlib.Core.Bool.{true, ◌&&◌}
use borrow.Author.Tests.{leb-true, eqb-true, le-leb}
use lib.Dec.{leb, ltb, eqb}
use lib.ListN.{length, get_or, take, drop, length-take, length-drop}
use Rattle.words.specs.Word.{letters_below}
use Rattle.words.proofs.TestLaws.{and_left, and_right}
use Rattle.rewriting.specs.Sheet.{side_limit, Sheet, Table}
use Rattle.buffers.specs.Bytes.{u16_at}
use Rattle.layout.specs.Header.{sheet_width, table_width, step_width, sheet_kind, table_kind, header_of, header_fits, records_of, steps_of, words_of}
use Rattle.layout.specs.Sheets.{left_length, right_length, pair_length, left_of, right_of, sides_fit, equations_fit, sheet_fits, read_equations, sheet_of}
use Rattle.layout.specs.Tables.{steps_in, step_fits, steps_fit, line_fits, lines_fit, table_fits, step_of, read_steps, line_of, read_lines, table_of}
use Rattle.writing.specs.Writing.{steps_made, write_sheet, write_table}
use Rattle.layout.proofs.HeaderLaws.{records_early}
use Rattle.layout.proofs.ReferenceLaws.{table_long}
use Rattle.layout.proofs.JudgedLaws.{sheet_long}
use Rattle.layout.proofs.TableLaws.{line_good}
use Rattle.packing.proofs.WriteRead.{table_parts, table_steps_made, sheet_all_letters}
use Rattle.layout.proofs.FitsLaws.{sheet_good_head, sheet_good_equations, table_good_head, table_good_lines}
use Rattle.packing.specs.Packed.{table_room}
use Rattle.packing.specs.Limits.{sheet_room, pair_most, Bytes, equations_within, sheet_within, steps_within, lines_within, table_within}
use Rattle.packing.proofs.ReadWrite.{sheet_read_lem, table_read_lem}

-- one file for a value, and one value for a file
pub table_once : (t u : Table) → write_table t ≡ write_table u → t ≡ u
table_once t u e = sym (table_read_lem t) ∙ ap table_of e ∙ table_read_lem u

pub sheet_once : (s u : Sheet) → write_sheet s ≡ write_sheet u → s ≡ u
sheet_once s u e = sym (sheet_read_lem s) ∙ ap sheet_of e ∙ sheet_read_lem u

-- a pair has few letters
sides_small : (o : ℕ) (recs words : List ℕ) → sides_fit o recs words ≡ true → pair_length recs ≤ pair_most
unfolding sides_fit
sides_small o recs words e =
    let a = eqb (u16_at recs 0) o in
    let b = leb (left_length recs) side_limit in
    let c = leb (right_length recs) side_limit in
    let d = leb (pair_length recs) (length words) in
    let f = and_right a (b && (c && d)) e in
    let g = and_right b (c && d) f in
    let h = leb-true (left_length recs) side_limit (and_left b (c && d) f) in
    let i = leb-true (right_length recs) side_limit (and_left c d g) in
    omega (arith, h, i)

equations_small : (o n : ℕ) (recs words : List ℕ) → equations_fit o n recs words ≡ true → length words ≤ pair_most * n
unfolding equations_fit
equations_small o zero recs words e = let h = eqb-true (length words) 0 e in omega (arith, h)
equations_small o (suc n) recs words e =
    let m = pair_length recs in
    let rest = equations_fit (o + m) n (drop sheet_width recs) (drop m words) in
    let h = equations_small (o + m) n (drop sheet_width recs) (drop m words) (and_right (sides_fit o recs words) rest e) in
    let i = sides_small o recs words (and_left (sides_fit o recs words) rest e) in
    omega (arith, rw length-drop at h, i)

lines_small : (bound o n : ℕ) (recs steps words : List ℕ) → lines_fit bound o n recs steps words ≡ true → length words ≤ pair_most * n
unfolding lines_fit line_fits
lines_small bound o zero recs steps words e =
    let h = eqb-true (length words) 0 (and_right (eqb (length steps) 0) (eqb (length words) 0) e) in omega (arith, h)
lines_small bound o (suc n) recs steps words e =
    let m = pair_length recs in
    let c = steps_in recs in
    let p = sides_fit o recs words in
    let q = leb (get_or recs 6 0) 1 && (eqb (get_or recs 7 0) 0 && (leb (step_width * c) (length steps) && steps_fit bound c steps)) in
    let rest = lines_fit (bound + 1) (o + m) n (drop table_width recs) (drop (step_width * c) steps) (drop m words) in
    let h = lines_small (bound + 1) (o + m) n (drop table_width recs) (drop (step_width * c) steps) (drop m words) (and_right (p && q) rest e) in
    let i = sides_small o recs words (and_left p q (and_left (p && q) rest e)) in
    omega (arith, rw length-drop at h, i)

-- the largest sheet and the largest table
pub sheet_largest : (b : List ℕ) → sheet_fits b ≡ true → length b ≤ sheet_room
unfolding words_of
sheet_largest b e =
    let h = (sheet_good_head b e).within in
    let w = rw length-drop at (equations_small 0 (header_of b).pairs (records_of sheet_kind b) (words_of sheet_kind b) (sheet_good_equations b e)) in
    omega (arith, records_early sheet_kind (header_of b), h.pairs, h.steps, w)

pub table_largest : (b : List ℕ) → table_fits b ≡ true → length b ≤ table_room
unfolding words_of
table_largest b e =
    let h = (table_good_head b e).within in
    let w = rw length-drop at
    (lines_small (header_of b).cited 0 (header_of b).pairs (records_of table_kind b) (steps_of table_kind b) (words_of table_kind b) (table_good_lines b e)) in
    omega (arith, records_early table_kind (header_of b), h.pairs, h.steps, w)

-- what a judged file stands for is within the limits
take_small : (n m : ℕ) (w : List ℕ) → n ≤ m → leb (length (take n w)) m ≡ true
take_small n m w h = le-leb (length (take n w)) m (rw (length-take n w) (omega arith))

steps_within_lem : (bound n : ℕ) (s : List ℕ) → steps_fit bound n s ≡ true → steps_within bound (read_steps n s) ≡ true
unfolding steps_fit step_fits read_steps step_of steps_within
steps_within_lem bound zero s e = refl
steps_within_lem bound (suc n) s e =
    let a = ltb (u16_at s 0) bound in
    let b = leb (get_or s 2 0) 1 in
    let c = leb (get_or s 3 0) 128 in
    let d = steps_fit bound n (drop step_width s) in
    let f = and_left (a && (b && c)) d e in
    rw (and_left a (b && c) f, and_right b c (and_right a (b && c) f)) (steps_within_lem bound n (drop step_width s) (and_right (a && (b && c)) d e))

sides_within : (o : ℕ) (recs words : List ℕ) → sides_fit o recs words ≡ true
    → (leb (length (left_of recs words)) side_limit ≡ true) × (leb (length (right_of recs words)) side_limit ≡ true)
unfolding sides_fit
sides_within o recs words e =
    let a = eqb (u16_at recs 0) o in
    let b = leb (left_length recs) side_limit in
    let c = leb (right_length recs) side_limit in
    let d = leb (pair_length recs) (length words) in
    let f = and_right a (b && (c && d)) e in (
      take_small (left_length recs) side_limit words (leb-true (left_length recs) side_limit (and_left b (c && d) f)),
      take_small (right_length recs) side_limit (drop (left_length recs) words) (leb-true (right_length recs) side_limit (and_left c d (and_right b (c && d) f))),
    )

equations_within_lem : (o n : ℕ) (recs words : List ℕ) → equations_fit o n recs words ≡ true → equations_within (read_equations n recs words) ≡ true
unfolding equations_fit read_equations equations_within
equations_within_lem o zero recs words e = refl
equations_within_lem o (suc n) recs words e =
    let m = pair_length recs in
    let rest = equations_fit (o + m) n (drop sheet_width recs) (drop m words) in
    let s = sides_within o recs words (and_left (sides_fit o recs words) rest e) in
    rw (s.0, s.1) (equations_within_lem (o + m) n (drop sheet_width recs) (drop m words) (and_right (sides_fit o recs words) rest e))

lines_within_lem : (bound o n : ℕ) (recs steps words : List ℕ) → lines_fit bound o n recs steps words ≡ true → lines_within bound (read_lines n recs steps words) ≡ true
unfolding lines_fit read_lines line_of lines_within
lines_within_lem bound o zero recs steps words e = refl
lines_within_lem bound o (suc n) recs steps words e =
    let m = pair_length recs in
    let c = steps_in recs in
    let line = line_fits bound o recs steps words in
    let rest = lines_fit (bound + 1) (o + m) n (drop table_width recs) (drop (step_width * c) steps) (drop m words) in
    let f = line_good bound o recs steps words (and_left line rest e) in
    let g = sides_within o recs words f.sides in
    rw (g.0, g.1, steps_within_lem bound c steps f.lineage)
    (lines_within_lem (bound + 1) (o + m) n (drop table_width recs) (drop (step_width * c) steps) (drop m words) (and_right line rest e))

-- and so is the whole of it
pub table_within_lem : (b : List ℕ) → Bytes b → table_fits b ≡ true → table_within (table_of b) ≡ true
unfolding table_within table_fits table_of
table_within_lem b h e =
    let head = table_good_head b e in
    let n = (header_of b).pairs in
    let c = (header_of b).cited in
    let r = records_of table_kind b in
    let s = steps_of table_kind b in
    let w = words_of table_kind b in
    let fit = lines_fit c 0 n r s w in
    let below = letters_below (header_of b).letters w in
    let lines_few = le-leb (length (table_of b).lines) table_kind.pairs (rw (table_long b) head.within.pairs) in
    let cited-few = le-leb c table_kind.cited head.within.cited in
    let steps_few = le-leb (steps_made (table_of b).lines) table_kind.steps (rw (table_steps_made b h e) head.within.steps) in
    rw (head.order, lines_few, cited-few, steps_few, lines_within_lem c 0 n r s w (table_good_lines b e), (table_parts b h e).2)
    (and_right fit below (and_right (header_fits table_kind b) (fit && below) e))

pub sheet_within_lem : (b : List ℕ) → sheet_fits b ≡ true → sheet_within (sheet_of b) ≡ true
unfolding sheet_within sheet_fits sheet_of
sheet_within_lem b e =
    let head = sheet_good_head b e in
    let n = (header_of b).pairs in
    let r = records_of sheet_kind b in
    let w = words_of sheet_kind b in
    let fit = equations_fit 0 n r w in
    let below = letters_below (header_of b).letters w in
    let few = le-leb (length (sheet_of b).equations) sheet_kind.pairs (rw (sheet_long b (header_of b) refl) head.within.pairs) in
    rw (head.order, few, equations_within_lem 0 n r w (sheet_good_equations b e), sheet_all_letters b e)
    (and_right fit below (and_right (header_fits sheet_kind b) (fit && below) e))

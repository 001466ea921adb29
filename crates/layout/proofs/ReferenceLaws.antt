-- A step of a judged table refers to an equation or to an earlier line: the bound that its reference was tested against rises by one with each
-- line.
use Prim.Native.Nat.{ℕ, zero, suc, ◌+◌, ◌*◌, ◌<◌}
use native.Mathlib.Omega.{arith}
use mathlib.Core.Path.{◌≡◌, refl, ap}
use mathlib.Core.Logic.{⊎_elim}
use mathlib.Core.List.Memᴰ
use mathlib.Core.List.{List, Memᴰ}
use mathlib.Core.Bool.{true, ◌&&◌}
use borrow.Author.Tests.{ltb-true}
use lib.Dec.{leb, ltb}
use lib.ListN.{length, get_or, drop}
use Rattle.words.proofs.TestLaws.{and_left, and_right}
use Rattle.rewriting.specs.Sheet.{Step, line_at}
use Rattle.buffers.specs.Bytes.{u16_at}
use Rattle.layout.specs.Header.{table_width, step_width, table_kind, header_of, records_of, steps_of, words_of}
use Rattle.layout.specs.Sheets.{pair_length}
use Rattle.layout.specs.Tables.{steps_in, step_fits, steps_fit, line_fits, lines_fit, table_fits, step_of, read_steps, line_of, read_lines, table_of}
use Rattle.layout.proofs.TableLaws.{line_good}
use Rattle.layout.proofs.FitsLaws.{table_good_lines}

steps_earlier : (bound n : ℕ) (s : List ℕ) → steps_fit bound n s ≡ true → (x : Step) → Memᴰ x (read_steps n s) → x.reference < bound
unfolding steps_fit read_steps step_fits step_of
steps_earlier bound zero s e x m = absurd (Memᴰ.not-nil m)
steps_earlier bound (suc n) s e x m =
    ⊎_elim (λ q. first q) (λ r. steps_earlier bound n (drop step_width s) (and_right (step_fits bound s) (steps_fit bound n (drop step_width s)) e) x r) (Memᴰ.cases_cons m)
  where
    first : x ≡ step_of s → x.reference < bound
    first q =
        let t = and_left (step_fits bound s) (steps_fit bound n (drop step_width s)) e in
        let h = ltb-true (u16_at s 0) bound (and_left (ltb (u16_at s 0) bound) (leb (get_or s 2 0) 1 && leb (get_or s 3 0) 128) t) in
        omega (arith, h, ap (λ (y : Step). y.reference) q)

line_earlier : (bound o : ℕ) (recs steps words : List ℕ) → line_fits bound o recs steps words ≡ true → (x : Step)
    → Memᴰ x (line_of recs steps words).steps → x.reference < bound
unfolding line_of
line_earlier bound o recs steps words e x m = steps_earlier bound (steps_in recs) steps (line_good bound o recs steps words e).lineage x m

lines_earlier : (n bound o : ℕ) (recs steps words : List ℕ) → lines_fit bound o n recs steps words ≡ true → (j : ℕ) → j < n → (x : Step)
    → Memᴰ x (line_at (read_lines n recs steps words) j).steps → x.reference < bound + j
unfolding lines_fit read_lines
lines_earlier zero bound o recs steps words e j l x m = absurd (omega arith)
lines_earlier (suc n) bound o recs steps words e zero l x m =
    let h = line_earlier bound o recs steps words (and_left (line_fits bound o recs steps words) _ e) x m in omega (arith, h)
lines_earlier (suc n) bound o recs steps words e (suc j) l x m =
    let h = lines_earlier n (bound + 1) (o + pair_length recs) (drop table_width recs) (drop (step_width * steps_in recs) steps) (drop (pair_length recs) words)
    (and_right (line_fits bound o recs steps words) _ e) j (omega arith) x m in
    omega (arith, h)

-- as many lines as the header says
lines_long : (n : ℕ) (recs steps words : List ℕ) → length (read_lines n recs steps words) ≡ n
unfolding read_lines
lines_long zero recs steps words = refl
lines_long (suc n) recs steps words = ap suc (lines_long n (drop table_width recs) (drop (step_width * steps_in recs) steps) (drop (pair_length recs) words))

pub table_long : (b : List ℕ) → length (table_of b).lines ≡ (header_of b).pairs
unfolding table_of
table_long b = lines_long (header_of b).pairs (records_of table_kind b) (steps_of table_kind b) (words_of table_kind b)

pub table_earlier : (b : List ℕ) → table_fits b ≡ true → (j : ℕ) → j < length (table_of b).lines → (x : Step)
    → Memᴰ x (line_at (table_of b).lines j).steps → x.reference < (table_of b).cited + j
unfolding table_of
table_earlier b e j l x m =
    lines_earlier (header_of b).pairs (header_of b).cited 0 (records_of table_kind b) (steps_of table_kind b) (words_of table_kind b) (table_good_lines b e) j
    (rw (table_long b) at l) x m

-- What a good verdict gives. Going along the lines, the running offset is the one that each record stores, so reading at the front of what is
-- left and reading by stored offset find the same words, and all of them lie inside. The steps run along in the same way.
use Prim.Native.Nat.{ℕ, zero, suc, ◌+◌, ◌-◌, ◌*◌, ◌≤◌, ◌<◌}
use native.Mathlib.Omega.{arith}
use mathlib.Core.Path.{◌≡◌, refl, sym, ◌∙◌, ap, ap₂}
use mathlib.Core.List.{List, ◌∷◌}
use mathlib.Core.Bool.{Bool, true, ◌&&◌}
use borrow.Author.Tests.{leb-true, eqb-true}
use lib.Dec.{leb, eqb}
use lib.ListN.{length, get_or, drop, length-drop}
use lib.Seq.{get_or-drop, drop-drop}
use Rattle.rewriting.specs.Sheet.{side_limit}
use Rattle.words.proofs.TestLaws.{and_left, and_right}
use Rattle.buffers.specs.Bytes.{u16_at}
use Rattle.layout.specs.Header.{sheet_width, table_width, step_width, sheet_kind, table_kind, header_of, header_fits, records_of, steps_of, words_of}
use Rattle.layout.specs.Judged.{SheetHead, TableHead}
use Rattle.layout.specs.Sheets.{left_length, right_length, pair_length, left_of, right_of, sides_fit, equations_fit, sheet_fits, read_equations, sheet_of}
use Rattle.layout.specs.Tables.{steps_in, line_fits, lines_fit, table_fits, read_steps, line_of, read_lines, table_of}
use Rattle.layout.specs.Slices.{left_at, right_at, stands_by, steps_from, lineage_at, line_in, list_from, lines_in, equation_in, equations_in, Placed, Inside}
use Rattle.layout.proofs.TableLaws.{line_good}
use Rattle.layout.proofs.HeaderLaws.{sheet_limited, table_limited, good_head}
use Rattle.layout.proofs.AreaLaws.{records_long}

-- a number read behind the first p bytes
behind : (s : List ℕ) (p i : ℕ) → u16_at (drop p s) i ≡ u16_at s (p + i)
behind s p i = let z : p + (i + 1) ≡ p + i + 1 = omega arith in rw (get_or-drop p s i 0, get_or-drop p s (i + 1) 0, z)

-- what the sides' test says of the record at p, where the words from o on are left
pub record Sides (recs words : List ℕ) (p o : ℕ) : Type 0 where
  pub offset : u16_at recs p ≡ o
  pub left : get_or recs (p + 2) 0 ≤ side_limit
  pub right : get_or recs (p + 3) 0 ≤ side_limit
  pub room : get_or recs (p + 2) 0 + get_or recs (p + 3) 0 ≤ length words - o

pub sides_say : (recs words : List ℕ) (p o : ℕ) → sides_fit o (drop p recs) (drop o words) ≡ true → Sides recs words p o
unfolding sides_fit
sides_say recs words p o e =
    let z : p + 0 ≡ p = omega arith in
    let r = parts (eqb (u16_at (drop p recs) 0) o) (leb (left_length (drop p recs)) side_limit) (leb (right_length (drop p recs)) side_limit) (leb (pair_length (drop p recs)) (length (drop o words))) e in
    record {
      offset = rw (behind recs p 0, z) at (eqb-true (u16_at (drop p recs) 0) o r.0);
      left = rw (get_or-drop p recs 2 0) at (leb-true (left_length (drop p recs)) side_limit r.1);
      right = rw (get_or-drop p recs 3 0) at (leb-true (right_length (drop p recs)) side_limit r.2);
      room = rw (get_or-drop p recs 2 0, get_or-drop p recs 3 0, length-drop o words) at (leb-true (pair_length (drop p recs)) (length (drop o words)) r.3);
    }
  where
    parts : (a b c d : Bool) → a && (b && (c && d)) ≡ true → (a ≡ true) × (b ≡ true) × (c ≡ true) × (d ≡ true)
    parts a b c d e =
        let f = and_right a (b && (c && d)) e in
        let g = and_right b (c && d) f in
        (and_left a (b && (c && d)) e, and_left b (c && d) f, and_left c d g, and_right c d g)

-- so the record's letters lie inside, and are the same read either way
module _ (recs words : List ℕ) (p o : ℕ) (s : Sides recs words p o) (h : o ≤ length words) where
  sides_placed : (width : ℕ) → p + width ≤ length recs → Placed width recs words p
  sides_placed width l = record {
    there = l;
    left = s.left;
    right = s.right;
    inside = omega (arith, s.offset, s.room);
  }

  left_same : left_of (drop p recs) (drop o words) ≡ left_at recs words p
  unfolding left_at
  left_same = rw (get_or-drop p recs 2 0, s.offset)

  right_same : right_of (drop p recs) (drop o words) ≡ right_at recs words p
  unfolding right_at
  right_same = rw (get_or-drop p recs 2 0, get_or-drop p recs 3 0, drop-drop (get_or recs (p + 2) 0) o words, s.offset)

-- the next offset is still inside
next_inside : (recs words : List ℕ) (p o : ℕ) → Sides recs words p o → o ≤ length words → o + pair_length (drop p recs) ≤ length words
next_inside recs words p o s h = rw (get_or-drop p recs 2 0, get_or-drop p recs 3 0) (omega (arith, s.room))

-- a property of the first record and of those behind it
first_or : (P : ℕ → Type 0) (w k n : ℕ) → P (w * k) → ((j : ℕ) → j < n → P (w * (k + 1 + j))) → (j : ℕ) → j < suc n → P (w * (k + j))
first_or P w k n a f zero l = let e : k + 0 ≡ k = omega arith in rw e a
first_or P w k n a f (suc j) l = let e : k + suc j ≡ k + 1 + j = omega arith in rw e (f j (omega arith))

-- sheets
module _ (recs words : List ℕ) where
  pub equations_from_lem : (n k o : ℕ) → equations_fit o n (drop (sheet_width * k) recs) (drop o words) ≡ true → o ≤ length words → sheet_width * (k + n) ≤ length recs
      → (read_equations n (drop (sheet_width * k) recs) (drop o words) ≡ list_from (equation_in recs words) k n)
      × ((j : ℕ) → j < n → Placed sheet_width recs words (sheet_width * (k + j)))
  unfolding equations_fit read_equations list_from equation_in
  equations_from_lem zero k o e h l = (refl, λ j z. absurd (omega arith))
  equations_from_lem (suc n) k o e h l =
      let p = sheet_width * k in
      let m = pair_length (drop p recs) in
      let s = sides_say recs words p o (and_left (sides_fit o (drop p recs) (drop o words)) (equations_fit (o + m) n (drop sheet_width (drop p recs)) (drop m (drop o words))) e) in
      let f : p + sheet_width ≡ sheet_width * (k + 1) = omega arith in
      let er : drop sheet_width (drop p recs) ≡ drop (sheet_width * (k + 1)) recs = drop-drop sheet_width p recs ∙ ap (λ (x : ℕ). drop x recs) f in
      let ew : drop m (drop o words) ≡ drop (o + m) words = drop-drop m o words in
      let r = rw (er, ew) at (and_right (sides_fit o (drop p recs) (drop o words)) (equations_fit (o + m) n (drop sheet_width (drop p recs)) (drop m (drop o words))) e) in
      let i = equations_from_lem n (k + 1) (o + m) r (next_inside recs words p o s h) (omega arith) in (
        ap₂ ◌∷◌ (λ x. record { left = left_same recs words p o s h x; right = right_same recs words p o s h x })
            (ap₂ (read_equations n) er ew ∙ i.0),
        first_or (Placed sheet_width recs words) sheet_width k n (sides_placed recs words p o s h sheet_width (omega arith)) i.1,
      )

-- the steps of one line more
pub steps_more : (recs : List ℕ) (j k : ℕ) → steps_from recs k (j + 1) ≡ steps_from recs k j + u16_at recs (table_width * (k + j) + 4)
unfolding steps_from
steps_more recs zero k = let e : k + 0 ≡ k = omega arith in rw e (omega arith)
steps_more recs (suc j) k =
    let e : suc j + 1 ≡ suc (j + 1) = omega arith in
    let f : k + 1 + j ≡ k + suc j = omega arith in
    let h = steps_more recs j (k + 1) in
    rw e (rw f at (ap (λ (x : ℕ). u16_at recs (table_width * k + 4) + x) h) ∙ (omega arith))

-- tables
module _ (recs steps words : List ℕ) where
  pub lines_from : (n k o bound : ℕ) → lines_fit bound o n (drop (table_width * k) recs) (drop (step_width * steps_from recs 0 k) steps) (drop o words) ≡ true
      → o ≤ length words → table_width * (k + n) ≤ length recs
      → (read_lines n (drop (table_width * k) recs) (drop (step_width * steps_from recs 0 k) steps) (drop o words) ≡ list_from (line_in recs steps words) k n)
      × ((j : ℕ) → j < n → Placed table_width recs words (table_width * (k + j)))
  unfolding lines_fit read_lines list_from line_in line_of lineage_at stands_by
  lines_from zero k o bound e h l = (refl, λ j z. absurd (omega arith))
  lines_from (suc n) k o bound e h l =
      let p = table_width * k in
      let q = steps_from recs 0 k in
      let m = pair_length (drop p recs) in
      let c = steps_in (drop p recs) in
      let first = line_fits bound o (drop p recs) (drop (step_width * q) steps) (drop o words) in
      let rest = lines_fit (bound + 1) (o + m) n (drop table_width (drop p recs)) (drop (step_width * c) (drop (step_width * q) steps)) (drop m (drop o words)) in
      let t = and_left first rest e in
      let s = sides_say recs words p o (line_good bound o (drop p recs) (drop (step_width * q) steps) (drop o words) t).sides in
      let f : p + table_width ≡ table_width * (k + 1) = omega arith in
      let er : drop table_width (drop p recs) ≡ drop (table_width * (k + 1)) recs = drop-drop table_width p recs ∙ ap (λ (x : ℕ). drop x recs) f in
      let ec : c ≡ u16_at recs (p + 4) = behind recs p 4 in
      let z : 0 + k ≡ k = omega arith in
      let eq : step_width * q + step_width * c ≡ step_width * steps_from recs 0 (k + 1) = omega (arith, ec, rw z at (steps_more recs k 0)) in
      let es : drop (step_width * c) (drop (step_width * q) steps) ≡ drop (step_width * steps_from recs 0 (k + 1)) steps = drop-drop (step_width * c) (step_width * q) steps
      ∙ ap (λ (x : ℕ). drop x steps) eq in
      let ew : drop m (drop o words) ≡ drop (o + m) words = drop-drop m o words in
      let r = rw (er, es, ew) at (and_right first rest e) in
      let i = lines_from n (k + 1) (o + m) (bound + 1) r (next_inside recs words p o s h) (omega arith) in (
        ap₂ ◌∷◌ (λ x. record {
          left = left_same recs words p o s h x;
          right = right_same recs words p o s h x;
          steps = read_steps (ec x) (drop (step_width * q) steps);
          stands = eqb (get_or-drop p recs 6 0 x) 1;
        })
            (ap₂ (λ (a b : List ℕ). read_lines n a b (drop m (drop o words))) er es ∙ ap (read_lines n (drop (table_width * (k + 1)) recs) (drop (step_width * steps_from recs 0 (k + 1)) steps)) ew ∙ i.0),
        first_or (Placed table_width recs words) table_width k n (sides_placed recs words p o s h table_width (omega arith)) i.1,
      )

-- a good sheet
module _ (b : List ℕ) (e : sheet_fits b ≡ true) where
  pub sheet_good_header : header_fits sheet_kind b ≡ true
  unfolding sheet_fits
  sheet_good_header = and_left (header_fits sheet_kind b) _ e

  pub sheet_good_head : SheetHead (header_of b) (length b)
  sheet_good_head = good_head sheet_kind b sheet_good_header sheet_limited

  -- the verdict on its equations
  pub sheet_good_equations : equations_fit 0 (header_of b).pairs (records_of sheet_kind b) (words_of sheet_kind b) ≡ true
  unfolding sheet_fits
  sheet_good_equations = and_left (equations_fit 0 (header_of b).pairs (records_of sheet_kind b) (words_of sheet_kind b)) _ (and_right (header_fits sheet_kind b) _ e)

  sheet_from : (read_equations (header_of b).pairs (records_of sheet_kind b) (words_of sheet_kind b) ≡ equations_in (records_of sheet_kind b) (words_of sheet_kind b) (header_of b).pairs)
      × ((j : ℕ) → j < (header_of b).pairs → Placed sheet_width (records_of sheet_kind b) (words_of sheet_kind b) (sheet_width * (0 + j)))
  unfolding equations_in
  sheet_from =
      let n = (header_of b).pairs in
      let z : 0 + n ≡ n = omega arith in
      let l = records_long sheet_kind b (records_of sheet_kind b) (header_of b) sheet_good_head refl refl in
      equations_from_lem (records_of sheet_kind b) (words_of sheet_kind b) n 0 0
      sheet_good_equations (omega arith) (omega (arith, l, z))

  pub sheet_inside : Inside sheet_width (records_of sheet_kind b) (words_of sheet_kind b) (header_of b).pairs
  unfolding Inside
  sheet_inside j l = let z : 0 + j ≡ j = omega arith in rw z at (sheet_from.1 j l)

  pub sheet_equations : equations_in (records_of sheet_kind b) (words_of sheet_kind b) (header_of b).pairs ≡ (sheet_of b).equations
  unfolding sheet_of
  sheet_equations = sym sheet_from.0

-- a good table
module _ (b : List ℕ) (e : table_fits b ≡ true) where
  pub table_good_header : header_fits table_kind b ≡ true
  unfolding table_fits
  table_good_header = and_left (header_fits table_kind b) _ e

  pub table_good_head : TableHead (header_of b) (length b)
  table_good_head = good_head table_kind b table_good_header table_limited

  -- the verdict on its lines
  pub table_good_lines : lines_fit (header_of b).cited 0 (header_of b).pairs (records_of table_kind b) (steps_of table_kind b) (words_of table_kind b) ≡ true
  unfolding table_fits
  table_good_lines = and_left (lines_fit (header_of b).cited 0 (header_of b).pairs (records_of table_kind b) (steps_of table_kind b) (words_of table_kind b)) _ (and_right (header_fits table_kind b) _ e)

  table_from : (read_lines (header_of b).pairs (records_of table_kind b) (steps_of table_kind b) (words_of table_kind b)
      ≡ lines_in (records_of table_kind b) (steps_of table_kind b) (words_of table_kind b) (header_of b).pairs)
      × ((j : ℕ) → j < (header_of b).pairs → Placed table_width (records_of table_kind b) (words_of table_kind b) (table_width * (0 + j)))
  unfolding lines_in steps_from
  table_from =
      let n = (header_of b).pairs in
      let z : 0 + n ≡ n = omega arith in
      let l = records_long table_kind b (records_of table_kind b) (header_of b) table_good_head refl refl in
      lines_from (records_of table_kind b) (steps_of table_kind b) (words_of table_kind b) n 0 0 (header_of b).cited table_good_lines (omega arith) (omega (arith, l, z))

  pub table_inside : Inside table_width (records_of table_kind b) (words_of table_kind b) (header_of b).pairs
  unfolding Inside
  table_inside j l = let z : 0 + j ≡ j = omega arith in rw z at (table_from.1 j l)

  pub table_lines : lines_in (records_of table_kind b) (steps_of table_kind b) (words_of table_kind b) (header_of b).pairs ≡ (table_of b).lines
  unfolding table_of
  table_lines = sym table_from.0

-- the lines' steps lie inside the steps area
lines_steps : (recs steps words : List ℕ) (n k bound o : ℕ)
    → lines_fit bound o n (drop (table_width * k) recs) (drop (step_width * steps_from recs 0 k) steps) words ≡ true
    → step_width * steps_from recs 0 k ≤ length steps → step_width * steps_from recs 0 (k + n) ≤ length steps
unfolding lines_fit
lines_steps recs steps words zero k bound o e h = let z : k + 0 ≡ k = omega arith in rw z h
lines_steps recs steps words (suc n) k bound o e h =
    let p = table_width * k in
    let q = step_width * steps_from recs 0 k in
    let m = pair_length (drop p recs) in
    let c = steps_in (drop p recs) in
    let s = drop q steps in
    let line = line_fits bound o (drop p recs) s words in
    let rest = lines_fit (bound + 1) (o + m) n (drop table_width (drop p recs)) (drop (step_width * c) s) (drop m words) in
    let room = rw (length-drop q steps) at (line_good bound o (drop p recs) s words (and_left line rest e)).room in
    let z : 0 + k ≡ k = omega arith in
    let ec : c ≡ u16_at recs (p + 4) = behind recs p 4 in
    let next : q + step_width * c ≡ step_width * steps_from recs 0 (k + 1) = omega (arith, ec, rw z at (steps_more recs k 0)) in
    let fr : p + table_width ≡ table_width * (k + 1) = omega arith in
    let r = rw (drop-drop table_width p recs, drop-drop (step_width * c) q steps, fr, next) at (and_right line rest e) in
    let w : k + suc n ≡ k + 1 + n = omega arith in
    rw w (lines_steps recs steps (drop m words) n (k + 1) (bound + 1) (o + m) r (omega (arith, room, next)))

pub table_steps_inside : (b : List ℕ) → table_fits b ≡ true → step_width * steps_from (records_of table_kind b) 0 (header_of b).pairs ≤ length (steps_of table_kind b)
unfolding steps_from
table_steps_inside b e =
    let z : 0 + (header_of b).pairs ≡ (header_of b).pairs = omega arith in
    rw z at (lines_steps (records_of table_kind b) (steps_of table_kind b) (words_of table_kind b) (header_of b).pairs 0 (header_of b).cited 0 (table_good_lines b e) (omega arith))

-- Judging a table's steps and lines one after the other, as a sheet's records: the verdict on all is the verdict on what is left.
use Prim.Native.Nat.{ℕ, zero, suc, ◌+◌, ◌-◌, ◌*◌, ◌≤◌, ◌<◌}
use native.Mathlib.Omega.{arith}
use mathlib.Core.Path.{◌≡◌, refl, sym, ◌∙◌}
use Rattle.std.specs.List.{list_all, range_with_len}
use mathlib.Core.List.{List}
use mathlib.Core.Bool.{Bool, true, false, not, ◌&&◌}
use borrow.Author.Tests.{not-true, not-false, leb-true, ne_eqb, eqb-true}
use lib.Dec.{leb, eqb}
use lib.ListN.{length, get_or, drop, length-drop}
use lib.Seq.{drop-drop}
use Rattle.words.proofs.TestLaws.{and_left, and_right}
use Rattle.layout.proofs.SheetLaws.{sides_room, same_test}
use Rattle.layout.specs.Header.{table_width, step_width}
use Rattle.layout.specs.Sheets.{pair_length, sides_fit}
use Rattle.layout.specs.Tables.{steps_in, step_fits, steps_fit, line_fits, lines_fit}

-- the steps of one line: each of the numbers from i on is tried, as the definition does
steps_tried : (s : List ℕ) (p bound n i : ℕ) → list_all (λ k. step_fits bound (drop (p + step_width * k) s)) (range_with_len i n) ≡ steps_fit bound n (drop (p + step_width * i) s)
unfolding steps_fit
steps_tried s p bound zero i = refl
steps_tried s p bound (suc n) i =
    let f : p + step_width * i + step_width ≡ p + step_width * (i + 1) = omega arith in
    rw (steps_tried s p bound n (i + 1), drop-drop step_width (p + step_width * i) s, f)

pub all_tried : (s : List ℕ) (p bound n : ℕ) → list_all (λ k. step_fits bound (drop (p + step_width * k) s)) (range_with_len 0 n) ≡ steps_fit bound n (drop p s)
all_tried s p bound n = let f : p + step_width * 0 ≡ p = omega arith in steps_tried s p bound n 0 ∙ rw f

-- one line, test by test
module _ (bound o q : ℕ) (recs steps words : List ℕ) where
  pub line_sides_lem : (t : Bool) → t ≡ sides_fit o recs words → not t ≡ true → false ≡ line_fits bound o recs (drop q steps) words
  unfolding line_fits
  line_sides_lem t e f = rw (← e, not-true t f)

  -- what is asked behind the sides, with the two marks as one test
  marked : (a b c d : Bool) → a && (b && (c && d)) ≡ a && ((b && c) && d)
  marked true true c d = refl
  marked true false c d = refl
  marked false b c d = refl

  pub line_parts : line_fits bound o recs (drop q steps) words
      ≡ sides_fit o recs words && ((leb (get_or recs 6 0) 1 && eqb (get_or recs 7 0) 0) && (leb (step_width * steps_in recs) (length (drop q steps)) && steps_fit bound (steps_in recs) (drop q steps)))
  unfolding line_fits
  line_parts = marked (sides_fit o recs words) (leb (get_or recs 6 0) 1) (eqb (get_or recs 7 0) 0) (leb (step_width * steps_in recs) (length (drop q steps)) && steps_fit bound (steps_in recs) (drop q steps))

-- what a line that fits tells, test by test
pub record LineGood (bound o : ℕ) (recs steps words : List ℕ) : Type 0 where
  pub sides : sides_fit o recs words ≡ true
  pub flag : get_or recs 6 0 ≤ 1
  pub nil : get_or recs 7 0 ≡ 0
  pub room : step_width * steps_in recs ≤ length steps
  pub lineage : steps_fit bound (steps_in recs) steps ≡ true

pub line_good : (bound o : ℕ) (recs steps words : List ℕ) → line_fits bound o recs steps words ≡ true → LineGood bound o recs steps words
unfolding line_fits
line_good bound o recs steps words e =
    let a = sides_fit o recs words in
    let b = leb (get_or recs 6 0) 1 in
    let c = eqb (get_or recs 7 0) 0 in
    let d = leb (step_width * steps_in recs) (length steps) in
    let f = steps_fit bound (steps_in recs) steps in
    let marks = and_right a (b && (c && (d && f))) e in
    let behind = and_right b (c && (d && f)) marks in
    let last = and_right c (d && f) behind in
    record {
      sides = and_left a (b && (c && (d && f))) e;
      flag = leb-true (get_or recs 6 0) 1 (and_left b (c && (d && f)) marks);
      nil = eqb-true (get_or recs 7 0) 0 (and_left c (d && f) behind);
      room = leb-true (step_width * steps_in recs) (length steps) (and_left d f last);
      lineage = and_right d f last;
    }

-- its letters and its steps are among what is left
pub line_says : (bound o q : ℕ) (recs steps words : List ℕ) → line_fits bound o recs (drop q steps) words ≡ true
    → (pair_length recs ≤ length words) × (step_width * steps_in recs ≤ length steps - q)
line_says bound o q recs steps words e =
    let g = line_good bound o recs (drop q steps) words e in
    (sides_room o recs words g.sides, rw length-drop at g.room)

-- all lines
unfoldable pub LinesSeen : List ℕ → List ℕ → List ℕ → ℕ → ℕ → ℕ → ℕ → ℕ → Type 0
LinesSeen recs steps words n cited j q o =
    lines_fit cited 0 n recs steps words ≡ lines_fit (cited + j) o (n - j) (drop (table_width * j) recs) (drop q steps) (drop o words)

module _ (recs steps words : List ℕ) (n cited : ℕ) where
  pub lines_start : LinesSeen recs steps words n cited 0 0 0
  unfolding LinesSeen
  lines_start = let e : n - 0 ≡ n = omega arith in let f : cited + 0 ≡ cited = omega arith in rw (e, f)

  lines_next : (j q o : ℕ) → j < n → LinesSeen recs steps words n cited j q o
      → lines_fit cited 0 n recs steps words
      ≡ line_fits (cited + j) o (drop (table_width * j) recs) (drop q steps) (drop o words)
      && lines_fit (cited + (j + 1)) (o + pair_length (drop (table_width * j) recs)) (n - (j + 1)) (drop (table_width * (j + 1)) recs)
      (drop (q + step_width * steps_in (drop (table_width * j) recs)) steps) (drop (o + pair_length (drop (table_width * j) recs)) words)
  unfolding LinesSeen lines_fit
  lines_next j q o l s =
      let e : n - j ≡ suc (n - (j + 1)) = omega arith in
      let f : table_width * j + table_width ≡ table_width * (j + 1) = omega arith in
      let g : cited + j + 1 ≡ cited + (j + 1) = omega arith in
      s ∙ rw (e, drop-drop table_width (table_width * j) recs, drop-drop (step_width * steps_in (drop (table_width * j) recs)) q steps, drop-drop (pair_length (drop (table_width * j) recs)) o words, f, g)

  pub lines_no : (j q o : ℕ) (t : Bool) → LinesSeen recs steps words n cited j q o → j < n
      → t ≡ line_fits (cited + j) o (drop (table_width * j) recs) (drop q steps) (drop o words) → not t ≡ true → false ≡ lines_fit cited 0 n recs steps words
  lines_no j q o t s l e f = rw (lines_next j q o l s, ← e, not-true t f)

  pub lines_on : (j q o i k : ℕ) (t : Bool) → LinesSeen recs steps words n cited j q o → j < n
      → t ≡ line_fits (cited + j) o (drop (table_width * j) recs) (drop q steps) (drop o words) → not t ≡ false
      → i ≡ steps_in (drop (table_width * j) recs) → k ≡ pair_length (drop (table_width * j) recs) → LinesSeen recs steps words n cited (j + 1) (q + step_width * i) (o + k)
  unfolding LinesSeen
  lines_on j q o i k t s l e f g h = rw (lines_next j q o l s, ← e, not-false t f, g, h)

  pub lines_steps_left : (j q o : ℕ) → LinesSeen recs steps words n cited j q o → j ≤ n → n ≤ j → q ≤ length steps → (q ≡ length steps → ⊥)
      → false ≡ lines_fit cited 0 n recs steps words
  unfolding LinesSeen lines_fit
  lines_steps_left j q o s l m h d =
      let e : n - j ≡ 0 = omega arith in
      sym (s ∙ rw (e, length-drop q steps, ne_eqb (length steps - q) 0 (λ z. d (omega arith))))

  pub lines_end : (j q o : ℕ) → LinesSeen recs steps words n cited j q o → j ≤ n → n ≤ j → o ≤ length words → q ≡ length steps
      → eqb o (length words) ≡ lines_fit cited 0 n recs steps words
  unfolding LinesSeen lines_fit
  lines_end j q o s l m h d =
      let e : n - j ≡ 0 = omega arith in
      let f : length steps - q ≡ 0 = omega arith in
      sym (s ∙ rw (e, length-drop q steps, f, length-drop o words) (same_test o (length words) h))

-- the line's steps and letters lie inside
pub line_steps_inside : (recs steps words : List ℕ) (bound j q o i : ℕ) (t : Bool) → t ≡ line_fits bound o (drop (table_width * j) recs) (drop q steps) (drop o words)
    → not t ≡ false → i ≡ steps_in (drop (table_width * j) recs) → q ≤ length steps → q + step_width * i ≤ length steps
line_steps_inside recs steps words bound j q o i t e f g h =
    let r = line_says bound o q (drop (table_width * j) recs) steps (drop o words) (sym e ∙ not-false t f) in
    omega (arith, r.1)

pub line_letters_inside : (recs steps words : List ℕ) (bound j q o k : ℕ) (t : Bool) → t ≡ line_fits bound o (drop (table_width * j) recs) (drop q steps) (drop o words)
    → not t ≡ false → k ≡ pair_length (drop (table_width * j) recs) → o ≤ length words → o + k ≤ length words
line_letters_inside recs steps words bound j q o k t e f g h =
    let r = line_says bound o q (drop (table_width * j) recs) steps (drop o words) (sym e ∙ not-false t f) in
    omega (arith, simp length-drop at r.0)

-- what the loop over the lines needs
pub ruleset judging = (lines_start, lines_no, lines_on, lines_steps_left, lines_end, line_steps_inside, line_letters_inside)

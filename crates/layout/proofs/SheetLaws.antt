-- Judging a sheet's records one after the other. Whatever the first j records were, the verdict on all is the verdict on what is left from
-- record j on, with the offset o that is due: `Seen`. A record that does not fit ends it, and so does the last one.
use Prim.Native.Nat.{ℕ, suc, ◌+◌, ◌-◌, ◌*◌, ◌≤◌, ◌<◌}
use native.Mathlib.Omega.{arith}
use mathlib.Core.Path.{◌≡◌, refl, sym, ◌∙◌}
use mathlib.Core.List.{List}
use mathlib.Core.Bool.{Bool, true, false, not, ◌&&◌}
use borrow.Author.Tests.{not-true, not-false, leb-true, eqb-true, eqb-false, eq-eqb, ne_eqb}
use lib.Dec.{leb, eqb}
use lib.ListN.{length, drop, length-drop}
use lib.Seq.{drop-drop}
use Rattle.rewriting.specs.Sheet.{side_limit}
use Rattle.words.proofs.TestLaws.{and_right}
use Rattle.buffers.specs.Bytes.{u16_at}
use Rattle.layout.specs.Header.{sheet_width}
use Rattle.layout.specs.Sheets.{left_length, right_length, pair_length, sides_fit, equations_fit}

-- a record that fits has its letters among what is left
pub sides_room : (o : ℕ) (recs words : List ℕ) → sides_fit o recs words ≡ true → pair_length recs ≤ length words
unfolding sides_fit
sides_room o recs words e = leb-true (pair_length recs) (length words) (last (eqb (u16_at recs 0) o) (leb (left_length recs) side_limit) (leb (right_length recs) side_limit) (leb (pair_length recs) (length words)) e)
  where
    last : (a b c d : Bool) → a && (b && (c && d)) ≡ true → d ≡ true
    last a b c d e = and_right c d (and_right b (c && d) (and_right a (b && (c && d)) e))

-- nothing is left behind o exactly if o is the end
pub same_test : (o e : ℕ) → o ≤ e → eqb (e - o) 0 ≡ eqb o e
same_test o e h = go (eqb o e) refl
  where
    go : (b : Bool) → eqb o e ≡ b → eqb (e - o) 0 ≡ b
    go true f = eq-eqb (e - o) 0 (let q : o ≡ e = eqb-true o e f in omega arith)
    go false f = ne_eqb (e - o) 0 (λ q. eqb-false o e f (omega arith))

unfoldable pub Seen : List ℕ → List ℕ → ℕ → ℕ → ℕ → Type 0
Seen recs words n j o = equations_fit 0 n recs words ≡ equations_fit o (n - j) (drop (sheet_width * j) recs) (drop o words)

module _ (recs words : List ℕ) (n : ℕ) where
  pub seen_start : Seen recs words n 0 0
  unfolding Seen
  seen_start = let e : n - 0 ≡ n = omega arith in rw e

  -- the definition at record j
  seen_next : (j o : ℕ) → j < n → Seen recs words n j o
      → equations_fit 0 n recs words
      ≡ sides_fit o (drop (sheet_width * j) recs) (drop o words)
      && equations_fit (o + pair_length (drop (sheet_width * j) recs)) (n - (j + 1)) (drop (sheet_width * (j + 1)) recs) (drop (o + pair_length (drop (sheet_width * j) recs)) words)
  unfolding Seen equations_fit
  seen_next j o l s =
      let e : n - j ≡ suc (n - (j + 1)) = omega arith in
      let f : sheet_width * j + sheet_width ≡ sheet_width * (j + 1) = omega arith in
      s ∙ rw (e, drop-drop sheet_width (sheet_width * j) recs, drop-drop (pair_length (drop (sheet_width * j) recs)) o words, f)

  pub seen_no : (j o : ℕ) (t : Bool) → Seen recs words n j o → j < n → t ≡ sides_fit o (drop (sheet_width * j) recs) (drop o words) → not t ≡ true
      → false ≡ equations_fit 0 n recs words
  seen_no j o t s l e f = rw (seen_next j o l s, ← e, not-true t f)

  pub seen_on : (j o k : ℕ) (t : Bool) → Seen recs words n j o → j < n → t ≡ sides_fit o (drop (sheet_width * j) recs) (drop o words) → not t ≡ false
      → k ≡ pair_length (drop (sheet_width * j) recs) → Seen recs words n (j + 1) (o + k)
  unfolding Seen
  seen_on j o k t s l e f g = rw (seen_next j o l s, ← e, not-false t f, g)

  pub seen_end : (j o : ℕ) → Seen recs words n j o → j ≤ n → n ≤ j → o ≤ length words → eqb o (length words) ≡ equations_fit 0 n recs words
  unfolding Seen equations_fit
  seen_end j o s l m h =
      let e : n - j ≡ 0 = omega arith in
      let f : eqb (length words - o) 0 ≡ eqb o (length words) = same_test o (length words) h in
      sym (s ∙ rw (e, length-drop o words) f)

-- the letters of a record that fits are among what is left
pub sides_inside : (recs words : List ℕ) (j o k : ℕ) (t : Bool) → t ≡ sides_fit o (drop (sheet_width * j) recs) (drop o words) → not t ≡ false
    → k ≡ pair_length (drop (sheet_width * j) recs) → o ≤ length words → o + k ≤ length words
sides_inside recs words j o k t e f g h =
    let r = sides_room o (drop (sheet_width * j) recs) (drop o words) (sym e ∙ not-false t f) in
    omega (arith, simp length-drop at r)

-- what the loop over the records needs
pub ruleset judging = (seen_start, seen_no, seen_on, seen_end, sides_inside)

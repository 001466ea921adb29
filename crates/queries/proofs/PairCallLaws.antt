-- The public call of a critical pair. Peak and reducts, each written to its place, are the call's result. The two lines found by their numbers
-- are the table's: an absent line does not stand, and a line that is there has the sides that its record stores. No step is looked at.
use Prim.Native.Nat.{ℕ, ◌≤◌, ◌<◌}
use mathlib.Core.Path.{◌≡◌, refl, sym, ◌∙◌, ap}
use mathlib.Core.Bool.{Bool, true, false, true≢false, not, ◌&&◌}
use mathlib.Core.List.{List, []}
use native.Mathlib.Omega.{arith}
use native.Mathlib.Decide.{dec_lt}
use borrow.Author.Tests.{not-true, not-false, le-leb, lt-leb}
use lib.Dec.{ltb}
use borrow.Author.Tests.{lt-ltb, le-ltb}
use lib.ListN.{length}
use Rattle.words.specs.Refusal.{answered}
use Rattle.words.proofs.TestLaws.{and_right}
use Rattle.rewriting.specs.Pairs.{is_pair, peak, first_reduct, second_reduct, reducts_of}
use Rattle.rewriting.specs.Sheet.{Line, line_at}
use Rattle.rewriting.proofs.PairLaws.{pair_says}
use Rattle.rewriting.proofs.ReductLaws.{peak_is}
use Rattle.layout.specs.declared.judged.Table.{Table}
use Rattle.buffers.specs.Written.{written}
use Rattle.layout.specs.Header.{table_kind, steps_of}
use Rattle.layout.specs.Tables.{table_fits, table_of}
use Rattle.layout.specs.Slices.{stands_by, line_in, lines_in, line_left, line_right}
use Rattle.layout.proofs.SliceLaws.{line_at_lem, line_absent}
use Rattle.layout.proofs.BareLaws.{bare_left, bare_right, bare_stands}
use Rattle.queries.specs.Pair.{pair_counts, pair_at_lines, pair_of, pair_result}
use Rattle.queries.specs.Calls.{PairCalled}
use Rattle.std.proofs.Common.{Option, None, Some, Ok, Err}
use Rattle.std.proofs.Common.{Result as Outcome}
use Rattle.words.specs.declared.refusals.Refusal.{Refusal}
use Rattle.words.specs.declared.refusals.Refusal.TheVariants.{File, Room}
use Rattle.queries.specs.declared.Lengths.{Lengths}

-- the lines i and m of the n that two slices hold
module _ (recs words : List ℕ) (n i m k : ℕ) where
  abbrev ls : List Line
  ls = lines_in recs [] words n

  -- a line that is absent does not stand
  pub first_absent : n ≤ i → false ≡ pair_counts ls i m k
  unfolding pair_counts
  first_absent h = rw (line_absent recs [] words n i h)

  pub second_absent : n ≤ m → false ≡ pair_counts ls i m k
  unfolding pair_counts
  second_absent h = rw (line_absent recs [] words n m h) (go (line_at ls i).stands)
    where
      go : (t : Bool) → false ≡ t && false
      go true = refl
      go false = refl

  module _ (hi : i < n) (hm : m < n) where
    counts_are : pair_counts ls i m k ≡ stands_by recs i && (stands_by recs m && is_pair i m k (line_left recs words i) (line_left recs words m))
    unfolding pair_counts line_in
    counts_are = rw (line_at_lem recs [] words n i hi, line_at_lem recs [] words n m hm)

  -- the tests of the code
  pub counts_tested : pair_counts ls i m k
      ≡ ltb i n && (ltb m n && (stands_by recs i && (stands_by recs m && is_pair i m k (line_left recs words i) (line_left recs words m))))
  counts_tested = go (dec_lt i n) (dec_lt m n)
    where
      go : Dec (i < n) → Dec (m < n) → pair_counts ls i m k
          ≡ ltb i n && (ltb m n && (stands_by recs i && (stands_by recs m && is_pair i m k (line_left recs words i) (line_left recs words m))))
      go (no x) y = rw (le-ltb i n (omega arith)) (sym (first_absent (omega arith)))
      go (yes x) (no y) = rw (lt-ltb i n x, le-ltb m n (omega arith)) (sym (second_absent (omega arith)))
      go (yes x) (yes y) = rw (lt-ltb i n x, lt-ltb m n y) (counts_are x y)

  -- by the test that the code made
  module _ (t : Bool) (e : t ≡ pair_counts ls i m k) where
    pub pair_none : (d : List ℕ) → not t ≡ true → PairCalled (answered (pair_of ls i m k)) d d (Ok None)
    unfolding pair_of
    pair_none d h = let f = sym e ∙ not-true t h in record { answer = rw f; output = rw f }

    module _ (h : not t ≡ false) where
      counts : pair_counts ls i m k ≡ true
      counts = sym e ∙ not-false t h

      pub first_there : i < n
      first_there = go (dec_lt i n)
        where
          go : Dec (i < n) → i < n
          go (yes l) = l
          go (no l) = absurd (true≢false (sym counts ∙ sym (first_absent (omega arith))))

      pub second_there : m < n
      second_there = go (dec_lt m n)
        where
          go : Dec (m < n) → m < n
          go (yes l) = l
          go (no l) = absurd (true≢false (sym counts ∙ sym (second_absent (omega arith))))

      pub place_inside : k ≤ length (line_left recs words i)
      place_inside =
          let both = sym (counts_are first_there second_there) ∙ counts in
          let f = and_right (stands_by recs i) _ both in
          let g = and_right (stands_by recs m) (is_pair i m k (line_left recs words i) (line_left recs words m)) f in
          let p = pair_says i m k (line_left recs words i) (line_left recs words m) g in
          omega (arith, p.0)

      pub pair_found : (d b : List ℕ) (r : Outcome (Option Lengths) Refusal) → PairCalled (answered (pair_at_lines k (line_in recs [] words i) (line_in recs [] words m))) d b r
          → PairCalled (answered (pair_of ls i m k)) d b r
      unfolding pair_of
      pair_found d b r c = rw (counts, line_at_lem recs [] words n i first_there, line_at_lem recs [] words n m second_there) c

-- peak and reducts, each copied to its place, one after the other
module _ (recs words left right laid other : List ℕ) (i k m : ℕ) (el : left ≡ line_left recs words i) (er : right ≡ line_right recs words i)
    (ea : laid ≡ line_left recs words m) (eo : other ≡ line_right recs words m) where
  pub pair_shown : (d x y b z v w : List ℕ) (p f s : ℕ) → z ≡ first_reduct k left left laid → v ≡ first_reduct k left right laid → w ≡ second_reduct k left laid other
      → (p ≡ length z) × (x ≡ written d 0 z) → (f ≡ length v) × (y ≡ written x 64 v) → (s ≡ length w) × (b ≡ written y 128 w)
      → PairCalled (answered (pair_at_lines k (line_in recs [] words i) (line_in recs [] words m))) d b (Ok (Some (record { peak = p; first = f; second = s })))
  unfolding reducts_of line_in
  pair_shown d x y b z v w p f s ez ev ew zs vs ws =
      let top : z ≡ peak k left laid = ez ∙ peak_is k left laid in
      record {
        answer = rw (← el, ← er, ← ea, ← eo, zs.0, vs.0, ws.0, top, ev, ew);
        output = rw (← el, ← er, ← ea, ← eo, ws.1, vs.1, zs.1, top, ev, ew);
      }

-- no step is looked at
pairs_bare : (recs steps words : List ℕ) (n i m k : ℕ) → pair_of (lines_in recs steps words n) i m k ≡ pair_of (lines_in recs [] words n) i m k
unfolding pair_of pair_counts
pairs_bare recs steps words n i m k =
    simp (bare_stands recs steps words n, bare_left recs steps words n, bare_right recs steps words n)

-- the refusals of the pair call, and its answer
module _ (b : List ℕ) (i m k : ℕ) (d : List ℕ) where
  pub pair_room : length d < 192 → PairCalled (pair_result b i m k (length d)) d d (Err Room)
  unfolding pair_result
  pair_room h = let f = lt-leb 192 (length d) h in record { answer = rw f; output = rw f }

  module _ (h : 192 ≤ length d) where
    pub pair_no_table : table_fits b ≡ false → PairCalled (pair_result b i m k (length d)) d d (Err File)
    unfolding pair_result
    pair_no_table g = let f = le-leb 192 (length d) h in record { answer = rw (f, g); output = rw (f, g) }

    pub pair_answer : (t : Table) → t.bytes.now ≡ b → (recs words c : List ℕ) (n : ℕ) (r : Outcome (Option Lengths) Refusal)
        → lines_in recs (steps_of table_kind t.bytes.now) words n ≡ (table_of t.bytes.now).lines
        → PairCalled (answered (pair_of (lines_in recs [] words n) i m k)) d c r → PairCalled (pair_result b i m k (length d)) d c r
    unfolding pair_result
    pair_answer t et recs words c n r e a =
        let fits : table_fits b ≡ true = rw et at t.fits in
        let found : pair_of (lines_in recs [] words n) i m k ≡ pair_of (table_of b).lines i m k =
        sym (pairs_bare recs (steps_of table_kind t.bytes.now) words n i m k) ∙ ap (λ (ts : List Line). pair_of ts i m k) e ∙ rw et in
        rw (le-leb 192 (length d) h, fits) (rw found at a)

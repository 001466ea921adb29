-- A good header tells that the numbers are within the kind's limits, which keeps every place in the file small, and that the areas lie inside.
use Prim.Native.Nat.{ℕ, ◌<◌, ◌≤◌}
use mathlib.Core.Path.{◌≡◌, sym, ◌∙◌}
use mathlib.Core.List.{List}
use mathlib.Core.Bool.{Bool, true, false, ◌&&◌}
use native.Mathlib.Nat.{mul-le-mul, le_refl}
use native.Mathlib.Omega.{arith}
use borrow.Author.Tests.{lt-leb, leb-true, eqb-true}
use lib.Dec.{leb, eqb, lit≤}
use lib.ListN.{length}
use Rattle.words.specs.Comparing.{order_known}
use Rattle.words.proofs.TestLaws.{and_left, and_right}
use Rattle.buffers.specs.Bytes.{u16_at}
use Rattle.layout.specs.declared.Kind.{Kind}
use Rattle.layout.specs.declared.Header.{Header}
use Rattle.layout.specs.Header.{header_size, sheet_kind, table_kind, header_of, records_at, words_at, numbers_fit, lengths_fit, header_fits}
use Rattle.layout.specs.Judged.{Readable, Limited, Within, Head}

-- both kinds are small
pub sheet_limited : Limited sheet_kind
sheet_limited = record { number = lit≤ tt; pairs = lit≤ tt; cited = lit≤ tt; steps = lit≤ tt; small = lit≤ tt }

pub table_limited : Limited table_kind
table_limited = record { number = lit≤ tt; pairs = lit≤ tt; cited = lit≤ tt; steps = lit≤ tt; small = lit≤ tt }

-- the records start directly behind the header
pub records_early : (k : Kind) (h : Header) → records_at k h ≤ header_size
unfolding records_at
records_early k h = le_refl header_size

-- the last area starts at a small place, and so do the others
pub words_early : (k : Kind) (h : Header) → Within k h → words_at k h < 65536
words_early k h w = omega (arith, records_early k h, mul-le-mul (le_refl k.width) w.pairs, w.steps, w.limited.small)

-- fewer bytes than a header are no file
pub header_short : (k : Kind) (b : List ℕ) → length b < header_size → header_fits k b ≡ false
unfolding header_fits
header_short k b h = rw (lt-leb header_size (length b) h)

-- the numbers' verdict
pub numbers_say : (k : Kind) (h : Header) → Limited k → numbers_fit k h ≡ true → Within k h
unfolding numbers_fit
numbers_say k h l e =
    let o = order_known h.order h.letters in
    let p = leb h.pairs k.pairs in
    let c = leb h.cited k.cited in
    let s = leb h.steps k.steps in
    let behind = and_right o (p && (c && s)) e in
    let last = and_right p (c && s) behind in
    record {
      limited = l;
      pairs = leb-true h.pairs k.pairs (and_left p (c && s) behind);
      cited = leb-true h.cited k.cited (and_left c s last);
      steps = leb-true h.steps k.steps (and_right c s last);
    }

-- what a good header says of its file, beside what it is read for
pub record Sized (k : Kind) (b : List ℕ) : Type 0 where
  pub there : Readable b
  pub kind : u16_at b 0 ≡ k.number
  pub start : u16_at b 12 ≡ words_at k (header_of b)
  pub total : u16_at b 14 ≡ length b

-- what a good header tells
module _ (k : Kind) (b : List ℕ) (e : header_fits k b ≡ true) where
  -- its four tests, and the three of the lengths
  good_parts : (leb header_size (length b) ≡ true) × (eqb (u16_at b 0) k.number ≡ true) × (numbers_fit k (header_of b) ≡ true)
      × (lengths_fit (u16_at b 12) (u16_at b 14) (words_at k (header_of b)) (length b) ≡ true)
  unfolding header_fits
  good_parts =
      let a = leb header_size (length b) in
      let c = eqb (u16_at b 0) k.number in
      let n = numbers_fit k (header_of b) in
      let l = lengths_fit (u16_at b 12) (u16_at b 14) (words_at k (header_of b)) (length b) in
      let f = and_right a (c && (n && l)) e in
      let g = and_right c (n && l) f in
      (and_left a (c && (n && l)) e, and_left c (n && l) f, and_left n l g, and_right n l g)

  good_lengths : (eqb (u16_at b 12) (words_at k (header_of b)) ≡ true) × (eqb (u16_at b 14) (length b) ≡ true) × (leb (words_at k (header_of b)) (length b) ≡ true)
  unfolding lengths_fit
  good_lengths =
      let a = eqb (u16_at b 12) (words_at k (header_of b)) in
      let c = eqb (u16_at b 14) (length b) in
      let d = leb (words_at k (header_of b)) (length b) in
      let f = and_right a (c && d) good_parts.3 in
      (and_left a (c && d) good_parts.3, and_left c d f, and_right c d f)

  pub good_sized : Sized k b
  good_sized = record {
    there = record { long = leb-true header_size (length b) good_parts.0 };
    kind = eqb-true (u16_at b 0) k.number good_parts.1;
    start = eqb-true (u16_at b 12) (words_at k (header_of b)) good_lengths.0;
    total = eqb-true (u16_at b 14) (length b) good_lengths.1;
  }

  pub good_head : Limited k → Head k (header_of b) (length b)
  unfolding numbers_fit
  good_head l = record {
    order = and_left (order_known (header_of b).order (header_of b).letters) _ good_parts.2;
    within = numbers_say k (header_of b) l good_parts.2;
    inside = leb-true (words_at k (header_of b)) (length b) good_lengths.2;
  }

-- the same as the code finds it, having tested the verdict of a callee
pub head_judged : (k : Kind) (b : List ℕ) (h : Header) (t : Bool) → Limited k → h ≡ header_of b → t ≡ header_fits k b → t ≡ true → Head k h (length b)
head_judged k b h t l eh e f = rw eh (good_head k b (sym e ∙ f) l)

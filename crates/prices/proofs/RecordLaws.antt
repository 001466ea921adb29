-- Judging a price file's records one after the other. What is read at p + i is what stands at i behind the first p bytes. Whatever the first j records
-- were, the verdict on all is the verdict on what is left from record j on, with the offset o that is due: `Seen`.
use Prim.Native.Nat.{ℕ, suc, ◌+◌, ◌-◌, ◌*◌, ◌≤◌, ◌<◌}
use native.Mathlib.Omega.{arith}
use mathlib.Core.Path.{◌≡◌, refl, sym, ◌∙◌, ap, ap₂}
use mathlib.Core.List.{List}
use mathlib.Core.Bool.{Bool, true, false, not, ◌&&◌}
use borrow.Author.Tests.{not-true, not-false, leb-true}
use lib.Dec.{leb, eqb}
use lib.ListN.{length, get_or, drop, length-drop}
use lib.Seq.{get_or-drop, drop-drop}
use Rattle.words.proofs.TestLaws.{and_left, and_right}
use Rattle.buffers.specs.Bytes.{u16_at, u32_at}
use Rattle.layout.proofs.SheetLaws.{same_test}
use Rattle.prices.specs.Price.{word_limit, fare_limit}
use Rattle.prices.specs.Files.{price_width, word_length, fare_in, price_fits, prices_fit}

-- numbers read behind the first p bytes
pub two_behind : (s : List ℕ) (p i : ℕ) → u16_at (drop p s) i ≡ u16_at s (p + i)
two_behind s p i = let z : p + (i + 1) ≡ p + i + 1 = omega arith in rw (get_or-drop p s i 0, get_or-drop p s (i + 1) 0, z)

pub four_behind : (s : List ℕ) (p i : ℕ) → u32_at (drop p s) i ≡ u32_at s (p + i)
four_behind s p i =
    let z : p + (i + 2) ≡ p + i + 2 = omega arith in
    ap₂ (λ (x y : ℕ). x + 65536 * y) (two_behind s p i) (two_behind s p (i + 2) ∙ ap (u16_at s) z)

-- the parts of the verdict on a record
pub record PriceGood (o : ℕ) (recs words : List ℕ) : Type 0 where
  pub offset : eqb (u16_at recs 0) o ≡ true
  pub short : leb (word_length recs) word_limit ≡ true
  pub zero : eqb (get_or recs 3 0) 0 ≡ true
  pub low : leb (fare_in recs) fare_limit ≡ true
  pub room : leb (word_length recs) (length words) ≡ true

pub price_good : (o : ℕ) (recs words : List ℕ) → price_fits o recs words ≡ true → PriceGood o recs words
unfolding price_fits
price_good o recs words e = parts (eqb (u16_at recs 0) o) (leb (word_length recs) word_limit) (eqb (get_or recs 3 0) 0) (leb (fare_in recs) fare_limit) (leb (word_length recs) (length words)) refl refl refl refl refl e
  where
    parts : (a b c d f : Bool) → eqb (u16_at recs 0) o ≡ a → leb (word_length recs) word_limit ≡ b → eqb (get_or recs 3 0) 0 ≡ c → leb (fare_in recs) fare_limit ≡ d
        → leb (word_length recs) (length words) ≡ f → a && (b && (c && (d && f))) ≡ true → PriceGood o recs words
    parts a b c d f pa pb pc pd pf h =
        let i = and_right a (b && (c && (d && f))) h in
        let j = and_right b (c && (d && f)) i in
        let k = and_right c (d && f) j in
        record {
          offset = pa ∙ and_left a (b && (c && (d && f))) h;
          short = pb ∙ and_left b (c && (d && f)) i;
          zero = pc ∙ and_left c (d && f) j;
          low = pd ∙ and_left d f k;
          room = pf ∙ and_right d f k;
        }

unfoldable pub Seen : List ℕ → List ℕ → ℕ → ℕ → ℕ → Type 0
Seen recs words n j o = prices_fit 0 n recs words ≡ prices_fit o (n - j) (drop (price_width * j) recs) (drop o words)

module _ (recs words : List ℕ) (n : ℕ) where
  pub seen_start : Seen recs words n 0 0
  unfolding Seen
  seen_start = let e : n - 0 ≡ n = omega arith in rw e

  -- the definition at record j
  seen_next : (j o : ℕ) → j < n → Seen recs words n j o
      → prices_fit 0 n recs words
      ≡ price_fits o (drop (price_width * j) recs) (drop o words)
      && prices_fit (o + word_length (drop (price_width * j) recs)) (n - (j + 1)) (drop (price_width * (j + 1)) recs) (drop (o + word_length (drop (price_width * j) recs)) words)
  unfolding Seen prices_fit
  seen_next j o l s =
      let e : n - j ≡ suc (n - (j + 1)) = omega arith in
      let f : price_width * j + price_width ≡ price_width * (j + 1) = omega arith in
      s ∙ rw (e, drop-drop price_width (price_width * j) recs, drop-drop (word_length (drop (price_width * j) recs)) o words, f)

  module _ (j o : ℕ) (t : Bool) (s : Seen recs words n j o) (l : j < n) (e : t ≡ price_fits o (drop (price_width * j) recs) (drop o words)) where
    pub seen_no : not t ≡ true → false ≡ prices_fit 0 n recs words
    seen_no f = rw (seen_next j o l s, ← e, not-true t f)

    pub seen_on : (k : ℕ) → not t ≡ false → k ≡ word_length (drop (price_width * j) recs) → Seen recs words n (j + 1) (o + k)
    unfolding Seen
    seen_on k f g = rw (seen_next j o l s, ← e, not-false t f, g)

  pub seen_end : (j o : ℕ) → Seen recs words n j o → j ≤ n → n ≤ j → o ≤ length words → eqb o (length words) ≡ prices_fit 0 n recs words
  unfolding Seen prices_fit
  seen_end j o s l m h =
      let e : n - j ≡ 0 = omega arith in
      sym (s ∙ rw (e, length-drop o words) (same_test o (length words) h))

-- the letters of a record that fits are among what is left
pub word_inside : (recs words : List ℕ) (j o k : ℕ) (t : Bool) → t ≡ price_fits o (drop (price_width * j) recs) (drop o words) → not t ≡ false
    → k ≡ word_length (drop (price_width * j) recs) → o ≤ length words → o + k ≤ length words
word_inside recs words j o k t e f g h =
    let r = leb-true (word_length (drop (price_width * j) recs)) (length (drop o words)) (price_good o (drop (price_width * j) recs) (drop o words) (sym e ∙ not-false t f)).room in
    omega (arith, simp length-drop at r)

-- what the loop over the records needs
pub ruleset judging = (seen_start, seen_no, seen_on, seen_end, word_inside)

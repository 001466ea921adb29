-- Records and letters, written and read. A number is the sum of its bytes, and a word's letters stand at the front of what is left; so what is written is
-- read back and judged good, and what is judged good is what is written of what it stands for.
use Prim.Native.Nat.{ℕ, zero, suc, ◌+◌, ◌*◌, ◌/◌, ◌%◌, ◌≤◌, ◌<◌}
use native.Mathlib.Omega.{arith}
use mathlib.Core.Path.{◌≡◌, refl, sym, ◌∙◌, ap, ap₂}
use mathlib.Core.List.{List, [], ◌∷◌, ◌++◌}
use mathlib.Core.Bool.{true, ◌&&◌}
use borrow.Author.Tests.{le-leb, eq-eqb, leb-true, eqb-true}
use lib.Dec.{leb}
use lib.ListN.{length, get_or, take, drop, length-append, length-drop, take-append-drop}
use lib.Seq.{take-append_seam, drop-append_seam, drop-cons, get_or-drop, length-take-le}
use Rattle.words.proofs.TestLaws.{and_left, and_right}
use Rattle.buffers.specs.Bytes.{u16_at}
use Rattle.prices.specs.Price.{word_limit, fare_limit, Price}
use Rattle.prices.specs.Files.{price_width, word_length, price_fits, prices_fit, read_prices}
use Rattle.prices.specs.Writing.{price_records, price_letters}
use Rattle.prices.specs.Limits.{prices_within}
use Rattle.prices.proofs.RecordLaws.{price_good}

two_bytes : (n : ℕ) → n % 256 + 256 * (n / 256) ≡ n
two_bytes n = omega arith

four_bytes : (n : ℕ) → n % 65536 % 256 + 256 * (n % 65536 / 256) + 65536 * (n / 65536 % 256 + 256 * (n / 65536 / 256)) ≡ n
four_bytes n = omega arith

-- written, then read
pub prices_read : (o : ℕ) (ps : List Price) → read_prices (length ps) (price_records o ps) (price_letters ps) ≡ ps
unfolding read_prices price_records price_letters
prices_read o [] = refl
prices_read o (p ∷ ps) =
    ap₂ ◌∷◌
    (λ i. record { word = take-append_seam p.word (price_letters ps) i; fare = four_bytes p.fare i })
    (ap (read_prices (length ps) (price_records (o + length p.word) ps)) (drop-append_seam p.word (price_letters ps)) ∙ prices_read (o + length p.word) ps)

pub records_size : (o : ℕ) (ps : List Price) → length (price_records o ps) ≡ price_width * length ps
unfolding price_records
records_size o [] = refl
records_size o (p ∷ ps) = let h = records_size (o + length p.word) ps in omega (arith, h)

-- written within the limits, then judged
pub prices_judged : (o : ℕ) (ps : List Price) → prices_within ps ≡ true → prices_fit o (length ps) (price_records o ps) (price_letters ps) ≡ true
unfolding prices_within prices_fit price_fits price_records price_letters
prices_judged o [] e = refl
prices_judged o (p ∷ ps) e =
    let a = leb (length p.word) word_limit in
    let b = leb p.fare fare_limit in
    let f = and_right a (b && prices_within ps) e in
    let room : leb (length p.word) (length (p.word ++ price_letters ps)) ≡ true =
    le-leb (length p.word) (length (p.word ++ price_letters ps)) (rw (length-append p.word (price_letters ps)) (omega arith)) in
    rw (
      two_bytes o,
      eq-eqb o o refl,
      and_left a (b && prices_within ps) e,
      four_bytes p.fare,
      and_left b (prices_within ps) f,
      room,
      drop-append_seam p.word (price_letters ps),
    )
    (prices_judged (o + length p.word) ps (and_right b (prices_within ps) f))

-- the parts of a judged record are what is written
module _ (o : ℕ) (recs words : List ℕ) (e : price_fits o recs words ≡ true) where
  offset_is : u16_at recs 0 ≡ o
  offset_is = eqb-true (u16_at recs 0) o (price_good o recs words e).offset

  zero_is : get_or recs 3 0 ≡ 0
  zero_is = eqb-true (get_or recs 3 0) 0 (price_good o recs words e).zero

  letters_there : word_length recs ≤ length words
  letters_there = leb-true (word_length recs) (length words) (price_good o recs words e).room

  length_is : length (take (word_length recs) words) ≡ word_length recs
  length_is = length-take-le (word_length recs) words letters_there

-- the first eight bytes, one by one
eight : (s : List ℕ) → price_width ≤ length s
    → get_or s 0 0 ∷ get_or s 1 0 ∷ get_or s 2 0 ∷ get_or s 3 0 ∷ get_or s 4 0 ∷ get_or s 5 0 ∷ get_or s 6 0 ∷ get_or s 7 0 ∷ drop price_width s ≡ s
eight s h = go 8 0 (omega arith)
  where
    firsts : ℕ → ℕ → List ℕ
    firsts k zero = drop k s
    firsts k (suc n) = get_or s k 0 ∷ firsts (suc k) n

    go : (n k : ℕ) → k + n ≤ length s → firsts k n ≡ drop k s
    go zero k l = refl
    go (suc n) k l = ap (λ (t : List ℕ). get_or s k 0 ∷ t) (go n (suc k) (omega arith)) ∙ sym (drop-cons s k 0 (omega arith))

low : (x y : ℕ) → x < 256 → (x + 256 * y) % 256 ≡ x
low x y h = omega arith

high : (x y : ℕ) → x < 256 → (x + 256 * y) / 256 ≡ y
high x y h = omega arith

half : (x y z w : ℕ) → x < 256 → y < 256 → (x + 256 * y + 65536 * (z + 256 * w)) % 65536 ≡ x + 256 * y
half x y z w h g = omega arith

rest : (x y z w : ℕ) → x < 256 → y < 256 → (x + 256 * y + 65536 * (z + 256 * w)) / 65536 ≡ z + 256 * w
rest x y z w h g = omega arith

none : (w : List ℕ) → length w ≡ 0 → [] ≡ w
none [] h = refl
none (a ∷ w) h = absurd (omega arith)

-- judged, then written: a byte list is what it stands for
pub letters_written : (o n : ℕ) (recs words : List ℕ) → prices_fit o n recs words ≡ true → price_letters (read_prices n recs words) ≡ words
unfolding prices_fit read_prices price_letters
letters_written o zero recs words e = none words (eqb-true (length words) 0 e)
letters_written o (suc n) recs words e =
    let m = word_length recs in
    let left = prices_fit (o + m) n (drop price_width recs) (drop m words) in
    rw (letters_written (o + m) n (drop price_width recs) (drop m words) (and_right (price_fits o recs words) left e)) (take-append-drop m words)

pub records_written : (o n : ℕ) (recs words : List ℕ) → ((i : ℕ) → get_or recs i 0 < 256) → length recs ≡ price_width * n → prices_fit o n recs words ≡ true
    → price_records o (read_prices n recs words) ≡ recs
unfolding prices_fit read_prices price_records
records_written o zero recs words b l e = none recs (omega arith)
records_written o (suc n) recs words b l e =
    let m = word_length recs in
    let left = prices_fit (o + m) n (drop price_width recs) (drop m words) in
    let p = and_left (price_fits o recs words) left e in
    let i = records_written (o + m) n (drop price_width recs) (drop m words) (λ j. rw (get_or-drop price_width recs j 0) (b (price_width + j)))
    (rw length-drop (omega arith)) (and_right (price_fits o recs words) left e) in
    rw (
      length_is o recs words p,
      i,
      ← offset_is o recs words p,
      low (get_or recs 0 0) (get_or recs 1 0) (b 0),
      high (get_or recs 0 0) (get_or recs 1 0) (b 0),
      half (get_or recs 4 0) (get_or recs 5 0) (get_or recs 6 0) (get_or recs 7 0) (b 4) (b 5),
      rest (get_or recs 4 0) (get_or recs 5 0) (get_or recs 6 0) (get_or recs 7 0) (b 4) (b 5),
      low (get_or recs 4 0) (get_or recs 5 0) (b 4),
      high (get_or recs 4 0) (get_or recs 5 0) (b 4),
      low (get_or recs 6 0) (get_or recs 7 0) (b 6),
      high (get_or recs 6 0) (get_or recs 7 0) (b 6),
    )
    (rw (zero_is o recs words p) at (eight recs (omega arith)))

-- what a judged file stands for is within the limits, and has few letters
pub prices_within_lem : (o n : ℕ) (recs words : List ℕ) → prices_fit o n recs words ≡ true → prices_within (read_prices n recs words) ≡ true
unfolding prices_fit read_prices prices_within
prices_within_lem o zero recs words e = refl
prices_within_lem o (suc n) recs words e =
    let m = word_length recs in
    let left = prices_fit (o + m) n (drop price_width recs) (drop m words) in
    let p = and_left (price_fits o recs words) left e in
    rw (length_is o recs words p, (price_good o recs words p).short, (price_good o recs words p).low)
    (prices_within_lem (o + m) n (drop price_width recs) (drop m words) (and_right (price_fits o recs words) left e))

pub letters_few : (o n : ℕ) (recs words : List ℕ) → prices_fit o n recs words ≡ true → length words ≤ word_limit * n
unfolding prices_fit
letters_few o zero recs words e = let h = eqb-true (length words) 0 e in omega (arith, h)
letters_few o (suc n) recs words e =
    let m = word_length recs in
    let left = prices_fit (o + m) n (drop price_width recs) (drop m words) in
    let p = and_left (price_fits o recs words) left e in
    let s = leb-true m word_limit (price_good o recs words p).short in
    let h = letters_few (o + m) n (drop price_width recs) (drop m words) (and_right (price_fits o recs words) left e) in
    omega (arith, s, rw length-drop at h)

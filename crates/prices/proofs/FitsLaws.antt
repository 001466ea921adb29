-- What a good verdict gives. Going along the prices, the running offset is the one that each record stores, so reading at the front of what is left and
-- reading by stored offset find the same words, and all of them lie inside.
use Prim.Native.Nat.{ℕ, zero, suc, ◌+◌, ◌*◌, ◌≤◌, ◌<◌}
use native.Mathlib.Omega.{arith}
use mathlib.Core.Path.{◌≡◌, refl, sym, ◌∙◌, ap, ap₂}
use mathlib.Core.List.{List, ◌∷◌}
use mathlib.Core.Bool.{true}
use borrow.Author.Tests.{leb-true, eqb-true}
use lib.ListN.{length, get_or, take, drop, length-drop}
use lib.Seq.{get_or-drop, drop-drop}
use Rattle.words.proofs.TestLaws.{and_left, and_right}
use Rattle.buffers.specs.Bytes.{u16_at}
use Rattle.layout.specs.Slices.{list_from}
use Rattle.prices.specs.Price.{word_limit, fare_limit}
use Rattle.prices.specs.Files.{price_width, word_length, fare_in, price_fits, prices_fit, read_prices}
use Rattle.prices.specs.Slices.{price_word, price_fare, PricePlaced, PricesInside, price_in, prices_in}
use Rattle.prices.proofs.RecordLaws.{two_behind, four_behind, price_good}

-- what the verdict on the record j says, where the words from o on are left
module _ (recs words : List ℕ) (j o : ℕ) (e : price_fits o (drop (price_width * j) recs) (drop o words) ≡ true) (h : o ≤ length words) where
  offset_is : u16_at recs (price_width * j) ≡ o
  offset_is =
      let z : price_width * j + 0 ≡ price_width * j = omega arith in
      rw (two_behind recs (price_width * j) 0, z) at (eqb-true (u16_at (drop (price_width * j) recs) 0) o (price_good o (drop (price_width * j) recs) (drop o words) e).offset)

  length_is : word_length (drop (price_width * j) recs) ≡ get_or recs (price_width * j + 2) 0
  length_is = get_or-drop (price_width * j) recs 2 0

  fare_is : fare_in (drop (price_width * j) recs) ≡ price_fare recs j
  unfolding price_fare
  fare_is = four_behind recs (price_width * j) 4

  room_left : o + word_length (drop (price_width * j) recs) ≤ length words
  room_left =
      let r = leb-true (word_length (drop (price_width * j) recs)) (length (drop o words)) (price_good o (drop (price_width * j) recs) (drop o words) e).room in
      omega (arith, simp length-drop at r)

  -- so its letters lie inside, and are the same read either way
  placed : price_width * j + price_width ≤ length recs → PricePlaced recs words j
  unfolding price_fare
  placed l =
      let g = price_good o (drop (price_width * j) recs) (drop o words) e in
      record {
        there = l;
        short = rw length_is at (leb-true (word_length (drop (price_width * j) recs)) word_limit g.short);
        low = rw fare_is at (leb-true (fare_in (drop (price_width * j) recs)) fare_limit g.low);
        inside = rw (← length_is, offset_is) room_left;
      }

  same_word_lem : take (word_length (drop (price_width * j) recs)) (drop o words) ≡ price_word recs words j
  unfolding price_word
  same_word_lem = rw (length_is, offset_is)

-- a property of the first number and of those behind it
first_or : (P : ℕ → Type 0) (k n : ℕ) → P k → ((j : ℕ) → j < n → P (k + 1 + j)) → (j : ℕ) → j < suc n → P (k + j)
first_or P k n a f zero l = let e : k + 0 ≡ k = omega arith in rw e a
first_or P k n a f (suc j) l = let e : k + suc j ≡ k + 1 + j = omega arith in rw e (f j (omega arith))

pub prices_from : (recs words : List ℕ) (n k o : ℕ) → prices_fit o n (drop (price_width * k) recs) (drop o words) ≡ true
    → o ≤ length words → price_width * (k + n) ≤ length recs
    → (read_prices n (drop (price_width * k) recs) (drop o words) ≡ list_from (price_in recs words) k n)
    × ((j : ℕ) → j < n → PricePlaced recs words (k + j))
unfolding prices_fit read_prices list_from price_in
prices_from recs words zero k o e h l = (refl, λ j z. absurd (omega arith))
prices_from recs words (suc n) k o e h l =
    let p = price_width * k in
    let m = word_length (drop p recs) in
    let first = price_fits o (drop p recs) (drop o words) in
    let rest = prices_fit (o + m) n (drop price_width (drop p recs)) (drop m (drop o words)) in
    let f : p + price_width ≡ price_width * (k + 1) = omega arith in
    let er : drop price_width (drop p recs) ≡ drop (price_width * (k + 1)) recs = drop-drop price_width p recs ∙ ap (λ (x : ℕ). drop x recs) f in
    let ew : drop m (drop o words) ≡ drop (o + m) words = drop-drop m o words in
    let g = and_left first rest e in
    let i = prices_from recs words n (k + 1) (o + m) (rw (er, ew) at (and_right first rest e)) (room_left recs words k o g h) (omega arith) in (
      ap₂ ◌∷◌ (λ x. record { word = same_word_lem recs words k o g h x; fare = fare_is recs words k o g h x }) (ap₂ (read_prices n) er ew ∙ i.0),
      first_or (PricePlaced recs words) k n (placed recs words k o g h (omega arith)) i.1,
    )

-- records and words that fit
module _ (recs words : List ℕ) (n : ℕ) (e : prices_fit 0 n recs words ≡ true) (l : length recs ≡ price_width * n) where
  pub judged_inside : PricesInside recs words n
  unfolding PricesInside
  judged_inside j h = let p = (prices_from recs words n 0 0 e (omega arith) (omega arith)).1 j h in let z : 0 + j ≡ j = omega arith in rw z at p

  pub judged_prices : prices_in recs words n ≡ read_prices n recs words
  unfolding prices_in
  judged_prices = sym (prices_from recs words n 0 0 e (omega arith) (omega arith)).0

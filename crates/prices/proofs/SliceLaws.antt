-- Prices in slices, read by what their records store.
use Prim.Native.Nat.{ℕ, ◌+◌, ◌-◌, ◌*◌, ◌≤◌, ◌<◌}
use native.Mathlib.Omega.{arith}
use native.Mathlib.Nat.{min-le_left, le_trans}
use mathlib.Core.Path.{◌≡◌, ◌∙◌}
use mathlib.Core.List.{List}
use lib.ListN.{length, get_or, take, drop, length-take}
use Rattle.buffers.specs.Bytes.{u16_at}
use Rattle.layout.proofs.SliceLaws.{list_long, list_at}
use Rattle.prices.specs.Price.{word_limit, fare_limit, no_price, price_at}
use Rattle.prices.specs.Files.{price_width}
use Rattle.prices.specs.Slices.{price_word, price_fare, PricesInside, price_in, prices_in}

module _ (recs words : List ℕ) (j s l : ℕ) (e : s ≡ u16_at recs (price_width * j)) (f : l ≡ get_or recs (price_width * j + 2) 0) where
  pub word_read : take (s + l - s) (drop s words) ≡ price_word recs words j
  unfolding price_word
  word_read = let q : s + l - s ≡ l = omega arith in rw (q, e, f)

  pub word_short : get_or recs (price_width * j + 2) 0 ≤ word_limit → length (take (s + l - s) (drop s words)) ≤ word_limit
  word_short h =
      let q : s + l - s ≡ l = omega arith in
      rw (q, length-take l (drop s words)) (le_trans (min-le_left l (length (drop s words))) (rw f h))

-- where the first n prices lie inside, each record is there and its fare is low
module _ (recs words : List ℕ) (n j : ℕ) (i : PricesInside recs words n) (h : j < n) where
  pub price_there : price_width * j + price_width ≤ length recs
  unfolding PricesInside
  price_there = (i j h).there

  pub price_low : price_fare recs j ≤ fare_limit
  unfolding PricesInside price_fare
  price_low = (i j h).low

module _ (recs words : List ℕ) (n : ℕ) where
  pub prices_long : length (prices_in recs words n) ≡ n
  unfolding prices_in
  prices_long = list_long (price_in recs words) 0 n

  pub price_at_lem : (j : ℕ) → j < n → price_at (prices_in recs words n) j ≡ price_in recs words j
  unfolding prices_in
  price_at_lem j h = let e : 0 + j ≡ j = omega arith in list_at (price_in recs words) no_price 0 n j h ∙ rw e

-- A price list as two slices, records and words. A price word's letters are found by the offset that its record stores.
use Rattle.std.specs.Prelude.{ℕ, ◌+◌, ◌*◌, ◌≤◌, ◌<◌, List, length, get_or}
use Rattle.words.specs.Word.{Word}
use Rattle.buffers.specs.Bytes.{u16_at, u32_at}
use Rattle.layout.specs.Slices.{part, list_from}
use Rattle.prices.specs.Price.{word_limit, fare_limit, Price}
use Rattle.prices.specs.Files.{price_width}

unfoldable pub price_word : List ℕ → List ℕ → ℕ → Word
price_word recs words j = part (u16_at recs (price_width * j)) (get_or recs (price_width * j + 2) 0) words

unfoldable pub price_fare : List ℕ → ℕ → ℕ
price_fare recs j = u32_at recs (price_width * j + 4)

-- the record j is there, its word is short and its fare low enough, and its letters lie inside the words
pub record PricePlaced (recs words : List ℕ) (j : ℕ) : Type 0 where
  pub there : price_width * j + price_width ≤ length recs
  pub short : get_or recs (price_width * j + 2) 0 ≤ word_limit
  pub low : u32_at recs (price_width * j + 4) ≤ fare_limit
  pub inside : u16_at recs (price_width * j) + get_or recs (price_width * j + 2) 0 ≤ length words

-- so are the first n records: what every function on slices asks, and what a good verdict gives
unfoldable pub PricesInside : List ℕ → List ℕ → ℕ → Type 0
PricesInside recs words n = (j : ℕ) → j < n → PricePlaced recs words j

unfoldable pub price_in : List ℕ → List ℕ → ℕ → Price
price_in recs words j = record { word = price_word recs words j; fare = price_fare recs j }

-- the first n prices
unfoldable pub prices_in : List ℕ → List ℕ → ℕ → List Price
prices_in recs words n = list_from (price_in recs words) 0 n

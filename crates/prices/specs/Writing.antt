-- How the records and the letters of a price file are written: each word's letters directly behind those of the word before.
use Rattle.std.specs.Prelude.{ℕ, ◌+◌, List, [], ◌∷◌, ◌++◌, length}
use Rattle.buffers.specs.Bytes.{u16_bytes, u32_bytes}
use Rattle.prices.specs.Price.{Price}

-- the record of a price whose letters start at the offset o
abbrev pub price_bytes : ℕ → Price → List ℕ
price_bytes o p = u16_bytes o ++ (length p.word ∷ 0 ∷ u32_bytes p.fare)

unfoldable pub price_records : ℕ → List Price → List ℕ
price_records o [] = []
price_records o (p ∷ ps) = price_bytes o p ++ price_records (o + length p.word) ps

unfoldable pub price_letters : List Price → List ℕ
price_letters [] = []
price_letters (p ∷ ps) = p.word ++ price_letters ps

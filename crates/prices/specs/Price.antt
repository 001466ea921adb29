-- Price lists, as what their files stand for: at most 256 words, none longer than 64 letters, each with a fare of at most a million minor units.
use Rattle.std.specs.Prelude.{ℕ, List, [], get_or}
use Rattle.words.specs.Word.{Word}
use Rattle.words.specs.declared.Order.{Order}

-- the most letters of a price word, and the highest fare
abbrev pub word_limit : ℕ
word_limit = 64

abbrev pub fare_limit : ℕ
fare_limit = 1000000

pub record Price : Type 0 where
  pub word : Word
  pub fare : ℕ

-- the order and the letters are those of the tables that it goes with
pub record PriceList : Type 0 where
  pub order : Order
  pub letters : ℕ
  pub prices : List Price

-- what stands where there is no such price
abbrev pub no_price : Price
no_price = record { word = []; fare = 0 }

abbrev pub price_at : List Price → ℕ → Price
price_at ps k = get_or ps k no_price

-- Price files: which files are price files, and what they stand for. A record of eight bytes has the offset of its word in the words area, the word's
-- length, a zero byte and the fare in four bytes; the words stand one directly behind the other. The header is that of every kind, with
-- kind 3, no equations cited and no steps. Records are read at the front of what is left of them; so are their letters, with the offset o that is due.
use Rattle.std.specs.Prelude.{ℕ, zero, suc, ◌+◌, List, [], ◌∷◌, Bool, cond, ◌&&◌, leb, eqb, length, get_or, take, drop}
use Rattle.words.specs.Word.{letters_below}
use Rattle.words.specs.Refusal.{Result, refused}
use Rattle.buffers.specs.Bytes.{u16_at, u32_at}
use Rattle.layout.specs.declared.Kind.{Kind}
use Rattle.layout.specs.Header.{header_of, header_fits, records_of, words_of}
use Rattle.prices.specs.Price.{word_limit, fare_limit, Price, PriceList}

-- the bytes of a record
abbrev pub price_width : ℕ
price_width = 8

-- what sets the kind apart: its number, its record's width, and the most words; it cites no equation and has no step
abbrev pub price_kind : Kind
price_kind = record { number = 3; width = price_width; pairs = 256; cited = 0; steps = 0 }

-- the letters and the fare of the record at the front
abbrev pub word_length : List ℕ → ℕ
word_length recs = get_or recs 2 0

abbrev pub fare_in : List ℕ → ℕ
fare_in recs = u32_at recs 4

-- the offset is the one due, the word is not too long, the byte behind its length is zero, the fare is not too high, and the letters are there
unfoldable pub price_fits : ℕ → List ℕ → List ℕ → Bool
price_fits o recs words =
    eqb (u16_at recs 0) o && (leb (word_length recs) word_limit && (eqb (get_or recs 3 0) 0 && (leb (fare_in recs) fare_limit
    && leb (word_length recs) (length words))))

-- n prices, and no letter behind the last
unfoldable pub prices_fit : ℕ → ℕ → List ℕ → List ℕ → Bool
prices_fit o zero recs words = eqb (length words) 0
prices_fit o (suc n) recs words =
    price_fits o recs words && prices_fit (o + word_length recs) n (drop price_width recs) (drop (word_length recs) words)

unfoldable pub price_list_fits : List ℕ → Bool
price_list_fits b =
    header_fits price_kind b
    && (prices_fit 0 (header_of b).pairs (records_of price_kind b) (words_of price_kind b)
    && letters_below (header_of b).letters (words_of price_kind b))

unfoldable pub read_prices : ℕ → List ℕ → List ℕ → List Price
read_prices zero recs words = []
read_prices (suc n) recs words =
    record { word = take (word_length recs) words; fare = fare_in recs } ∷ read_prices n (drop price_width recs) (drop (word_length recs) words)

unfoldable pub price_list_of : List ℕ → PriceList
price_list_of b = record {
  order = (header_of b).order;
  letters = (header_of b).letters;
  prices = read_prices (header_of b).pairs (records_of price_kind b) (words_of price_kind b);
}

-- a call on a file that is a price file
abbrev pub on_price_list : {A : Type 0} → List ℕ → (PriceList → Result A) → Result A
on_price_list b f = cond (price_list_fits b) (f (price_list_of b)) (refused 1 0)

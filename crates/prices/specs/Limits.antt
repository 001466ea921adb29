-- The price lists that have a file: those within the limits.
use Rattle.std.specs.Prelude.{List, [], ◌∷◌, Bool, true, ◌&&◌, leb, length}
use Rattle.words.specs.Word.{letters_below}
use Rattle.words.specs.Comparing.{order_known}
use Rattle.prices.specs.Price.{word_limit, fare_limit, Price, PriceList}
use Rattle.prices.specs.Files.{price_kind}
use Rattle.prices.specs.Writing.{price_letters}

-- no word is too long and no fare too high
unfoldable pub prices_within : List Price → Bool
prices_within [] = true
prices_within (p ∷ ps) = leb (length p.word) word_limit && (leb p.fare fare_limit && prices_within ps)

unfoldable pub price_list_within : PriceList → Bool
price_list_within l =
    order_known l.order l.letters && (leb (length l.prices) price_kind.pairs && (prices_within l.prices
    && letters_below l.letters (price_letters l.prices)))

-- Inner: no public promise uses the names of this file.
-- What lent prices stand for.
use Rattle.std.specs.Prelude.{List}
use Rattle.prices.specs.Price.{Price}
use Rattle.prices.specs.Slices.{prices_in}
use Rattle.prices.specs.declared.lent.Prices.{Prices}

abbrev pub prices : Prices → List Price
prices ps = prices_in ps.recs.now ps.words.now ps.n

-- Inner: no public promise uses the names of this file.
-- That prices lie inside is one fact: there is at most one proof of it, so a type can carry it.
use Rattle.std.specs.Prelude.{ℕ, List}
use Rattle.std.proofs.Props.{props}
use Rattle.prices.specs.Slices.{PricesInside}

pub prices_inside_prop : (recs words : List ℕ) (n : ℕ) → IsProp (PricesInside recs words n)
unfolding PricesInside
prices_inside_prop recs words n = hlevel props

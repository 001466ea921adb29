-- Inner: no public promise uses the names of this file.
-- That records lie inside is one fact: there is at most one proof of it, so a type can carry it.
use Rattle.std.specs.Prelude.{ℕ, List}
use Rattle.std.proofs.Props.{props}
use Rattle.layout.specs.Slices.{Inside}

pub inside_prop : (width : ℕ) (recs words : List ℕ) (n : ℕ) → IsProp (Inside width recs words n)
unfolding Inside
inside_prop width recs words n = hlevel props

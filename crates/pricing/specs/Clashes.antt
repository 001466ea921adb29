-- Two fares for one word, among kept prices.
use Rattle.std.specs.Prelude.{ℕ, Bool, not, List}
use Rattle.words.specs.Word.{Word}
use Rattle.words.specs.Counting.{any_from}
use Rattle.chains.specs.Verdict.{Verdict, unless}
use Rattle.pricing.specs.Prices.{two_fares}
use Rattle.pricing.specs.Kept.{kept_price}

-- the kept prices k and j have two fares for one word
unfoldable pub kept_two : List Word → List ℕ → ℕ → ℕ → Bool
kept_two words recs k j = two_fares (kept_price words recs k) (kept_price words recs j)

-- the kept price k differs from an earlier one
unfoldable pub kept_differs : List Word → List ℕ → ℕ → Bool
kept_differs words recs k = any_from (kept_two words recs k) 0 k

unfoldable pub kept_verdict : List Word → List ℕ → ℕ → Verdict
kept_verdict words recs k = unless (not (kept_differs words recs k)) 17 k

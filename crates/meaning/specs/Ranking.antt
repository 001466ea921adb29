-- What a ranking means: over a table that the check accepts for a sheet a journey is priced exactly if the sheet links it to a price word, at that
-- word's fare, whenever the call answers. Where nothing before it is refused, 17 is given exactly if the sheet links two price words
-- of different fares, and its place is the lowest that is linked to an earlier one of another fare.
use Rattle.std.specs.Prelude.{ℕ, ◌≤◌, ◌<◌, ◌≡◌, ◌↔◌, ◌⊎◌, true, length, get_or}
use mathlib.Core.List.{List, [], Memᴰ}
use Rattle.words.specs.Word.{Word}
use Rattle.words.specs.Refusal.{answered, refused}
use Rattle.rewriting.specs.Links.{Linked, OfSheet}
use Rattle.rewriting.specs.Normal.{Counted, normal_of}
use Rattle.rewriting.specs.Sheet.{Equation, rules_of}
use Rattle.layout.specs.Sheets.{sheet_of}
use Rattle.layout.specs.Tables.{table_fits, table_of}
use Rattle.chains.specs.Verdict.{met}
use Rattle.checking.specs.Check.{check_result}
use Rattle.prices.specs.Price.{Price, price_at}
use Rattle.prices.specs.Files.{price_list_fits, price_list_of}
use Rattle.pricing.specs.Journeys.{journey_limit, journeys_fit, journeys_of}
use Rattle.ranking.specs.Ranking.{Ranking}
use Rattle.ranking.specs.Results.{goes_with, rank_result}

-- the sheet links the word to a price word of this fare
abbrev pub PricedAt : List Equation → List Price → Word → ℕ → Type 0
PricedAt es ps w f = (k : ℕ) × (k < length ps) × Linked (OfSheet es) w (price_at ps k).word × ((price_at ps k).fare ≡ f)

-- the sheet links the price word k to an earlier one of another fare
abbrev pub Clashes : List Equation → List Price → ℕ → Type 0
Clashes es ps k = (j : ℕ) × (j < k) × Linked (OfSheet es) (price_at ps k).word (price_at ps j).word × ((price_at ps k).fare ≡ (price_at ps j).fare → ⊥)

abbrev pub journey_at : List Word → ℕ → Word
journey_at ws k = get_or ws k []

-- the ranking r of the journeys ws, by what the sheet links
pub record Ranks (es : List Equation) (ps : List Price) (ws : List Word) (r : Ranking) : Type 0 where
  -- no word is priced at two fares
  pub single : (w : Word) (f g : ℕ) → PricedAt es ps w f → PricedAt es ps w g → f ≡ g
  -- the priced ones are the journeys linked to a price word, and the unpriced ones those linked to none
  pub priced : (k : ℕ) → Memᴰ k r.priced ↔ ((k < length ws) × ((f : ℕ) × PricedAt es ps (journey_at ws k) f))
  pub unpriced : (k : ℕ) → Memᴰ k r.unpriced ↔ ((k < length ws) × ((f : ℕ) → PricedAt es ps (journey_at ws k) f → ⊥))
  -- by rising fare, equal fares in the order given; the unpriced ones in that order
  pub rising : (i j f g : ℕ) → i < j → j < length r.priced → PricedAt es ps (journey_at ws (get_or r.priced i 0)) f
      → PricedAt es ps (journey_at ws (get_or r.priced j 0)) g → (f < g) ⊎ ((f ≡ g) × (get_or r.priced i 0 < get_or r.priced j 0))
  pub in_order : (i j : ℕ) → i < j → j < length r.unpriced → get_or r.unpriced i 0 < get_or r.unpriced j 0

-- nothing before 17 is refused: outputs, files and journeys fit, and every price word has its normal word within the limits
pub record UpToFares (table prices letters lengths : List ℕ) (allowance room space : ℕ) : Type 0 where
  pub first : journey_limit ≤ room
  pub second : journey_limit ≤ space
  pub is_table : table_fits table ≡ true
  pub is_price_list : price_list_fits prices ≡ true
  pub are_journeys : journeys_fit letters lengths ≡ true
  pub agree : goes_with (table_of table) (price_list_of prices) ≡ true
  pub words : (k : ℕ) → k < length (price_list_of prices).prices
      → (z : Counted) × (normal_of (rules_of (table_of table).lines) allowance (price_at (price_list_of prices).prices k).word ≡ answered z)

pub record RankMeans (sheet table : List ℕ) : Type 0 where
  -- what an answer means
  pub answers : (prices letters lengths : List ℕ) (allowance room space : ℕ) (r : Ranking) → rank_result table prices letters lengths allowance room space ≡ answered r
      → Ranks (sheet_of sheet).equations (price_list_of prices).prices (journeys_of letters lengths) r
  -- and a refusal 17
  pub clashes : (prices letters lengths : List ℕ) (allowance room space k : ℕ) → UpToFares table prices letters lengths allowance room space
      → (rank_result table prices letters lengths allowance room space ≡ refused 17 k)
      ↔ ((k < length (price_list_of prices).prices) × Clashes (sheet_of sheet).equations (price_list_of prices).prices k
      × ((i : ℕ) → i < k → Clashes (sheet_of sheet).equations (price_list_of prices).prices i → ⊥))

-- the promise of the ranking call: over accepted tables it means this
abbrev pub RankingMeans : Type 0
RankingMeans = (sheet table : List ℕ) → check_result sheet table ≡ met → RankMeans sheet table

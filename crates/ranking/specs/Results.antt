-- The call. Both outputs have 64 bytes, or 3; the table, the price file and the journeys are in order, or 1; the price file has the table's order and
-- letters, or 2; then come the price words, 17, and the journeys.
use Rattle.std.specs.Prelude.{ℕ, List, Bool, cond, ◌&&◌, eqb}
use Rattle.words.specs.Refusal.{Result, answered, refused, on_answer}
use Rattle.words.specs.Output.{on_room}
use Rattle.buffers.specs.Written.{written}
use Rattle.rewriting.specs.Sheet.{Table, rules_of}
use Rattle.layout.specs.Tables.{on_table}
use Rattle.prices.specs.Price.{PriceList}
use Rattle.prices.specs.Files.{on_price_list}
use Rattle.pricing.specs.Journeys.{journey_limit, journeys_fit, journeys_of, journey_fares}
use Rattle.ranking.specs.Ranking.{Ranking, ranking_of}

-- the price file goes with the table
unfoldable pub goes_with : Table → PriceList → Bool
goes_with t l = eqb t.order.code l.order.code && eqb t.letters l.letters

-- journeys ranked by a table and a price list
unfoldable pub ranked_by : Table → PriceList → List ℕ → List ℕ → ℕ → Result Ranking
ranked_by t l letters lengths allowance =
    on_answer (journey_fares t.letters (rules_of t.lines) allowance l.prices (journeys_of letters lengths)) (λ fs. answered (ranking_of fs))

-- table, price file, journeys as letters and lengths, allowance, sizes of the two outputs
unfoldable pub rank_result : List ℕ → List ℕ → List ℕ → List ℕ → ℕ → ℕ → ℕ → Result Ranking
rank_result table prices letters lengths allowance room space =
    on_room journey_limit room (on_room journey_limit space (on_table table (λ t. on_price_list prices (λ l.
    cond (journeys_fit letters lengths)
    (cond (goes_with t l) (ranked_by t l letters lengths allowance) (refused 2 0))
    (refused 1 0)))))

-- the places go to the start of each output, and on a refusal nothing does
abbrev pub priced_output : Result Ranking → List ℕ → List ℕ
priced_output (answered r) out = written out 0 r.priced
priced_output (refused n p) out = out

abbrev pub unpriced_output : Result Ranking → List ℕ → List ℕ
unpriced_output (answered r) out = written out 0 r.unpriced
unpriced_output (refused n p) out = out

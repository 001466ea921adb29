-- What the public calls promise: the answer by its values, and every byte of the output.
use Rattle.std.specs.Prelude.{ℕ, ◌≡◌, List, length, Option, None, Some}
use Rattle.std.specs.Prelude.{Result as Outcome}
use Rattle.words.specs.Word.{Word}
use Rattle.words.specs.Refusal.{Result, answered, on_answer}
use Rattle.words.specs.Answer.{result_as}
use Rattle.words.specs.Output.{on_room}
use Rattle.words.specs.declared.refusals.Refusal.{Refusal}
use Rattle.rewriting.specs.Normal.{Counted}
use Rattle.layout.specs.Header.{header_of}
use Rattle.layout.specs.Tables.{on_table}
use Rattle.layout.specs.declared.Header.{Header}
use Rattle.queries.specs.Queries.{on_query, counted_output}
use Rattle.queries.specs.Pair.{PairFound, no_pair, pair_at, pair_output}
use Rattle.queries.specs.declared.Reached.{Reached}
use Rattle.queries.specs.declared.Lengths.{Lengths}

-- the header of a table that is asked about a word: table, word, size of the output
unfoldable pub query_header : List ℕ → Word → ℕ → Result Header
query_header table w room = on_room 128 room (on_table table (λ t. on_query t w (answered (header_of table))))

-- an answer with a word gives its length and its count
abbrev pub reduced_as : Outcome Reached Refusal → Result Reached
reduced_as = result_as (λ (a : Reached). a)

abbrev pub given_with : Result Counted → Result Reached
given_with x = on_answer x (λ c. answered (record { length = length c.word; count = c.count }))

-- the call with the result x made b of the output d
pub record WordCalled (x : Result Counted) (d b : List ℕ) (r : Outcome Reached Refusal) : Type 0 where
  pub answer : reduced_as r ≡ given_with x
  pub output : b ≡ counted_output x d

-- what the pair call tells: no pair, or the lengths of the peak and of its two reducts
pub data PairTold : Type 0 where
  none_told : PairTold
  lengths_told : ℕ → ℕ → ℕ → PairTold

abbrev pub lengths_as : Option Lengths → PairTold
lengths_as None = none_told
lengths_as (Some l) = lengths_told l.peak l.first l.second

abbrev pub paired_as : Outcome (Option Lengths) Refusal → Result PairTold
paired_as = result_as lengths_as

abbrev pub told : PairFound → PairTold
told no_pair = none_told
told (pair_at w r) = lengths_told (length w) (length r.first) (length r.second)

-- the pair call with the result x made b of the output d
pub record PairCalled (x : Result PairFound) (d b : List ℕ) (r : Outcome (Option Lengths) Refusal) : Type 0 where
  pub answer : paired_as r ≡ on_answer x (λ f. answered (told f))
  pub output : b ≡ pair_output x d

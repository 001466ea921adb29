-- The public call of the listing. Specification, "Refusals": a call with an output tries 3 first, then 1; an output is written only on success.
use Rattle.std.specs.Prelude.{ℕ, ◌≡◌, List, length}
use Rattle.std.specs.Prelude.{Result as Outcome}
use Rattle.words.specs.Refusal.{Result, answered, on_answer}
use Rattle.words.specs.Answer.{result_as}
use Rattle.words.specs.declared.refusals.Refusal.{Refusal}
use Rattle.words.specs.Output.{result_output, on_room}
use Rattle.layout.specs.Tables.{on_table}
use Rattle.listing.specs.Room.{text_room}
use Rattle.listing.specs.Text.{table_text}

-- table, size of the output
unfoldable pub list_result : List ℕ → ℕ → Result (List ℕ)
list_result table room = on_room text_room room (on_table table (λ t. answered (table_text t.lines)))

-- the length of the text, or the refusal
abbrev pub listed_as : Outcome ℕ Refusal → Result ℕ
listed_as = result_as (λ k. k)

-- the call with the result x makes b of the output
pub record ListCalled (x : Result (List ℕ)) (out b : List ℕ) (r : Outcome ℕ Refusal) : Type 0 where
  pub answer : listed_as r ≡ on_answer x (λ text. answered (length text))
  pub output : b ≡ result_output x out

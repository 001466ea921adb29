-- What the answers of the functions here mean, in the words of the definitions.
use Rattle.std.specs.Prelude.{ℕ, ◌≡◌, Bool, false, cond, List, Option, None, Some, Ok}
use Rattle.std.specs.Prelude.{Result as Outcome}
use Rattle.words.specs.Word.{Word}
use Rattle.words.specs.Refusal.{Result, answered}
use Rattle.words.specs.Answer.{result_as}
use Rattle.words.specs.declared.refusals.Refusal.{Refusal}
use Rattle.rewriting.specs.Search.{Choice, none, takes, Due, nothing, due}
use Rattle.rewriting.specs.Found.{or_earlier}
use Rattle.rewriting.specs.declared.Found.{Found}
use Rattle.rewriting.specs.Normal.{Counted, WordTurn, on_word_turn}
use Rattle.layout.specs.Slices.{stands_by, rule_by, line_left}
use Rattle.reducing.specs.declared.Normal.{Normal}

abbrev pub chosen_as : List ℕ → List ℕ → Option ℕ → Choice
chosen_as recs words None = none
chosen_as recs words (Some j) = takes (rule_by recs words j)

-- what is found with line j too, if it stands
abbrev pub with_line : List ℕ → List ℕ → ℕ → List ℕ → Option Found → Option Found
with_line recs words j w f = cond (stands_by recs j) (or_earlier f j (line_left recs words j) w) f

abbrev pub due_as : List ℕ → List ℕ → Option Found → Due
due_as recs words None = nothing
due_as recs words (Some f) = due f.place (rule_by recs words f.line)

-- a turn's answer: the new word, or none where the word is irreducible
abbrev pub turn_result : WordTurn → Result (Option Word)
turn_result x = on_word_turn x (answered None) (λ w. answered (Some w))

-- the same of a turn that was made, with the word that it left
abbrev pub word_turn_as : Outcome Bool Refusal → Word → Result (Option Word)
word_turn_as r v = result_as (λ (made : Bool). cond made (Some v) None) r

-- the word w becomes v by the turn; one that is irreducible stays
pub record WordTurnMade (x : WordTurn) (r : Outcome Bool Refusal) (w v : Word) : Type 0 where
  pub told : word_turn_as r v ≡ turn_result x
  pub keeps : r ≡ Ok false → v ≡ w

-- the count of the replacements that led to the normal word v, with that word
abbrev pub reached_as : Outcome ℕ Refusal → Word → Result Counted
reached_as r v = result_as (λ (k : ℕ). record { word = v; count = k }) r

-- a normal word with its count
abbrev pub counted_as : Outcome Normal Refusal → Result Counted
counted_as = result_as (λ (a : Normal). record { word = a.word; count = a.count })

abbrev pub fares_as : Outcome Bool Refusal → Result Bool
fares_as = result_as (λ (same : Bool). same)

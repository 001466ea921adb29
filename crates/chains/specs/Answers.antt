-- What the answers of the functions here mean: a verdict, met or a refusal with its number and place; and where a chain has come to.
use Rattle.std.specs.Prelude.{ℕ, ◌-◌, List, [], Bool, true, false, cond, ltb}
use Rattle.std.specs.Prelude.{Result as Outcome}
use Rattle.words.specs.Word.{Word}
use Rattle.layout.specs.Slices.{equation_left, equation_right, line_left, line_right}
use Rattle.rewriting.specs.Sheet.{Equation, Line, line_at}
use Rattle.rewriting.specs.Steps.{astray, to, exchange, chain_holds}
use Rattle.rewriting.specs.Steps as steps
use Rattle.words.specs.Answer.{result_as}
use Rattle.words.specs.declared.refusals.Refusal.{Refusal}
use Rattle.chains.specs.Verdict.{Verdict}

-- a condition's answer: it is met, or refuses
abbrev pub verdict_as : Outcome (Unit {0}) Refusal → Verdict
verdict_as = result_as (λ u. u)

-- where a chain has come to: the word, if every step could be taken
abbrev pub led_as : Bool → Word → steps.Led
led_as true w = to w
led_as false w = astray

-- the named side replaced by the other
abbrev pub by_sides : Word → Word → Bool → ℕ → Word → steps.Led
by_sides left right back p w = cond back (exchange right left p w) (exchange left right p w)

-- one step, from the slices of a sheet and a table: the sides that its reference names
abbrev pub step_by : List ℕ → List ℕ → ℕ → List ℕ → List ℕ → ℕ → ℕ → Bool → ℕ → Word → steps.Led
step_by erecs ewords e recs words n reference back p w =
    cond (ltb reference e)
    (by_sides (equation_left erecs ewords reference) (equation_right erecs ewords reference) back p w)
    (cond (ltb (reference - e) n)
    (by_sides (line_left recs words (reference - e)) (line_right recs words (reference - e)) back p w)
    (by_sides [] [] back p w))

-- the chain of line j holds
unfoldable pub chain_of : List Equation → List Line → ℕ → Bool
chain_of es ts j = chain_holds es ts (line_at ts j)

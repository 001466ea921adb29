-- Inner: no public promise uses the names of this file.
-- The state of a completion in its work buffer, by the numbers that say how much of each area is in use. The waiting entries go round in a ring, as
-- the place of one that is taken is free again.
use Rattle.std.specs.Prelude.{ℕ, zero, suc, ◌+◌, ◌*◌, ◌%◌, ◌≤◌, ◌<◌, ◌≡◌, List, [], ◌∷◌, length, get_or, take, drop, Option, None, Some, Ok, Err}
use Rattle.std.specs.Prelude.{Result as Outcome}
use Rattle.std.proofs.Props.{props}
use Rattle.layout.specs.Header.{table_width, step_width}
use Rattle.words.specs.Refusal.{Result}
use Rattle.words.specs.Answer.{result_as}
use Rattle.words.specs.declared.refusals.Refusal.{Refusal}
use Rattle.rewriting.specs.Sheet.{Step}
use Rattle.buffers.specs.Written.{written}
use Rattle.layout.specs.Tables.{read_steps}
use Rattle.layout.specs.Slices.{Inside, steps_from, list_from, lines_in}
use Rattle.layout.specs.Lent.{inside_prop}
use Rattle.writing.specs.Writing.{steps_bytes}
use Rattle.workspace.specs.Areas.{work_room, most_lines, most_steps, most_waiting, steps_start, record_area, step_area, letter_area, ring_area}
use Rattle.workspace.specs.Waiting.{State}
use Rattle.workspace.specs.declared.Entry.{Entry}
use Rattle.workspace.specs.declared.Entry.TheVariants.{OfEquation, OfDeleted, OfOverlap}
use Rattle.workspace.specs.declared.Nums.{Nums}

-- an entry as bytes, and the entry whose bytes start at the byte p
unfoldable pub entry_bytes : Entry → List ℕ
entry_bytes (OfEquation k) = 0 ∷ k ∷ 0 ∷ 0 ∷ []
entry_bytes (OfDeleted j) = 1 ∷ j ∷ 0 ∷ 0 ∷ []
entry_bytes (OfOverlap o) = 2 ∷ o.n ∷ o.m ∷ o.place ∷ []

abbrev pub entry_by : ℕ → ℕ → ℕ → ℕ → Entry
entry_by zero a b c = OfEquation a
entry_by (suc zero) a b c = OfDeleted a
entry_by (suc (suc k)) a b c = OfOverlap (record { n = a; m = b; place = c })

unfoldable pub entry_at : List ℕ → ℕ → Entry
entry_at s p = entry_by (get_or s p 0) (get_or s (p + 1) 0) (get_or s (p + 2) 0) (get_or s (p + 3) 0)

-- the entry with the number k, counted round the ring
unfoldable pub waiting_at : List ℕ → ℕ → Entry
waiting_at ring k = entry_at ring (4 * (k % most_waiting))

unfoldable pub state_of : List ℕ → Nums → State
state_of w n = record {
  lines = lines_in (record_area w) (step_area w) (letter_area w) n.lines;
  waiting = list_from (waiting_at (ring_area w)) n.head n.count;
}

-- the buffer with these steps from the step of number at on
unfoldable pub noted : List ℕ → ℕ → List Step → List ℕ
noted w at ss = written w (steps_start + step_width * at) (steps_bytes ss)

-- the k steps from the step of number at on
abbrev pub steps_noted : List ℕ → ℕ → ℕ → List Step
steps_noted w at k = read_steps k (drop (step_width * at) (step_area w))

-- the numbers fit the buffer: what every desk has
pub record Good (w : List ℕ) (n : Nums) : Type 0 where
  pub long : work_room ≤ length w
  pub lines : n.lines ≤ most_lines
  pub letters : n.letters ≤ 64 * n.lines
  pub steps : n.steps ≤ most_steps
  pub made : n.steps ≡ steps_from (record_area w) 0 n.lines
  pub head : n.head < most_waiting
  pub count : n.count ≤ most_waiting
  pub inside : Inside table_width (record_area w) (take n.letters (letter_area w)) n.lines

-- that numbers fit a buffer is one fact: there is at most one proof of it, so a type can carry it
pub good_prop : (w : List ℕ) (n : Nums) → IsProp (Good w n)
good_prop w n = hlevel (props, inside_prop)

-- an answer and the buffer at exit, read together
abbrev pub pushed_as : Outcome Nums Refusal → List ℕ → Result State
pushed_as r w = result_as (state_of w) r

abbrev pub PushedGood : Outcome Nums Refusal → List ℕ → Type 0
PushedGood (Ok n) w = Good w n
PushedGood (Err f) w = Unit {0}

abbrev pub PushedLines : Outcome Nums Refusal → ℕ → Type 0
PushedLines (Ok n) k = n.lines ≡ k
PushedLines (Err f) k = Unit {0}

abbrev pub PushedSteps : Outcome Nums Refusal → ℕ → Type 0
PushedSteps (Ok n) k = n.steps ≡ k
PushedSteps (Err f) k = Unit {0}

-- the buffer w becomes v, with so many lines and steps, and what stands there is the state d, or the refusal. The steps are as they were, and so
-- are the buffer's length and what lies behind the state
pub record Does (w : List ℕ) (lines steps : ℕ) (v : List ℕ) (r : Outcome Nums Refusal) (d : Result State) : Type 0 where
  pub told : pushed_as r v ≡ d
  pub good : PushedGood r v
  pub many : PushedLines r lines
  pub made : PushedSteps r steps
  pub same : step_area v ≡ step_area w
  pub size : length v ≡ length w
  pub past : drop work_room v ≡ drop work_room w

-- the state before the oldest entry was taken
abbrev pub before_taking : Option (Entry × Nums) → List ℕ → Nums → State
before_taking None w n = record { lines = (state_of w n).lines; waiting = [] }
before_taking (Some (e, m)) w n = record { lines = (state_of w m).lines; waiting = e ∷ (state_of w m).waiting }

abbrev pub PoppedGood : Option (Entry × Nums) → List ℕ → Type 0
PoppedGood None w = Unit {0}
PoppedGood (Some (e, m)) w = Good w m

pub record Takes (w : List ℕ) (n : Nums) (r : Option (Entry × Nums)) : Type 0 where
  pub told : before_taking r w n ≡ state_of w n
  pub good : PoppedGood r w

-- Inner: no public promise uses the names of this file.
-- A table as three slices: records, steps and words, whether they lie in a judged file or in completion's work buffer. A line's letters are found
-- by the offset that its record stores, its steps behind those of the lines before it.
use Rattle.std.specs.Prelude.{ℕ, zero, suc, ◌+◌, ◌*◌, ◌≤◌, ◌<◌, List, [], ◌∷◌, Bool, cond, eqb, length, get_or, take, drop}
use Rattle.words.specs.Word.{Word}
use Rattle.rewriting.specs.Search.{Rule}
use Rattle.rewriting.specs.Sheet.{side_limit, Equation, Step, Line}
use Rattle.buffers.specs.Bytes.{u16_at}
use Rattle.layout.specs.Header.{sheet_width, table_width, step_width}
use Rattle.layout.specs.Tables.{step_of, read_steps}

-- the n bytes from a on
abbrev pub part : ℕ → ℕ → List ℕ → List ℕ
part a n s = take n (drop a s)

-- the two sides of the record that starts at the byte p
unfoldable pub left_at : List ℕ → List ℕ → ℕ → Word
left_at recs words p = part (u16_at recs p) (get_or recs (p + 2) 0) words

unfoldable pub right_at : List ℕ → List ℕ → ℕ → Word
right_at recs words p = part (u16_at recs p + get_or recs (p + 2) 0) (get_or recs (p + 3) 0) words

-- the record of this width at the byte p is there, its sides have at most 32 letters, and its letters lie inside the words
pub record Placed (width : ℕ) (recs words : List ℕ) (p : ℕ) : Type 0 where
  pub there : p + width ≤ length recs
  pub left : get_or recs (p + 2) 0 ≤ side_limit
  pub right : get_or recs (p + 3) 0 ≤ side_limit
  pub inside : u16_at recs p + get_or recs (p + 2) 0 + get_or recs (p + 3) 0 ≤ length words

-- so are the first n records: what every function on slices asks, and what a good verdict gives
unfoldable pub Inside : ℕ → List ℕ → List ℕ → ℕ → Type 0
Inside width recs words n = (j : ℕ) → j < n → Placed width recs words (width * j)

-- the sides of equation j, and of line j
abbrev pub equation_left : List ℕ → List ℕ → ℕ → Word
equation_left recs words j = left_at recs words (sheet_width * j)

abbrev pub equation_right : List ℕ → List ℕ → ℕ → Word
equation_right recs words j = right_at recs words (sheet_width * j)

abbrev pub line_left : List ℕ → List ℕ → ℕ → Word
line_left recs words j = left_at recs words (table_width * j)

abbrev pub line_right : List ℕ → List ℕ → ℕ → Word
line_right recs words j = right_at recs words (table_width * j)

-- the lengths of line j's sides and its number of steps, as its record stores them
abbrev pub left_length_by : List ℕ → ℕ → ℕ
left_length_by recs j = get_or recs (table_width * j + 2) 0

abbrev pub right_length_by : List ℕ → ℕ → ℕ
right_length_by recs j = get_or recs (table_width * j + 3) 0

abbrev pub steps_by : List ℕ → ℕ → ℕ
steps_by recs j = u16_at recs (table_width * j + 4)

-- line j stands
unfoldable pub stands_by : List ℕ → ℕ → Bool
stands_by recs j = eqb (get_or recs (table_width * j + 6) 0) 1

-- step i of all
abbrev pub step_in : List ℕ → ℕ → Step
step_in steps i = step_of (drop (step_width * i) steps)

-- the number of steps of the j lines from line k on
unfoldable pub steps_from : List ℕ → ℕ → ℕ → ℕ
steps_from recs k zero = 0
steps_from recs k (suc j) = steps_by recs k + steps_from recs (k + 1) j

unfoldable pub lineage_at : List ℕ → List ℕ → ℕ → List Step
lineage_at recs steps j = read_steps (steps_by recs j) (drop (step_width * steps_from recs 0 j) steps)

unfoldable pub line_in : List ℕ → List ℕ → List ℕ → ℕ → Line
line_in recs steps words j = record {
  left = line_left recs words j;
  right = line_right recs words j;
  steps = lineage_at recs steps j;
  stands = stands_by recs j;
}

-- what a function gives for the n numbers from k on
unfoldable pub list_from : {A : Type 0} → (ℕ → A) → ℕ → ℕ → List A
list_from f k zero = []
list_from f k (suc n) = f k ∷ list_from f (k + 1) n

-- the first n lines
unfoldable pub lines_in : List ℕ → List ℕ → List ℕ → ℕ → List Line
lines_in recs steps words n = list_from (line_in recs steps words) 0 n

-- line j as a rule; no steps are needed
abbrev pub rule_by : List ℕ → List ℕ → ℕ → Rule
rule_by recs words j = record { line = j; left = line_left recs words j; right = line_right recs words j }

-- the standing ones of the n lines from line k on, as rules
unfoldable pub rules_in : List ℕ → List ℕ → ℕ → ℕ → List Rule
rules_in recs words k zero = []
rules_in recs words k (suc n) =
    cond (stands_by recs k) (rule_by recs words k ∷ rules_in recs words (k + 1) n) (rules_in recs words (k + 1) n)

-- a sheet's equations from its two slices
unfoldable pub equation_in : List ℕ → List ℕ → ℕ → Equation
equation_in recs words j = record { left = equation_left recs words j; right = equation_right recs words j }

unfoldable pub equations_in : List ℕ → List ℕ → ℕ → List Equation
equations_in recs words n = list_from (equation_in recs words) 0 n

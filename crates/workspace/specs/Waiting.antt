-- The state of a completion. Specification, "Completion": lines get their numbers as they are made, and each stands until it is deleted; an entry
-- names an equation, a deleted line or an overlap; at first every equation waits, in the sheet's order.
use Rattle.std.specs.Prelude.{ℕ, zero, suc, ◌+◌, List, [], ◌∷◌, ◌++◌, true, false, cond, ltb, length, set}
use Rattle.words.specs.Refusal.{Result, answered, refused}
use Rattle.words.specs.Word.{Word}
use Rattle.rewriting.specs.Pairs.{Reducts, reducts_of}
use Rattle.rewriting.specs.Sheet.{Equation, equation_at, Sheet, Step, Line, line_at}
use Rattle.workspace.specs.Areas.{most_waiting}
use Rattle.workspace.specs.declared.Entry.{Entry}
use Rattle.workspace.specs.declared.Entry.TheVariants.{OfEquation, OfDeleted, OfOverlap}

-- the lines made so far, and the waiting entries, oldest first
pub record State : Type 0 where
  pub lines : List Line
  pub waiting : List Entry

-- n equations from number k on
abbrev pub equations_from : ℕ → ℕ → List Entry
equations_from k zero = []
equations_from k (suc n) = OfEquation k ∷ equations_from (k + 1) n

unfoldable pub start_state : Sheet → State
start_state s = record { lines = []; waiting = equations_from 0 (length s.equations) }

-- an entry's two words: the sides of its equation or line, or the first and the second reduct of its overlap
unfoldable pub two_words : List Equation → List Line → Entry → Reducts
two_words es ts (OfEquation k) = record { first = (equation_at es k).left; second = (equation_at es k).right }
two_words es ts (OfDeleted j) = record { first = (line_at ts j).left; second = (line_at ts j).right }
two_words es ts (OfOverlap o) =
    reducts_of o.place (line_at ts o.n).left (line_at ts o.n).right (line_at ts o.m).left (line_at ts o.m).right

-- an entry more than may wait is refusal 10
unfoldable pub append : Entry → State → Result State
append e d = cond (ltb (length d.waiting) most_waiting) (answered (record { lines = d.lines; waiting = d.waiting ++ (e ∷ []) })) (refused 10 0)

-- a line deleted: it keeps its words and its steps
abbrev pub fallen : Line → Line
fallen t = record { left = t.left; right = t.right; steps = t.steps; stands = false }

unfoldable pub strike : ℕ → State → State
strike j d = record { lines = set d.lines j (fallen (line_at d.lines j)); waiting = d.waiting }

-- a line that is made: it stands
abbrev pub new_line : Word → Word → List Step → Line
new_line left right steps = record { left = left; right = right; steps = steps; stands = true }

-- one more line
abbrev pub with_line : Line → State → State
with_line t d = record { lines = d.lines ++ (t ∷ []); waiting = d.waiting }

-- Sheets and tables, as what their files stand for. Specification, "Sheets and tables": equations; numbered lines, each with
-- its lineage; and the rules of a table, which are its standing lines.
use Rattle.std.specs.Prelude.{ℕ, ◌+◌, List, [], ◌∷◌, Bool, false, cond, get_or}
use Rattle.words.specs.Word.{Word}
use Rattle.words.specs.declared.Order.{Order}
use Rattle.rewriting.specs.Search.{Rule}

-- the most letters of a side, in an equation or in a line
abbrev pub side_limit : ℕ
side_limit = 32

pub record Equation : Type 0 where
  pub left : Word
  pub right : Word

pub record Sheet : Type 0 where
  pub order : Order
  pub letters : ℕ
  pub equations : List Equation

-- a step of a lineage: an equation's number, or the equation count plus an earlier line's number; forward or back; its position
pub record Step : Type 0 where
  pub reference : ℕ
  pub back : Bool
  pub place : ℕ

pub record Line : Type 0 where
  pub left : Word
  pub right : Word
  pub steps : List Step
  pub stands : Bool

-- a table, with the number of equations that its steps cite
pub record Table : Type 0 where
  pub order : Order
  pub letters : ℕ
  pub cited : ℕ
  pub lines : List Line

-- what stands where there is no such line, and it does not stand; where there is no such equation
abbrev pub no_line : Line
no_line = record { left = []; right = []; steps = []; stands = false }

abbrev pub no_equation : Equation
no_equation = record { left = []; right = [] }

abbrev pub line_at : List Line → ℕ → Line
line_at ts n = get_or ts n no_line

abbrev pub equation_at : List Equation → ℕ → Equation
equation_at es k = get_or es k no_equation

-- the standing ones of the lines from number k on, as rules
unfoldable pub rules_from : ℕ → List Line → List Rule
rules_from k [] = []
rules_from k (t ∷ ts) = cond t.stands (record { line = k; left = t.left; right = t.right } ∷ rules_from (k + 1) ts) (rules_from (k + 1) ts)

unfoldable pub rules_of : List Line → List Rule
rules_of ts = rules_from 0 ts

-- The check's six conditions as plain statements about words, lines and equations. Specification, "The check": "a table is accepted for a sheet if six
-- conditions hold", tried in this order. And what the check promises: each part of its verdict is met exactly if its condition holds, and it accepts
-- two files exactly if all six do.
use Rattle.std.specs.Prelude.{ℕ, ◌<◌, ◌≡◌, ◌↔◌, true, List, length}
use Rattle.words.specs.Word.{Word}
use Rattle.words.specs.Order.{Below, order_by}
use Rattle.words.specs.Refusal.{answered}
use Rattle.words.specs.declared.Order.{Order}
use Rattle.rewriting.specs.Normal.{normal_of, own_allowance}
use Rattle.rewriting.specs.Pairs.{is_pair, reducts_of}
use Rattle.rewriting.specs.Sheet.{Equation, equation_at, Sheet, Line, line_at, Table, rules_of}
use Rattle.rewriting.specs.Steps.{to, leads}
use Rattle.rewriting.specs.Links.{between, StandingLine}
use Rattle.layout.specs.Sheets.{sheet_fits, sheet_of}
use Rattle.layout.specs.Tables.{table_fits, table_of}
use Rattle.chains.specs.Verdict.{met}
use Rattle.chains.specs.Chains.{chain_verdict, direction_verdict}
use Rattle.checking.specs.Reduced.{reduced_verdict}
use Rattle.checking.specs.OneNormal.{equations_verdict, pairs_verdict}
use Rattle.checking.specs.Check.{headers_agree, check_result}

-- 1: both files are in the layout
pub record InLayout (sheet table : List ℕ) : Type 0 where
  pub is_sheet : sheet_fits sheet ≡ true
  pub is_table : table_fits table ≡ true

-- 2: one order and one number of letters, and the table cites as many equations as the sheet has
pub record SameHeaders (s : Sheet) (t : Table) : Type 0 where
  pub order : s.order.code ≡ t.order.code
  pub letters : s.letters ≡ t.letters
  pub equations : length s.equations ≡ t.cited

-- 3: each line's lineage leads from its left to its right word, with no word over 128 letters
abbrev pub LineagesLead : List Equation → List Line → Type 0
LineagesLead es ts = (j : ℕ) → j < length ts → leads es ts (line_at ts j).steps (line_at ts j).left ≡ to (line_at ts j).right

-- and each line's right word is less than its left word
abbrev pub LinesGoDown : Order → List Line → Type 0
LinesGoDown o ts = (j : ℕ) → j < length ts → Below (order_by o) (line_at ts j).right (line_at ts j).left

-- 4: where a standing line's left word has a standing line's left word in it, they are one line
abbrev pub LinesReduced : List Line → Type 0
LinesReduced ts = (n m : ℕ) (left right within other x y : Word)
    → StandingLine ts n left right → StandingLine ts m within other → left ≡ between x y within → n ≡ m

-- two words have the same normal word by the standing lines, each found within the check's own allowance and 128 letters
pub record ShareNormal (ts : List Line) (u v : Word) : Type 0 where
  pub normal : Word
  pub first_count : ℕ
  pub second_count : ℕ
  pub first : normal_of (rules_of ts) own_allowance u ≡ answered (record { word = normal; count = first_count })
  pub second : normal_of (rules_of ts) own_allowance v ≡ answered (record { word = normal; count = second_count })

-- 5: both sides of each equation have the same normal word
abbrev pub SidesShare : List Equation → List Line → Type 0
SidesShare es ts = (k : ℕ) → k < length es → ShareNormal ts (equation_at es k).left (equation_at es k).right

-- 6: both reducts of each critical pair of standing lines have the same normal word
abbrev pub ReductsShare : List Line → Type 0
ReductsShare ts = (n m k : ℕ) (left right laid other : Word)
    → StandingLine ts n left right → StandingLine ts m laid other → is_pair n m k left laid ≡ true
    → ShareNormal ts (reducts_of k left right laid other).first (reducts_of k left right laid other).second

-- conditions 3 to 6, of the lines of a table in this order, for the equations
pub record LinesMeet (o : Order) (es : List Equation) (ts : List Line) : Type 0 where
  pub lineages : LineagesLead es ts
  pub directions : LinesGoDown o ts
  pub reduced : LinesReduced ts
  pub equations : SidesShare es ts
  pub pairs : ReductsShare ts

-- all six, of two files
pub record SixConditions (sheet table : List ℕ) : Type 0 where
  pub layout : InLayout sheet table
  pub headers : SameHeaders (sheet_of sheet) (table_of table)
  pub lines : LinesMeet (table_of table).order (sheet_of sheet).equations (table_of table).lines

-- each part of the verdict is met exactly if its condition holds
pub record PartsExactly : Type 0 where
  pub headers : (s : Sheet) (t : Table) → (headers_agree s t ≡ true) ↔ SameHeaders s t
  pub lineages : (es : List Equation) (ts : List Line) → (chain_verdict es ts ≡ met) ↔ LineagesLead es ts
  pub directions : (o : Order) (ts : List Line) → (direction_verdict o ts ≡ met) ↔ LinesGoDown o ts
  pub reduced : (ts : List Line) → (reduced_verdict ts ≡ met) ↔ LinesReduced ts
  pub equations : (es : List Equation) (ts : List Line) → (equations_verdict (rules_of ts) es ≡ met) ↔ SidesShare es ts
  pub pairs : (ts : List Line) → (pairs_verdict (rules_of ts) ts ≡ met) ↔ ReductsShare ts

-- the check accepts two files exactly if the six conditions hold of them
abbrev pub AcceptsExactly : Type 0
AcceptsExactly = (sheet table : List ℕ) → (check_result sheet table ≡ met) ↔ SixConditions sheet table

-- What an accepted table means: the reason the product exists. Specification, "Acceptance": if the check accepts a table for a sheet, two words of any
-- length have the same normal word exactly if the sheet links them, by a chain of its equations through words of any length; and the yes-or-no
-- call says exactly that of all words that it answers. Normal words here have neither allowance nor bound on letters, and every word has one.
use Rattle.std.specs.Prelude.{ℕ, ◌≡◌, ◌↔◌, List, Bool, true}
use Rattle.words.specs.Word.{Word}
use Rattle.words.specs.Refusal.{answered}
use Rattle.rewriting.specs.Normal.{Runs}
use Rattle.rewriting.specs.Links.{Linked, OfSheet}
use Rattle.rewriting.specs.RightFor.{Decides}
use Rattle.rewriting.specs.Sheet.{rules_of}
use Rattle.layout.specs.Sheets.{sheet_fits, sheet_of}
use Rattle.layout.specs.Tables.{table_fits, table_of}
use Rattle.queries.specs.Queries.{same_result}
use Rattle.chains.specs.Verdict.{met}
use Rattle.checking.specs.Check.{check_result}

pub record SameFare (sheet table : List ℕ) : Type 0 where
  -- every word has one normal word, however it is reached, and two words have the same one exactly if the sheet links them
  pub decides : Decides (sheet_of sheet).equations (table_of table).lines
  -- the replacements due lead from every word to an irreducible one, in so many turns
  pub reached : (u : Word) → (z : Word) × (c : ℕ) × Runs (rules_of (table_of table).lines) u z c
  -- and from two words to the same one exactly if the sheet links them
  pub exactly : {u v z y : Word} {c d : ℕ} → Runs (rules_of (table_of table).lines) u z c → Runs (rules_of (table_of table).lines) v y d
      → (z ≡ y) ↔ Linked (OfSheet (sheet_of sheet).equations) u v
  -- the yes-or-no call says exactly that, whenever it answers
  pub answers : (u v : Word) (allowance : ℕ) (yes : Bool) → same_result table u v allowance ≡ answered yes
      → (yes ≡ true) ↔ Linked (OfSheet (sheet_of sheet).equations) u v

-- the promise of the check: acceptance means this
abbrev pub AcceptanceMeans : Type 0
AcceptanceMeans = (sheet table : List ℕ) → check_result sheet table ≡ met → SameFare sheet table

-- a sheet and a table that a check which always accepts would accept, and for which it would mean something false
pub record WronglyAccepted (sheet table : List ℕ) : Type 0 where
  pub sheet_good : sheet_fits sheet ≡ true
  pub table_good : table_fits table ≡ true
  pub wrong : SameFare sheet table → ⊥

-- a sheet and a table that a check which always refuses would refuse, and that the definition accepts
abbrev pub RightlyAccepted : List ℕ → List ℕ → Type 0
RightlyAccepted sheet table = check_result sheet table ≡ met

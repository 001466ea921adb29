-- One sheet has one reduced table. Lines that are right for a sheet are its rules in one form among many; where they are fully reduced, right words
-- included, the form is fixed by the order: any two such tables have the same standing rules as a set, the same number of them, and the same
-- normal words.
use Prim.Native.Nat.{ℕ, Ordering}
use Rattle.std.specs.Prelude.{◌≡◌, ◌↔◌, List, length}
use Rattle.words.specs.Word.{Word}
use Rattle.words.specs.Order.{IsOrder}
use Rattle.rewriting.specs.Sheet.{Equation, Line, rules_of}
use Rattle.rewriting.specs.Links.{Irreducible, Normal, OfLines}
use Rattle.rewriting.specs.RightFor.{RightFor}
use Rattle.layout.specs.Tables.{table_of}
use Rattle.chains.specs.Verdict.{met}
use Rattle.checking.specs.Check.{check_result}
use Rattle.meaning.specs.Conditions.{LinesReduced}

-- no standing line's right word can be replaced, by that line or another
abbrev pub RightsIrreducible : List Line → Type 0
RightsIrreducible ts = (l r : Word) → OfLines ts l r → Irreducible (OfLines ts) r

-- reduced, right words too
pub record FullyReduced (ts : List Line) : Type 0 where
  pub lefts : LinesReduced ts
  pub rights : RightsIrreducible ts

pub record SameRules (ts us : List Line) : Type 0 where
  -- the same rules as a set
  pub rules : (l r : Word) → OfLines ts l r ↔ OfLines us l r
  -- as many of them
  pub many : length (rules_of ts) ≡ length (rules_of us)
  -- and the same normal words
  pub normals : (u z : Word) → Normal (OfLines ts) u z ↔ Normal (OfLines us) u z

-- for every order: fully reduced lines that are right for one sheet
abbrev pub OneReduced : Type 0
OneReduced = (cmp : Word → Word → Ordering) → IsOrder cmp → (es : List Equation) (ts us : List Line)
    → RightFor cmp es ts → RightFor cmp es us → FullyReduced ts → FullyReduced us → SameRules ts us

-- two tables that the check accepts for one sheet
abbrev pub AcceptedAlike : Type 0
AcceptedAlike = (sheet one two : List ℕ) → check_result sheet one ≡ met → check_result sheet two ≡ met
    → RightsIrreducible (table_of one).lines → RightsIrreducible (table_of two).lines → SameRules (table_of one).lines (table_of two).lines

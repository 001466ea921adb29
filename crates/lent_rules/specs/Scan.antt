-- Inner: no public promise uses the names of this file.
-- The search over lent rules as one pass over the records: what is known after each record, and the answer in the end. Lent.antt has
-- the search itself.
use Rattle.std.specs.Prelude.{ℕ, ◌+◌, ◌≤◌, List, [], ◌∷◌, Bool, cond, ◌&&◌, leb, length, Option, None, Some}
use Rattle.words.specs.Word.{Word}
use Rattle.rewriting.specs.Found.{or_earlier}
use Rattle.rewriting.specs.declared.Found.{Found}
use Rattle.lent_rules.specs.Lent.{record_fits, lent_rule}
use Rattle.lent_rules.specs.declared.RuleRecord.{RuleRecord}
use Rattle.lent_rules.specs.declared.Scan.{Scan}

-- a record that fits, with a line number that rises
unfoldable pub record_goes_on : List ℕ → Scan → RuleRecord → Bool
record_goes_on area s r = record_fits area r && leb s.least r.line

abbrev pub good_scan : ℕ → Option Found → Scan
good_scan least found = record { least = least; found = found }

-- what is found with one left word more; a word that will be refused is not searched
unfoldable pub found_with : Option Found → ℕ → Word → Word → Option Found
found_with f line l w = cond (leb (length w) 128) (or_earlier f line l w) f

-- what is known after one record more; none where it does not go on
unfoldable pub scan_step : List ℕ → Word → Scan → RuleRecord → Option Scan
scan_step area w s r = cond (record_goes_on area s r) (Some (good_scan (r.line + 1) (found_with s.found r.line (lent_rule area r).left w))) None

unfoldable pub scan_from : List ℕ → Word → Option Scan → List RuleRecord → Option Scan
scan_from area w s [] = s
scan_from area w None (r ∷ rs) = None
scan_from area w (Some s) (r ∷ rs) = scan_from area w (scan_step area w s r) rs

-- a place in a word that is searched, and a number that a record can have
abbrev pub FoundSmall : Option Found → Type 0
FoundSmall None = Unit {0}
FoundSmall (Some f) = (f.place ≤ 128) × (f.line ≤ 65535)

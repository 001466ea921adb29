-- The new line's lineage. Specification, "Lineage": the steps that reduced the word whose normal word became left, last one first and each turned round;
-- then the entry leads across to its other word; then the steps that reduced that, down to the right word. A reference is an equation's number, or the
-- equation count plus a line's number.
use Rattle.std.specs.Prelude.{ℕ, zero, suc, ◌+◌, List, [], ◌∷◌, ◌++◌, map, reverse, Bool, true, false, not, cond}
use Rattle.words.specs.Word.{Word}
use Rattle.rewriting.specs.Search.{Rule, Due, nothing, due, search, after}
use Rattle.rewriting.specs.Sheet.{Step}
use Rattle.workspace.specs.declared.Entry.{Entry}
use Rattle.workspace.specs.declared.Entry.TheVariants.{OfEquation, OfDeleted, OfOverlap}

abbrev pub on_due : Due → List Step → (ℕ → Rule → List Step) → List Step
on_due nothing still on = still
on_due (due p r) still on = on p r

-- the first c replacements from w on, as steps; the equation count is cited
unfoldable pub steps_down : ℕ → List Rule → ℕ → Word → List Step
steps_down cited rs zero w = []
steps_down cited rs (suc c) w =
    on_due (search rs w) [] (λ p r. record { reference = cited + r.line; back = false; place = p } ∷ steps_down cited rs c (after w p r))

abbrev pub turned : Step → Step
turned s = record { reference = s.reference; back = not s.back; place = s.place }

-- the same steps the other way
unfoldable pub backwards : List Step → List Step
backwards ss = map turned (reverse ss)

-- one way or the other
abbrev pub either_way : Bool → List Step → List Step
either_way back ss = cond back (backwards ss) ss

-- from the entry's first word to its second: over the peak the first line goes back at 0, then the second goes forward at its place
unfoldable pub across : ℕ → Entry → List Step
across cited (OfEquation k) = record { reference = k; back = false; place = 0 } ∷ []
across cited (OfDeleted j) = record { reference = cited + j; back = false; place = 0 } ∷ []
across cited (OfOverlap o) =
    record { reference = cited + o.n; back = true; place = 0 } ∷ record { reference = cited + o.m; back = false; place = o.place } ∷ []

-- up from the one normal word, across in the middle, down to the other
abbrev pub lineage : List Step → List Step → List Step → List Step
lineage one middle other = backwards one ++ (middle ++ other)

-- Inner: no public promise uses the names of this file.
-- What lent records stand for: the equations of a sheet, the lines of a table, and the standing ones of these as rules.
use Rattle.std.specs.Prelude.{ℕ, List, []}
use Rattle.rewriting.specs.Search.{Rule}
use Rattle.rewriting.specs.Sheet.{Equation, Line}
use Rattle.layout.specs.Slices.{lines_in, rules_in, equations_in}
use Rattle.layout.specs.declared.lent.Sides.{Sides}

abbrev pub equations : {W M : ℕ} → Sides W M → List Equation
equations es = equations_in es.recs.now es.words.now es.n

abbrev pub rules : {W M : ℕ} → Sides W M → List Rule
rules ts = rules_in ts.recs.now ts.words.now 0 ts.n

-- with the steps of each line, and without
abbrev pub lines_with : {W M : ℕ} → List ℕ → Sides W M → List Line
lines_with steps ts = lines_in ts.recs.now steps ts.words.now ts.n

abbrev pub lines : {W M : ℕ} → Sides W M → List Line
lines ts = lines_with [] ts

-- A deleted line holds none; with another the lines are tried one after the other, as the definition does.
use Rattle.std.proofs.Common.{rules, ◌∙◌}
use Rattle.std.proofs.lemmas.Iterator.{YieldsList-from_range}
use Rattle.std.proofs.lemmas.Iterator.Search.{any_from_yields_List}
use Rattle.layout.specs.Lines.{lines}
use Rattle.rewriting.proofs.CountingLaws.{any_is}
use Rattle.checking.specs.Reduced.{holds}
use Rattle.checking.proofs.ReducedLaws.{one_fallen, one_standing}
use Rattle.checking.proofs.reduced.holds_one.Goals as goal

pub returns-then-stands : goal.returns-then-stands
returns-then-stands c =
    let t = holds (lines c.args.lines) c.args.i in
    let tried = any_from_yields_List t _ _ _ c.any.ensures.ran (YieldsList-from_range 0 c.args.lines.n c.args.lines.n (search rules) (search rules)) (λ x b q k. search rules) in
    search (rules, one_standing, tried ∙ any_is t 0 c.args.lines.n)

pub returns-else-stands : goal.returns-else-stands
returns-else-stands c = search (rules, one_fallen)

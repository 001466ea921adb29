-- The library counts the standing ones of the n lines.
use Rattle.std.proofs.Common.{rules, ◌≡◌, ◌∙◌, arith}
use Rattle.std.proofs.lemmas.Iterator.{YieldsList-from_range}
use Rattle.std.proofs.lemmas.Iterator.Consumers.{YieldsList-from_filter, count_from_yields_List}
use Rattle.layout.specs.Slices.{stands_by}
use Rattle.listing.specs.Slices.{standing_from}
use Rattle.listing.proofs.TextLaws.{standing_counted, standing_few}
use Rattle.listing.proofs.tables.count_rules.Goals as goal

pub returns : goal.returns
returns c =
    let counted : c.count.result ≡ standing_from c.args.lines.recs.now 0 c.args.lines.n =
    count_from_yields_List _ _ c.count.ensures.ran
    (YieldsList-from_filter _ (λ j. stands_by c.args.lines.recs.now j) (YieldsList-from_range 0 c.args.lines.n c.args.lines.n (cc) (search rules)) c.filter.ensures.closure (λ x b q k. search rules))
    ∙ standing_counted c.args.lines.recs.now 0 c.args.lines.n in
    (counted, omega (arith, standing_few c.args.lines.recs.now 0 c.args.lines.n, counted))

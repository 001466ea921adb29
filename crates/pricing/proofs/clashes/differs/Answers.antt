-- The earlier prices are tried one after the other, as the definition does.
use Rattle.std.proofs.Common.{rules, ◌∙◌}
use Rattle.std.proofs.lemmas.Iterator.{YieldsList-from_range}
use Rattle.std.proofs.lemmas.Iterator.Search.{any_from_yields_List}
use Rattle.rewriting.proofs.CountingLaws.{any_is}
use Rattle.pricing.specs.Clashes.{kept_two, kept_differs}
use Rattle.pricing.proofs.clashes.differs.Goals as goal

pub returns : goal.returns
unfolding kept_differs
returns c =
    let t = kept_two c.args.kept.now.words c.args.kept.now.prices.recs.now c.args.k in
    any_from_yields_List t _ _ _ c.any.ensures.ran (YieldsList-from_range 0 c.args.k c.args.k (search rules) (search rules)) (λ x b q k. search rules) ∙ any_is t 0 c.args.k

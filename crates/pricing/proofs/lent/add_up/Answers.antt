-- The library's sum is the definition's.
use Rattle.std.proofs.Common.{rules, ◌≡◌, ◌∙◌}
use Rattle.std.specs.List.{sum_by}
use Rattle.pricing.proofs.JourneyLaws.{sum_is}
use Rattle.pricing.proofs.lent.add_up.Goals as goal

pub returns : goal.returns
returns c = let e : c.sum.result ≡ sum_by (λ x. x) c.args.lengths.now = search rules in e ∙ sum_is c.args.lengths.now

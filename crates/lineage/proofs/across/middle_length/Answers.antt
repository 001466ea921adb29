-- An overlap has two steps, any other entry one.
use Rattle.std.proofs.Common.{rules, ⊎_elim}
use Rattle.lineage.proofs.TraceLaws.{one_equation, one_deleted, two_overlap}
use Rattle.lineage.proofs.across.middle_length.Goals as goal

pub returns-in-OfEquation : goal.returns-in-OfEquation
returns-in-OfEquation c =
    (⊎_elim (λ p. one_equation c.args.e p.0 p.1) (λ p. one_deleted c.args.e p.0 p.1) c.in-OfEquation.is, search rules)

pub returns-in-OfOverlap : goal.returns-in-OfOverlap
returns-in-OfOverlap c = (search two_overlap, search rules)

-- Each reduct is made of the lines' words, and the two are compared.
use Rattle.reducing.proofs.PairingLaws.{reducts_same}
use Rattle.reducing.proofs.pairs.pair_same.Goals as goal

pub returns : goal.returns
returns g c =
    reducts_same _ _ _ _ _ _ _ _ _ _ _ _ _ c.same_reduced.result (c.left-left.ensures.0) (c.right-right.ensures.0) (c.left-laid.ensures.0) (c.right-other.ensures.0) c.first_reduct-first.ensures c.second_reduct-second.ensures c.same_reduced.ensures

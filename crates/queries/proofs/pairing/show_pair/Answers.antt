-- Three words written to their places, one after the other.
use Rattle.queries.proofs.PairCallLaws.{pair_shown}
use Rattle.queries.proofs.pairing.show_pair.Goals as goal

pub returns : goal.returns
returns c =
    pair_shown _ _ _ _ _ _ _ _ _ (c.left-left.ensures.0) (c.right-right.ensures.0) (c.left-laid.ensures.0) (c.right-other.ensures.0)
    _ _ _ _ _ _ _ _ _ _ c.first_reduct.ensures c.first_reduct-2.ensures c.second_reduct.ensures c.show_word-peak.ensures c.show_word-first.ensures c.show_word-second.ensures

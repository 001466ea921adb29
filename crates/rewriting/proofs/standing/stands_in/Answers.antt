-- The places are tried one after the other, as the definition does.
use Rattle.std.proofs.Common.{rules, ◌+◌, ◌∙◌, length}
use Rattle.std.proofs.lemmas.Iterator.{YieldsList-from_range}
use Rattle.std.proofs.lemmas.Iterator.Search.{any_from_yields_List}
use Rattle.rewriting.specs.Standing.{stands_at, stands_in}
use Rattle.rewriting.proofs.CountingLaws.{any_is}
use Rattle.rewriting.proofs.standing.stands_in.Goals as goal

pub returns : goal.returns
unfolding stands_in
returns c =
    let t = stands_at c.args.left.now c.args.word.now in
    any_from_yields_List t _ _ _ c.any.ensures.ran (YieldsList-from_range 0 (length c.args.word.now + 1) (length c.args.word.now + 1) (search rules) (search rules)) (λ x b q k. search rules)
    ∙ any_is t 0 (length c.args.word.now + 1)

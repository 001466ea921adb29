-- The places are tried one after the other, as the definition does.
use Rattle.std.proofs.Common.{rules, drop, ◌∙◌}
use Rattle.std.proofs.lemmas.Iterator.{YieldsList-from_range}
use Rattle.std.proofs.lemmas.Iterator.Search.{find_from_yields_List}
use Rattle.rewriting.specs.Standing.{begins}
use Rattle.rewriting.proofs.FirstLaws.{first_found}
use Rattle.rewriting.proofs.standing.first_room.Goals as goal

pub returns : goal.returns
returns c =
    let found = find_from_yields_List (λ p. begins c.args.left.now (drop p c.args.word.now)) _ _ _ c.find.ensures.ran (YieldsList-from_range 0 c.args.room c.args.room (search rules) (search rules)) (λ x b q k. search rules) in
    c.unwrap_or.ensures ∙ first_found c.args.left.now c.args.word.now c.args.room c.find.result c.requires found

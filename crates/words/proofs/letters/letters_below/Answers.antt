-- The library tries the letters one after the other, as the definition does.
use Rattle.std.proofs.Common.{rules, ◌∙◌}
use Rattle.std.specs.Prelude.{nat_lt}
use Rattle.std.proofs.lemmas.Iterator.{YieldsList-from_slice}
use Rattle.std.proofs.lemmas.Iterator.Search.{all_from_yields_List}
use borrow.Author.Tests.{tests}
use Rattle.words.proofs.LoopLaws.{below_all}
use Rattle.words.proofs.letters.letters_below.Goals as goal

pub returns : goal.returns
returns c =
    all_from_yields_List (λ x. nat_lt x c.args.n) _ _ _ c.all.ensures.ran (YieldsList-from_slice c.args.w.now cc) (λ x b q k. search (rules, tests))
    ∙ below_all c.args.n c.args.w.now

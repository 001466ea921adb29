-- The library tries the steps one after the other, as the definition does.
use Rattle.std.proofs.Common.{rules, ◌+◌, ◌*◌, drop, refl, ◌∙◌}
use Rattle.std.proofs.lemmas.Iterator.{YieldsList-from_range}
use Rattle.std.proofs.lemmas.Iterator.Search.{all_from_yields_List}
use Rattle.layout.specs.Header.{step_width}
use Rattle.layout.specs.Tables.{step_fits}
use Rattle.layout.proofs.TableLaws.{all_tried}
use Rattle.layout.proofs.tables.steps_fit.Goals as goal

pub returns : goal.returns
returns c =
    all_from_yields_List (λ k. step_fits c.args.bound (drop (c.args.p + step_width * k) c.args.steps.now)) _ _ _ c.all.ensures.ran
    (YieldsList-from_range 0 c.args.n c.args.n refl (search rules)) (λ x b q k. search rules)
    ∙ all_tried c.args.steps.now c.args.p c.args.bound c.args.n

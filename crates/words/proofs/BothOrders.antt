-- Whatever code a header has, the order that it names is an order: it is one of the two.
use mathlib.Core.Bool.{Bool, true, false, cond}
use lib.Dec.{eqb}
use Rattle.words.specs.Word.{Word}
use Rattle.words.specs.Order.{IsOrder, order_by}
use Rattle.words.specs.Shortlex.{shortlex}
use Rattle.words.specs.Kachinuki.{kachinuki}
use Rattle.words.specs.declared.Order.{Order}
use Rattle.words.proofs.ShortlexLaws.{shortlex_order}
use Rattle.words.proofs.KachinukiLaws.{kachinuki_order}

pub order_by_order : (o : Order) → IsOrder (order_by o)
unfolding order_by
order_by_order o = go (eqb o.code 0)
  where
    go : (b : Bool) → IsOrder (λ (u v : Word). cond b (shortlex u v) (kachinuki u v))
    go true = shortlex_order
    go false = kachinuki_order

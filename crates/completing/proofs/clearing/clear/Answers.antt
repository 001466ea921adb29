-- The work room is filled with zeros.
use Rattle.std.proofs.Common.{rules}
use Rattle.completing.proofs.ClearingLaws.{room_filled}
use Rattle.completing.proofs.clearing.clear.Goals as goal

pub returns : goal.returns
returns c = room_filled _ _ (search rules) (c.fill.ensures.after (λ y e. e))

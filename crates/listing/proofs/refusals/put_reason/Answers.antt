-- Two texts with numbers behind them, and the end of the line.
use Rattle.listing.proofs.TextLaws.{refusal_put}
use Rattle.listing.proofs.refusals.put_reason.Goals as goal

pub returns : goal.returns
returns c = search refusal_put

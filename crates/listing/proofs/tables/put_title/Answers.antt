-- Two texts with numbers behind them, and a third.
use Rattle.listing.proofs.TextLaws.{title_put}
use Rattle.listing.proofs.tables.put_title.Goals as goal

pub returns : goal.returns
returns c = search title_put

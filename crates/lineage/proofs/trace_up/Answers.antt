-- The steps backwards, then the middle directly behind them.
use Rattle.lineage.proofs.TraceLaws.{traced_up}
use Rattle.lineage.proofs.trace_up.Goals as goal

pub returns : goal.returns
returns c = search traced_up

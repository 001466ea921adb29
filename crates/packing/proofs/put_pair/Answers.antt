-- The right word stands directly behind the left one.
use Rattle.packing.proofs.PackLaws.{pair_put}
use Rattle.packing.proofs.put_pair.Goals as goal

pub returns : goal.returns
returns c = search pair_put

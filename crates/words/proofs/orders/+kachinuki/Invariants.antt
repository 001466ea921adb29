-- A call on a tail has a smaller sum of both lengths.
use Rattle.std.proofs.Common.{◌+◌, length}
use Rattle.words.proofs.orders.+kachinuki.Given as goal

abbrev pub decreases-kachinuki : goal.decreases-kachinuki
decreases-kachinuki l = length l.a.now + length l.b.now

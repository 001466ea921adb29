-- Two pieces, one behind the other.
use Rattle.std.proofs.Common.{rules}
use Rattle.buffers.proofs.AppendedLaws.{two_pieces}
use Rattle.listing.proofs.decimals.put_with_number.Goals as goal

pub returns : goal.returns
returns c = search (two_pieces, rules)

-- Two pieces, one behind the other.
use Rattle.std.proofs.Common.{rules}
use Rattle.buffers.proofs.AppendedLaws.{two_pieces}
use Rattle.listing.proofs.tables.put_sides.Goals as goal

pub returns : goal.returns
returns c = search (two_pieces, rules)

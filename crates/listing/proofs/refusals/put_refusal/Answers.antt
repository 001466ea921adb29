-- A number of one byte has at most three digits, a place of two at most five.
use Rattle.std.proofs.Common.{rules, arith}
use Rattle.listing.proofs.DecimalLaws.{u8_digits, u16_digits}
use Rattle.listing.proofs.refusals.put_refusal.Goals as goal

pub put_reason-requires : goal.put_reason-requires
put_reason-requires c = (search rules, u8_digits c.from.result (omega arith), u16_digits c.from-2.result (omega arith))

-- The lineage is noted, and the line that joins has it.
use Rattle.std.proofs.Common.{rules, arith}
use Rattle.turns.proofs.MakingLaws.{replays_there, joined_traced}
use Rattle.turns.proofs.making.join_traced.Goals as goal

pub trace-requires : goal.trace-requires
trace-requires c = (
  search rules,
  omega arith,
  c.as_slice-one.ensures.short,
  c.as_slice-other.ensures.short,
  search replays_there,
  search replays_there,
)

pub returns : goal.returns
returns c = search joined_traced

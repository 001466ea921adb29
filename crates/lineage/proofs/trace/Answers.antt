-- Up, across and down, one behind the other; the rules are the same throughout.
use Rattle.std.proofs.Common.{rules}
use Rattle.lineage.proofs.TraceLaws.{trace_replays, trace_done}
use Rattle.lineage.proofs.trace.Goals as goal

pub note_word-requires : goal.note_word-requires
note_word-requires c = (search rules, search rules, search rules, search trace_replays)

pub returns : goal.returns
returns c = search trace_done

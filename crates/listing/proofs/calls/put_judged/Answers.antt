-- The table's lines are put as text.
use Rattle.listing.proofs.CallLaws.{file_text}
use Rattle.listing.proofs.calls.put_judged.Goals as goal

pub returns : goal.returns
returns c = search (file_text, c.lines.ensures.lines)

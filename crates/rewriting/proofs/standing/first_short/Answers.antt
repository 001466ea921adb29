-- Where left has no room it does not stand.
use Rattle.rewriting.proofs.FirstLaws.{room_hit, room_end}
use Rattle.rewriting.proofs.standing.first_short.Goals as goal

pub returns-then-p-room : goal.returns-then-p-room
returns-then-p-room c = search room_hit

pub returns-else-p-room : goal.returns-else-p-room
returns-else-p-room c = search room_end

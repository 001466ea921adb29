-- The sizes of the buffers, then the completion; the work buffer is cleared behind it.
use Rattle.completing.proofs.CallLaws.{short_output, short_work, delivered_called}
use Rattle.completing.proofs.calls.complete.Goals.{then-out-lt-TABLE_ROOM-via-then-out-lt-TABLE_ROOM, then-out-lt-TABLE_ROOM-via-else-out-lt-TABLE_ROOM+then-work-lt-WORK_ROOM}
use Rattle.completing.proofs.calls.complete.Goals as goal

pub returns-then-out-lt-TABLE_ROOM : goal.returns-then-out-lt-TABLE_ROOM
returns-then-out-lt-TABLE_ROOM c =
    elim c.then-out-lt-TABLE_ROOM.branch [ then-out-lt-TABLE_ROOM-via-then-out-lt-TABLE_ROOM w ↦ search short_output | then-out-lt-TABLE_ROOM-via-else-out-lt-TABLE_ROOM+then-work-lt-WORK_ROOM w ↦ search short_work ]

pub returns : goal.returns
returns c = search delivered_called

-- A line that is reducible is struck and then joins those that wait; any other stays.
use Rattle.new_lines.proofs.DeletingLaws.{delete_none, delete_one}
use Rattle.new_lines.proofs.deleting.delete_by.Goals as goal

pub returns-then-not-reducible_by : goal.returns-then-not-reducible_by
returns-then-not-reducible_by c = search delete_none

pub returns : goal.returns
returns c = search delete_one

-- A critical pair joins those that wait; where there is none nothing changes.
use Rattle.new_lines.proofs.OverlapLaws.{overlap_none, overlap_one}
use Rattle.new_lines.proofs.overlapping.overlap_at.Goals as goal

pub returns-then-not-make_pair : goal.returns-then-not-make_pair
returns-then-not-make_pair c = search overlap_none

pub returns : goal.returns
returns c = search overlap_one

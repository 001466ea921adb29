-- The step's four bytes stand in the steps area; records, letters and ring are as they were.
use Rattle.workspace.proofs.StepLaws.{step_good, noted_step}
use Rattle.workspace.proofs.desk.Desk.note_step.Goals as goal

pub invariant_of-self : goal.invariant_of-self
invariant_of-self c = search step_good

pub returns : goal.returns
returns c = search noted_step

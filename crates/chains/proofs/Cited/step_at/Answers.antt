-- The step is read: its reference, its direction, its place.
use Rattle.std.proofs.Common.{rules}
use Rattle.chains.proofs.StepLaws.{step_read}
use Rattle.chains.proofs.Cited.step_at.Goals as goal

pub returns : goal.returns
returns c = search (rules, step_read)

-- A byte more is copied behind those before it.
use Rattle.std.proofs.Common.{rules}
use Rattle.buffers.proofs.CopyLaws.{copy_start, copy_on, copy_end}
use Rattle.buffers.proofs.copying.put.Goals as goal

pub loop-i-init : goal.loop-i-init
loop-i-init c = search copy_start

pub loop-i-preserved : goal.loop-i-preserved
loop-i-preserved c = search (rules, copy_on)

pub returns : goal.returns
returns c = search (rules, copy_end)

-- What was judged has a good header.
use Rattle.layout.proofs.JudgedLaws.{table_known}
use Rattle.layout.proofs.judged.Table.steps.Goals as goal

pub steps_of-requires : goal.steps_of-requires
steps_of-requires c = let s = c.args.self in (table_known s.bytes.now s.fits s.header s.read, s.read)

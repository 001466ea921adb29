-- What was judged has a good header.
use Rattle.layout.proofs.JudgedLaws.{table_known}
use Rattle.layout.proofs.judged.Table.lines.Goals as goal

pub records_of-requires : goal.records_of-requires
records_of-requires c = let s = c.args.self in (table_known s.bytes.now s.fits s.header s.read, s.read)

pub words_of-requires : goal.words_of-requires
words_of-requires c = let s = c.args.self in (table_known s.bytes.now s.fits s.header s.read, s.read)

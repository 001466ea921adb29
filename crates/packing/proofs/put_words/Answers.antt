-- The pair that is put stands behind those before it.
use Rattle.std.proofs.Common.{rules}
use Rattle.packing.proofs.PackLaws.{words_start, words_on}
use Rattle.packing.proofs.put_words.Goals as goal

pub loop-j-init : goal.loop-j-init
loop-j-init c = search words_start

pub loop-j-preserved : goal.loop-j-preserved
loop-j-preserved c = search (rules, words_on)

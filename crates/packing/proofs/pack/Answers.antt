-- With the header before them, the areas are the file.
use Rattle.packing.proofs.PackLaws.{packed}
use Rattle.packing.proofs.pack.Goals as goal

pub returns : goal.returns
returns c = search packed

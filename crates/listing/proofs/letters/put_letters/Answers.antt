-- A letter more is written behind those before it.
use Rattle.listing.proofs.LetterLaws.{letters_start_lem, letters_on, letters_end}
use Rattle.listing.proofs.letters.put_letters.Goals as goal

pub loop-i-init : goal.loop-i-init
loop-i-init c = search letters_start_lem

pub loop-i-preserved : goal.loop-i-preserved
loop-i-preserved c = search letters_on

pub returns : goal.returns
returns c = search letters_end

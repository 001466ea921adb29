-- The loop keeps that what will have been written is what is left to write behind what has been.
use Rattle.listing.proofs.LetterLaws.{LettersLeft}
use Rattle.listing.proofs.letters.put_letters.Given as goal

abbrev pub invariant-loop-i : goal.invariant-loop-i
invariant-loop-i l = LettersLeft l.initial.out l.at l.w l.out l.i

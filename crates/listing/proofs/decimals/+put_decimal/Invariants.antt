-- A number below ten is its digit; any other is its tenth part, which is smaller, and its last digit.
use Rattle.listing.proofs.decimals.+put_decimal.Given as goal

abbrev pub decreases-put_decimal : goal.decreases-put_decimal
decreases-put_decimal l = l.n

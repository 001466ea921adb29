-- The last digit stands behind the digits of the tenth part.
use Rattle.std.proofs.Common.{rules}
use Rattle.listing.proofs.DecimalLaws.{front_fits, last_fits, more_put}
use Rattle.listing.proofs.decimals.+put_decimal.Goals as goal

pub put_decimal-middle-requires : goal.put_decimal-middle-requires
put_decimal-middle-requires t c = (search rules, search front_fits)

pub put_bytes-requires-else-n-lt10 : goal.put_bytes-requires-else-n-lt10
put_bytes-requires-else-n-lt10 t c = search last_fits

pub returns-else-n-lt10 : goal.returns-else-n-lt10
returns-else-n-lt10 t c = search more_put

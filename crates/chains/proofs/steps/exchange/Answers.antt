-- Where the word stands it lies inside, so its replacement has the length that is tested against 128.
use Rattle.std.proofs.Common.{rules}
use Rattle.chains.proofs.StepLaws.{exchange_missed, exchange_inside, exchange_cut, exchange_long, exchange_room, exchange_made}
use Rattle.chains.proofs.steps.exchange.Goals as goal
use Rattle.chains.proofs.steps.exchange.Goals.{then-not-stands_at-via-then-not-stands_at, then-not-stands_at-via-else-not-stands_at+then-len-from-gt-WORD_LIMIT}

pub overflow_sub-len : goal.overflow_sub-len
overflow_sub-len c = let e = rw c.as_slice.ensures.word at c.stands_at.ensures in search (rules, exchange_cut)

pub returns-then-not-stands_at : goal.returns-then-not-stands_at
returns-then-not-stands_at c =
    let e = rw c.as_slice.ensures.word at c.stands_at.ensures in
    elim c.then-not-stands_at.branch [
      | then-not-stands_at-via-then-not-stands_at w ↦ search (rules, exchange_missed)
      | then-not-stands_at-via-else-not-stands_at+then-len-from-gt-WORD_LIMIT w ↦ search (rules, exchange_long)
    ]

pub replace-requires : goal.replace-requires
replace-requires c =
    let e = rw c.as_slice.ensures.word at c.stands_at.ensures in
    (search (rules, exchange_inside), search (rules, exchange_room))

pub returns : goal.returns
returns c = let e = rw c.as_slice.ensures.word at c.stands_at.ensures in search (rules, exchange_made)

-- The rule is looked for before the place found so far.
use Rattle.std.proofs.Common.{rules, length, ◌≡◌, ◌+◌}
use Rattle.rewriting.specs.Found.{place_found}
use Rattle.rewriting.proofs.FoundLaws.{earlier_found_lem, found_stays}
use Rattle.rewriting.proofs.finding.or_earlier.Goals as goal

pub returns-then-place-end : goal.returns-then-place-end
returns-then-place-end c = let e : c.map_or-end.result ≡ place_found (length c.args.word.now + 1) c.args.found = search rules in search earlier_found_lem

pub returns-else-place-end : goal.returns-else-place-end
returns-else-place-end c = let e : c.map_or-end.result ≡ place_found (length c.args.word.now + 1) c.args.found = search rules in search found_stays

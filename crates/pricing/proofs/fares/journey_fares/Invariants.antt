-- The loop keeps that the answer to all journeys is what those before gave and then the answer to the rest, and that the rest of the lengths adds up to the rest of the letters.
use Rattle.std.proofs.Common.{◌≡◌, ◌+◌, ◌*◌, ◌≤◌, length, drop}
use Rattle.layout.specs.Lines.{rules}
use Rattle.pricing.specs.Journeys.{add_up, journey_fare}
use Rattle.pricing.specs.Kept.{kept_list}
use Rattle.pricing.specs.Fares.{fares_size}
use Rattle.pricing.proofs.FareLaws.{Faring}
use Rattle.pricing.proofs.fares.journey_fares.Given as goal

abbrev pub invariant-loop-j : goal.invariant-loop-j
invariant-loop-j g l =
    (l.start ≤ 255 * l.j) × (length l.fares ≡ fares_size) × (l.start + add_up (drop l.j l.journeys.lengths.now) ≡ length l.journeys.letters.now)
    × Faring (journey_fare l.of.letters (rules l.lines) l.of.allowance (kept_list l.kept)) l.journeys.letters.now l.journeys.lengths.now l.fares l.j l.start

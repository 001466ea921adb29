-- The loop keeps that the answer to all prices is what is kept and then the answer to the rest.
use Rattle.std.proofs.Common.{◌≡◌, length}
use Rattle.layout.specs.Lines.{rules}
use Rattle.prices.specs.Files.{price_kind}
use Rattle.pricing.proofs.KeepingLaws.{Keeping}
use Rattle.pricing.proofs.keeping.Kept.reduced.Given as goal

abbrev pub invariant-loop-j : goal.invariant-loop-j
invariant-loop-j g l =
    (length l.words ≡ price_kind.pairs) × Keeping (rules l.lines) l.allowance l.prices.recs.now l.prices.words.now l.prices.n l.words l.j

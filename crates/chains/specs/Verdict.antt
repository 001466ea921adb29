-- What a condition says. Specification, "The check": a condition that fails refuses by its number, at the lowest line, the
-- first equation or the first pair where it fails.
use Rattle.std.specs.Prelude.{ℕ, Bool, true, false}
use Rattle.words.specs.Refusal.{Result, answered, refused}
use Rattle.words.specs.Counting.{in_turn}

-- what a condition says: it is met, or a refusal with its place
abbrev pub Verdict : Type 0
Verdict = Result (Unit {0})

abbrev pub met : Verdict
met = answered tt

-- met where the test passes
abbrev pub unless : Bool → ℕ → ℕ → Verdict
unless true number place = met
unless false number place = refused number place

-- met by each of the first n numbers, or the refusal of the lowest that does not meet it
abbrev pub each : ℕ → (ℕ → Verdict) → Verdict
each n f = in_turn (λ k s. f k) 0 n tt

-- The result of a call: its answer, or a refusal. Specification, "Refusals": each refusal has a number and gives a place.
use Rattle.std.specs.Prelude.{ℕ}

pub data Result (A : Type 0) : Type 0 where
  answered : A → Result A
  -- the number in that table, then the place given
  refused : ℕ → ℕ → Result A

-- what to do with an answer; a refusal passes on
abbrev pub on_answer : {A B : Type 0} → Result A → (A → Result B) → Result B
on_answer (answered a) f = f a
on_answer (refused n p) f = refused n p

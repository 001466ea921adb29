-- What a call leaves in a lent output. Specification, "Calls": its size is tried first, 3; only an answer is written, and of
-- the output only the answer's bytes.
use Rattle.std.specs.Prelude.{ℕ, List, cond, leb}
use Rattle.buffers.specs.Written.{written}
use Rattle.words.specs.Refusal.{Result, answered, refused}

-- an output of this size is large enough
abbrev pub on_room : {A : Type 0} → ℕ → ℕ → Result A → Result A
on_room needed room result = cond (leb needed room) result (refused 3 0)

-- out after a call whose answer goes to its start
abbrev pub result_output : Result (List ℕ) → List ℕ → List ℕ
result_output (answered bytes) out = written out 0 bytes
result_output (refused n p) out = out

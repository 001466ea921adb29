-- What the struct of the functions for other languages says. Specification, "Calls": the refusal's number and place; or 0 and
-- 0, and the answer's values. What an answer has no value for is 0.
use Prim.Native.Nat.{ℕ, Ordering, ◌≤◌}
use Rattle.std.specs.Prelude.{Bool, true, false, Option, None, Some}
use Rattle.words.specs.Refusal.{Result, answered, refused}
use Rattle.rewriting.specs.Search.{Due, nothing, due}
use Rattle.rewriting.specs.declared.Found.{Found}
use Rattle.queries.specs.Calls.{PairTold, none_told, lengths_told}
use Rattle.queries.specs.declared.Reached.{Reached}
use Rattle.grettalune.specs.declared.Answer.{Answer}

-- an answer with three values
abbrev pub giving : ℕ → ℕ → ℕ → Answer
giving x y z = record { refusal = 0; place = 0; a = x; b = y; c = z; d = 0 }

abbrev pub refusing : ℕ → ℕ → Answer
refusing n p = record { refusal = n; place = p; a = 0; b = 0; c = 0; d = 0 }

-- a result as the struct, where an answer is read by its values
abbrev pub answer_by : {A : Type 0} → (A → Answer) → Result A → Answer
answer_by values (answered x) = values x
answer_by values (refused n p) = refusing n p

-- less 0, equal 1, greater 2
abbrev pub ordering_values : Ordering → Answer
ordering_values Ordering.lt = giving 0 0 0
ordering_values Ordering.eq = giving 1 0 0
ordering_values Ordering.gt = giving 2 0 0

-- the length of the word, its count
abbrev pub word_values : Reached → Answer
word_values a = giving a.length a.count 0

-- the lengths of peak, first and second reduct; all 0 where there is no pair
abbrev pub pair_values : PairTold → Answer
pair_values none_told = giving 0 0 0
pair_values (lengths_told w f s) = giving w f s

-- the same fare 1, different 0
abbrev pub fare_values : Bool → Answer
fare_values true = giving 1 0 0
fare_values false = giving 0 0 0

-- none 0; else 1, the place and the line number of the replacement due
abbrev pub due_values : Due → Answer
due_values nothing = giving 0 0 0
due_values (due p r) = giving 1 p r.line

abbrev pub found_values : Option Found → Answer
found_values None = giving 0 0 0
found_values (Some f) = giving 1 f.place f.line

-- the length of the table, or of the text
abbrev pub length_values : ℕ → Answer
length_values k = giving k 0 0

-- a table that is accepted
abbrev pub accepted_values : Unit {0} → Answer
accepted_values u = giving 0 0 0

-- no word reached passes 128 letters, no word of a pair 64
abbrev pub WordShort : Result Reached → Type 0
WordShort (answered a) = a.length ≤ 128
WordShort (refused n p) = Unit {0}

abbrev pub PairShort : Result PairTold → Type 0
PairShort (answered none_told) = Unit {0}
PairShort (answered (lengths_told w f s)) = (w ≤ 64) × (f ≤ 64) × (s ≤ 64)
PairShort (refused n p) = Unit {0}

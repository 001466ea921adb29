-- Going through numbers in rising order: through places of a word, lines of a table, equations of a sheet.
use Rattle.std.specs.Prelude.{ℕ, zero, suc, ◌+◌, Bool, false, ◌||◌}
use Rattle.words.specs.Refusal.{Result, answered, on_answer}

-- one of the n numbers from k on passes the test
unfoldable pub any_from : (ℕ → Bool) → ℕ → ℕ → Bool
any_from t k zero = false
any_from t k (suc n) = t k || any_from t (k + 1) n

-- a state goes through the n numbers from k on, one after the other, until one refuses
unfoldable pub in_turn : {S : Type 0} → (ℕ → S → Result S) → ℕ → ℕ → S → Result S
in_turn f k zero s = answered s
in_turn f k (suc n) s = on_answer (f k s) (λ t. in_turn f (k + 1) n t)

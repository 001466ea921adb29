-- Numbers in decimal: the digits of the tenth part, where there is one, and then the last digit.
use Rattle.std.specs.Prelude.{ℕ, zero, suc, ◌+◌, ◌/◌, ◌%◌, List, [], ◌∷◌, ◌++◌, cond, ltb}

-- a digit's byte
abbrev pub digit_byte : ℕ → ℕ
digit_byte n = 48 + n

-- the digits of n, which is at most k
abbrev pub digits_of : ℕ → ℕ → List ℕ
digits_of zero n = digit_byte n ∷ []
digits_of (suc k) n =
    let more = digits_of k (n / 10) ++ (digit_byte (n % 10) ∷ []) in
    cond (ltb n 10) (digit_byte n ∷ []) more

abbrev pub decimal : ℕ → List ℕ
decimal n = digits_of n n

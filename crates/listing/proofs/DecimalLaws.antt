-- Numbers in decimal. Dividing by ten as often as the number counts is more than enough, so that a number is its tenth part's digits and its last
-- one; and a number below ten to the k has at most k digits.
use Prim.Native.Nat.{ℕ, zero, suc, ◌+◌, ◌*◌, ◌/◌, ◌%◌, ◌≤◌, ◌<◌}
use native.Mathlib.Omega.{arith}
use mathlib.Core.Path.{◌≡◌, refl, ◌∙◌, ap}
use mathlib.Core.List.{List, [], ◌∷◌, ◌++◌}
use mathlib.Core.Bool.{Bool, true, false}
use borrow.Author.Tests.{lt-ltb, le-ltb, ltb-true, ltb-false}
use lib.Dec.{ltb}
use lib.ListN.{length, length-append}
use Rattle.layout.specs.Header.{table_kind}
use Rattle.buffers.specs.Appended.{Appended}
use Rattle.buffers.proofs.AppendedLaws.{two_pieces}
use Rattle.listing.specs.Decimal.{digit_byte, digits_of, decimal}

-- more divisions find no more digits
digits_enough : (k m n : ℕ) → n ≤ k → n ≤ m → digits_of k n ≡ digits_of m n
digits_enough zero zero n h g = refl
digits_enough zero (suc m) n h g = rw (lt-ltb n 10 (omega arith))
digits_enough (suc k) zero n h g = rw (lt-ltb n 10 (omega arith))
digits_enough (suc k) (suc m) n h g = rw (digits_enough k m (n / 10) (omega arith) (omega arith))

decimal_one : (n : ℕ) → n < 10 → decimal n ≡ digit_byte n ∷ []
decimal_one n h = digits_enough n (suc n) n (omega arith) (omega arith) ∙ rw (lt-ltb n 10 h)

decimal_more : (n : ℕ) → 10 ≤ n → decimal n ≡ decimal (n / 10) ++ (digit_byte (n % 10) ∷ [])
decimal_more n h =
    digits_enough n (suc n) n (omega arith) (omega arith)
    ∙ rw (le-ltb n 10 h) (ap (λ (x : List ℕ). x ++ (digit_byte (n % 10) ∷ [])) (digits_enough n (n / 10) (n / 10) (omega arith) (omega arith)))

-- the lengths
one_long : (n : ℕ) → n < 10 → length (decimal n) ≡ 1
one_long n h = rw (decimal_one n h)

more_long : (n : ℕ) → 10 ≤ n → length (decimal n) ≡ length (decimal (n / 10)) + 1
more_long n h = rw (decimal_more n h) (length-append (decimal (n / 10)) (digit_byte (n % 10) ∷ []))

abbrev ten_to : ℕ → ℕ
ten_to zero = 1
ten_to (suc k) = 10 * ten_to k

decimal_short : (k n : ℕ) → n < ten_to (suc k) → length (decimal n) ≤ suc k
decimal_short zero n h = omega (arith, one_long n (omega arith))
decimal_short (suc k) n h = go (ltb n 10) refl (decimal_short k (n / 10) (omega arith))
  where
    go : (t : Bool) → ltb n 10 ≡ t → length (decimal (n / 10)) ≤ suc k → length (decimal n) ≤ suc (suc k)
    go true e f = omega (arith, one_long n (ltb-true n 10 e))
    go false e f = omega (arith, more_long n (ltb-false n 10 e))

-- the numbers of a table's lines, how many of them stand, and how many there are
pub line_digits : (j n : ℕ) → j < n → n ≤ table_kind.pairs → length (decimal j) ≤ 3
line_digits j n h g = decimal_short 2 j (omega arith)

pub lines_digits : (n : ℕ) → n ≤ table_kind.pairs → length (decimal n) ≤ 3
lines_digits n h = decimal_short 2 n (omega arith)

pub rules_digits : (k n : ℕ) → k ≤ n → n ≤ table_kind.pairs → length (decimal k) ≤ 3
rules_digits k n h g = decimal_short 2 k (omega arith)

-- a refusal's number and place
pub u8_digits : (n : ℕ) → n < 256 → length (decimal n) ≤ 3
u8_digits n h = decimal_short 2 n (omega arith)

pub u16_digits : (n : ℕ) → n < 65536 → length (decimal n) ≤ 5
u16_digits n h = decimal_short 4 n (omega arith)

-- a number of more digits
module _ (d : List ℕ) (at n : ℕ) (h : 10 ≤ n) (g : at + length (decimal n) ≤ length d) where
  pub front_fits : at + length (decimal (n / 10)) ≤ length d
  front_fits = omega (arith, more_long n h)

  module _ (b : List ℕ) (m : ℕ) (p : Appended d b at m (length (decimal (n / 10))) (decimal (n / 10))) where
    pub last_fits : m + 1 ≤ length b
    last_fits = omega (arith, more_long n h, p.ends, p.size)

    pub more_put : (c : List ℕ) (r x : ℕ) → x ≡ digit_byte (n % 10) → Appended b c m r 1 (x ∷ []) → Appended d c at r (length (decimal n)) (decimal n)
    more_put c r x e q =
        rw (decimal_more n h, ← e)
        (two_pieces d b c (decimal (n / 10)) (x ∷ []) at m r (length (decimal (n / 10))) 1 (length (decimal (n / 10) ++ (x ∷ []))) p q
        (rw (length-append (decimal (n / 10)) (x ∷ [])) (omega (arith, more_long n h))) (rw (length-append (decimal (n / 10)) (x ∷ [])) (omega arith)))

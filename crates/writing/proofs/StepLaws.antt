-- Steps in bytes: a number is the sum of its two bytes, and steps that are written are read back as they were.
use Prim.Native.Nat.{ℕ, zero, suc, ◌+◌, ◌*◌, ◌/◌, ◌%◌}
use native.Mathlib.Omega.{arith}
use mathlib.Core.Path.{◌≡◌, refl, ap, ap₂}
use mathlib.Core.List.{List, [], ◌∷◌, ◌++◌}
use mathlib.Core.Bool.{Bool, true, false}
use lib.Dec.{eqb}
use lib.ListN.{length, drop}
use Rattle.rewriting.specs.Sheet.{Step}
use Rattle.layout.specs.Header.{step_width}
use Rattle.layout.specs.Tables.{step_of, read_steps}
use Rattle.writing.specs.Writing.{bit, step_bytes, steps_bytes}

pub two_bytes : (n : ℕ) → n % 256 + 256 * (n / 256) ≡ n
two_bytes n = omega arith

pub bit_is : (b : Bool) → eqb (bit b) 1 ≡ b
bit_is true = refl
bit_is false = refl

pub steps_read : (ss : List Step) (s : List ℕ) → read_steps (length ss) (steps_bytes ss ++ s) ≡ ss
unfolding read_steps steps_bytes step_bytes step_of
steps_read [] s = refl
steps_read (x ∷ ss) s =
    ap₂ ◌∷◌ (λ i. record { reference = two_bytes x.reference i; back = bit_is x.back i; place = x.place }) (steps_read ss s)

pub read_long : (n : ℕ) (s : List ℕ) → length (read_steps n s) ≡ n
unfolding read_steps
read_long zero s = refl
read_long (suc n) s = ap suc (read_long n (drop step_width s))

pub steps_size : (ss : List Step) → length (steps_bytes ss) ≡ step_width * length ss
unfolding steps_bytes step_bytes
steps_size [] = refl
steps_size (x ∷ ss) = let h = steps_size ss in omega (arith, h)

-- A test that goes through two words letter by letter passes where the first letters are the same and the rest passes.
use Prim.Native.Nat.{ℕ}
use mathlib.Core.Path.{◌≡◌, refl}
use mathlib.Core.Bool.{Bool, true, ◌&&◌, and-eq-true_iff}
use borrow.Author.Tests.{eqb-true, eq-eqb}
use lib.Dec.{eqb}

pub letter_says : (a b : ℕ) (t : Bool) → eqb a b && t ≡ true → (a ≡ b) × (t ≡ true)
letter_says a b t h = let k = (and-eq-true_iff (eqb a b) t).0 h in (eqb-true a b k.0, k.1)

pub letter_is : (a : ℕ) (t : Bool) → t ≡ true → eqb a a && t ≡ true
letter_is a t h = (and-eq-true_iff (eqb a a) t).1 (eq-eqb a a refl, h)

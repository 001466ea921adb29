-- From what the branches of a function show to the tests and choices of a definition: one law for each way a test or a choice goes.
use Prim.Native.Nat.{ℕ}
use mathlib.Core.Path.{◌≡◌, refl, sym, ◌∙◌, ap}
use mathlib.Core.Bool.{Bool, true, false, cond, not, ◌&&◌}
use Rattle.words.specs.Refusal.{answered}
use native.Mathlib.Omega.{arith}
use borrow.Author.Tests.{lt-ltb, le-ltb, le-leb, lt-leb, eq-eqb, ne_eqb}

pub cond_yes : {A : Type 0} (t : Bool) (r a b : A) → t ≡ true → r ≡ a → r ≡ cond t a b
cond_yes t r a b h e = rw h e

pub cond_no : {A : Type 0} (t : Bool) (r a b : A) → t ≡ false → r ≡ b → r ≡ cond t a b
cond_no t r a b h e = rw h e

pub and_yes : (t r b : Bool) → t ≡ true → r ≡ b → r ≡ t && b
and_yes t r b h e = rw h e

pub and_no : (t b : Bool) → t ≡ false → false ≡ t && b
and_no t b h = rw h

-- a callee's answer that a branch has tested
pub told_yes : (r t : Bool) → r ≡ t → not r ≡ false → t ≡ true
told_yes true t e h = sym e
told_yes false t e h = sym e ∙ ap not h

pub told_no : (r t : Bool) → r ≡ t → not r ≡ true → t ≡ false
told_no true t e h = sym e ∙ ap not h
told_no false t e h = sym e

-- a conjunction from its parts, and its parts from it
pub and_in : (t u : Bool) → t ≡ true → u ≡ true → t && u ≡ true
and_in t u e f = rw (e, f)

pub and_off : (t u : Bool) → t ≡ false → t && u ≡ false
and_off t u e = rw e

pub and_off_right : (t u : Bool) → t ≡ true → u ≡ false → t && u ≡ false
and_off_right t u e f = rw (e, f)

pub and_left : (t u : Bool) → t && u ≡ true → t ≡ true
and_left true u e = refl
and_left false u e = e

pub and_right : (t u : Bool) → t && u ≡ true → u ≡ true
and_right true u e = e
and_right false u e = let z : ◌≡◌ {A = ℕ} 0 1 = cc in absurd (omega arith)

-- the answer of a call that is not refused
pub answer : {A : Type 0} {x y : A} → x ≡ y → answered x ≡ answered y
answer e = ap answered e

pub ruleset tests = (answer, cond_yes, cond_no, and_yes, and_no, and_in, and_off, and_off_right, told_yes, told_no, lt-ltb, le-ltb, le-leb, lt-leb, eq-eqb, ne_eqb)

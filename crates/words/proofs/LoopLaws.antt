-- The library's comparisons are the definitions': of letters with a bound, of numbers, of words.
use Rattle.std.specs.Ordering.{nat_cmp, ordering_then}
use Rattle.std.specs.declared.cmp.Ordering.{Ordering as Compared}
use Rattle.std.specs.declared.cmp.Ordering.TheVariants.{Less, Equal, Greater}
use Rattle.std.specs.Cmp.Lexicographic.{slice_cmp}
use Rattle.std.specs.List.{list_all}
use Rattle.std.specs.Prelude.{nat_lt}
use Rattle.words.specs.Answer.{ordering_of}
use Prim.Native.Nat.{ℕ, compare}
use mathlib.Core.Path.{◌≡◌, refl, ◌∙◌}
use mathlib.Core.List.{[], ◌∷◌}
use native.Mathlib.Omega.{arith}
use Rattle.std.proofs.lemmas.Bool.Decides.{nat_tests}
use lib.ListN.{length}
use Rattle.words.specs.Word.{Word, letters_below}
use Rattle.words.specs.Compare.{then, lex}
use Rattle.words.specs.Shortlex.{shortlex}
use Rattle.words.proofs.CompareLaws.{compare_lt, compare_eq, compare_gt}

-- every letter passes the test
pub below_all : (n : ℕ) (w : Word) → list_all (λ x. nat_lt x n) w ≡ letters_below n w
unfolding letters_below
below_all n [] = refl
below_all n (a ∷ w) = rw (below_all n w) refl

-- the library's comparison of numbers, of words and of a pair of answers, as the definitions'
pub number_compared : (x y : ℕ) → ordering_of (nat_cmp x y) ≡ compare x y
number_compared x y = grind (arith, nat_tests, compare_lt x y, compare_eq x y, compare_gt x y)

pub then_compared : (o p : Compared) → ordering_of (ordering_then o p) ≡ then (ordering_of o) (ordering_of p)
then_compared Less p = refl
then_compared Equal p = refl
then_compared Greater p = refl

pub word_compared : (u v : Word) → ordering_of (slice_cmp nat_cmp u v) ≡ lex u v
word_compared [] [] = refl
word_compared [] (b ∷ v) = refl
word_compared (a ∷ u) [] = refl
word_compared (a ∷ u) (b ∷ v) = then_compared (nat_cmp a b) (slice_cmp nat_cmp u v) ∙ rw (number_compared a b, word_compared u v) refl

pub shortlex_compared : (u v : Word) → ordering_of (ordering_then (nat_cmp (length u) (length v)) (slice_cmp nat_cmp u v)) ≡ shortlex u v
unfolding shortlex
shortlex_compared u v = then_compared (nat_cmp (length u) (length v)) (slice_cmp nat_cmp u v) ∙ rw (number_compared (length u) (length v), word_compared u v) refl

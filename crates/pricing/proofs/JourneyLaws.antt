-- The lengths of journeys added up: the library's sum is the definition's. Journeys that fit are few, and their lengths add up.
use Prim.Native.Nat.{ℕ, ◌+◌, ◌≤◌}
use mathlib.Core.Path.{◌≡◌, refl, ◌∙◌, ap}
use mathlib.Core.List.{List, [], ◌∷◌}
use mathlib.Core.Bool.{true}
use borrow.Author.Tests.{leb-true, eqb-true}
use lib.Dec.{leb, eqb}
use lib.ListN.{length}
use Rattle.words.proofs.TestLaws.{and_left, and_right}
use Rattle.std.specs.List.{sum_by}
use Rattle.std.proofs.lemmas.List.Sums.{sum_by-cons}
use Rattle.pricing.specs.Journeys.{journey_limit, add_up, journeys_fit}

pub sum_is : (ls : List ℕ) → sum_by (λ (n : ℕ). n) ls ≡ add_up ls
unfolding add_up
sum_is [] = refl
sum_is (n ∷ ls) = sum_by-cons (λ (n : ℕ). n) n ls ∙ ap (λ (s : ℕ). n + s) (sum_is ls)

-- journeys that fit
module _ (letters ls : List ℕ) (e : journeys_fit letters ls ≡ true) where
  pub journeys_few : length ls ≤ journey_limit
  unfolding journeys_fit
  journeys_few = leb-true (length ls) journey_limit (and_left (leb (length ls) journey_limit) (eqb (add_up ls) (length letters)) e)

  pub lengths_sum : add_up ls ≡ length letters
  unfolding journeys_fit
  lengths_sum = eqb-true (add_up ls) (length letters) (and_right (leb (length ls) journey_limit) (eqb (add_up ls) (length letters)) e)

-- Two fares for one word, among kept prices. The loops ask of each price, and of each before it, what the definition asks of the list of them; where two
-- tests agree on the numbers gone through, so does what is found.
use Prim.Native.Nat.{ℕ, zero, suc, ◌+◌, ◌<◌}
use native.Mathlib.Omega.{arith}
use mathlib.Core.Path.{◌≡◌, refl, ◌∙◌, ap}
use mathlib.Core.List.{List, []}
use mathlib.Core.Bool.{Bool, true, false, not, ◌&&◌}
use borrow.Author.Tests.{eq-eqb, ne_eqb}
use lib.ListN.{get_or}
use Rattle.words.specs.Word.{Word}
use Rattle.words.specs.Counting.{any_from, in_turn}
use Rattle.words.specs.Refusal.{refused, on_answer}
use Rattle.words.specs.declared.refusals.Refusal.TheVariants.{TwoFares}
use Rattle.rewriting.specs.Steps.{same_word}
use Rattle.layout.proofs.SliceLaws.{list_long, list_at}
use Rattle.chains.specs.Verdict.{Verdict, met, unless, each}
use Rattle.chains.proofs.EachLaws.{Passed, passed_none, passed_on, passed_no, passed_end}
use Rattle.prices.specs.Price.{no_price, price_at}
use Rattle.prices.specs.Slices.{price_fare}
use Rattle.pricing.specs.Prices.{two_fares, differs, fare_verdict}
use Rattle.pricing.specs.Kept.{kept_price, kept_prices}
use Rattle.pricing.specs.Clashes.{kept_two, kept_differs, kept_verdict}

-- two prices
module _ (words : List Word) (recs : List ℕ) (k j f g : ℕ) (ef : f ≡ price_fare recs k) (eg : g ≡ price_fare recs j) where
  pub one_fare : f ≡ g → false ≡ kept_two words recs k j
  unfolding kept_two two_fares kept_price
  one_fare e = rw (← ef, ← eg, eq-eqb f g e) (never (same_word (get_or words k []) (get_or words j [])))
    where
      never : (t : Bool) → false ≡ t && false
      never true = refl
      never false = refl

  pub other_fare : (u v : Word) (t : Bool) → (f ≡ g → ⊥) → u ≡ get_or words k [] → v ≡ get_or words j [] → t ≡ same_word u v → t ≡ kept_two words recs k j
  unfolding kept_two two_fares kept_price
  other_fare u v t e eu ev et = rw (← ef, ← eg, ne_eqb f g e, ← eu, ← ev, ← et) (always t)
    where
      always : (t : Bool) → t ≡ t && true
      always true = refl
      always false = refl

-- where tests agree
any_same : (t u : ℕ → Bool) (k n : ℕ) → ((i : ℕ) → i < k + n → t i ≡ u i) → any_from t k n ≡ any_from u k n
unfolding any_from
any_same t u k zero f = refl
any_same t u k (suc n) f = rw (f k (omega arith), any_same t u (k + 1) n (λ i h. f i (omega arith)))

turn_same : (f g : ℕ → Verdict) (k n : ℕ) → ((i : ℕ) → i < k + n → f i ≡ g i) → in_turn (λ i s. f i) k n tt ≡ in_turn (λ i s. g i) k n tt
unfolding in_turn
turn_same f g k zero h = refl
turn_same f g k (suc n) h = rw (h k (omega arith)) (ap (on_answer (g k)) (λ x y. turn_same f g (k + 1) n (λ i l. h i (omega arith)) x))

-- all prices
module _ (words : List Word) (recs : List ℕ) (n : ℕ) where
  at_kept : (j : ℕ) → j < n → price_at (kept_prices words recs n) j ≡ kept_price words recs j
  unfolding kept_prices
  at_kept j h = let e : 0 + j ≡ j = omega arith in list_at (kept_price words recs) no_price 0 n j h ∙ rw e

  same_verdict : (k : ℕ) → k < n → kept_verdict words recs k ≡ unless (not (differs (kept_prices words recs n) k)) 17 k
  unfolding kept_verdict kept_differs kept_two differs
  same_verdict k h =
      ap (λ (t : Bool). unless (not t) 17 k)
      (any_same (kept_two words recs k) (λ j. two_fares (price_at (kept_prices words recs n) k) (price_at (kept_prices words recs n) j)) 0 k
      (λ j l. rw (at_kept k h, at_kept j (omega arith))))

  verdicts : each n (kept_verdict words recs) ≡ fare_verdict (kept_prices words recs n)
  unfolding fare_verdict kept_prices
  verdicts = rw (list_long (kept_price words recs) 0 n) (turn_same (kept_verdict words recs) (λ k. unless (not (differs (kept_prices words recs n) k)) 17 k) 0 n (λ k l. same_verdict k (omega arith)))

  module _ (k : ℕ) (t : Bool) (p : Passed (kept_verdict words recs) n k) (l : k < n) (e : t ≡ kept_differs words recs k) where
    said : unless (not t) 17 k ≡ kept_verdict words recs k
    unfolding kept_verdict
    said = rw e

    pub clash_no : t ≡ true → refused 17 k ≡ fare_verdict (kept_prices words recs n)
    clash_no f = passed_no (kept_verdict words recs) n k (TwoFares k) p l (rw f at said) ∙ verdicts

    pub clash_on : t ≡ false → Passed (kept_verdict words recs) n (k + 1)
    clash_on f = passed_on (kept_verdict words recs) n k tt p l (rw f at said)

  pub clash_end : Passed (kept_verdict words recs) n n → met ≡ fare_verdict (kept_prices words recs n)
  clash_end p = passed_end (kept_verdict words recs) n p ∙ verdicts

-- what the loop over the prices needs, and two prices
pub ruleset clashing = (passed_none, clash_no, clash_on, clash_end)

pub ruleset comparing = (one_fare, other_fare)

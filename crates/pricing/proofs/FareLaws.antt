-- What journeys cost, looked up among kept prices. Whatever the prices before j were, none has the word; and whatever the first journeys cost, the answer
-- to all is that and then the answer to the rest.
use Prim.Native.Nat.{ℕ, zero, suc, ◌+◌, ◌-◌, ◌≤◌, ◌<◌}
use native.Mathlib.Omega.{arith}
use native.Mathlib.Numerals.{add-one}
use mathlib.Core.Path.{◌≡◌, refl, sym, ◌∙◌, ap, ap₂}
use mathlib.Core.List.{List, [], ◌∷◌, ◌++◌}
use mathlib.Core.Bool.{Bool, true, false, not}
use borrow.Author.Tests.{leb-true, not-false}
use lib.Dec.{leb}
use lib.ListN.{length, get_or, take, drop, set}
use lib.Seq.{drop-cons, drop-drop, drop-length, get_or-set_same, get_or-set_other}
use Rattle.words.specs.Word.{Word, letters_below}
use Rattle.words.specs.Comparing.{query_word}
use Rattle.words.specs.Refusal.{Result, answered, on_answer}
use Rattle.words.specs.Answer.{refused_by}
use Rattle.std.specs.Prelude.{Option, None}
use Rattle.words.specs.Answer.{number_of, place_of}
use Rattle.words.specs.declared.refusals.Refusal.{Refusal}
use Rattle.words.proofs.TestLaws.{and_left}
use Rattle.rewriting.specs.Steps.{same_word}
use Rattle.layout.specs.Slices.{list_from}
use Rattle.prices.specs.Slices.{price_fare}
use Rattle.pricing.specs.Answers.{answers_of}
use Rattle.pricing.specs.Prices.{Fare, no_fare, costs, fare_of}
use Rattle.pricing.specs.Journeys.{journey_limit, add_up, journeys_of}
use Rattle.pricing.specs.Kept.{kept_price, kept_prices}
use Rattle.pricing.specs.Fares.{fare_by, fares_size, fares_in}
use Rattle.pricing.proofs.AnswerLaws.{Onward, onward_start, onward_on, onward_no, onward_end}
use Rattle.pricing.proofs.KeepingLaws.{list_more}
use Rattle.pricing.proofs.JourneyLaws.{journeys_few, lengths_sum}

-- none of the first j prices has the word
unfoldable pub Missed : List Word → List ℕ → ℕ → Word → ℕ → Type 0
Missed words recs n w j = fare_of (kept_prices words recs n) w ≡ fare_of (list_from (kept_price words recs) j (n - j)) w

module _ (words : List Word) (recs : List ℕ) (n : ℕ) (w : Word) where
  pub missed_none : Missed words recs n w 0
  unfolding Missed kept_prices
  missed_none = let e : n - 0 ≡ n = omega arith in rw e

  module _ (j : ℕ) (u : Word) (t : Bool) (m : Missed words recs n w j) (h : j < n) (eu : u ≡ get_or words j []) (et : t ≡ same_word u w) where
    pub missed_hit : (f : ℕ) → t ≡ true → f ≡ price_fare recs j → costs f ≡ fare_of (kept_prices words recs n) w
    unfolding Missed list_from fare_of kept_price
    missed_hit f y e = let q : n - j ≡ suc (n - (j + 1)) = omega arith in sym (m ∙ rw (q, ← eu, ← et, y, ← e))

    pub missed_on : t ≡ false → Missed words recs n w (j + 1)
    unfolding Missed list_from fare_of kept_price
    missed_on y = let q : n - j ≡ suc (n - (j + 1)) = omega arith in m ∙ rw (q, ← eu, ← et, y)

  pub missed_all : Missed words recs n w n → no_fare ≡ fare_of (kept_prices words recs n) w
  unfolding Missed list_from fare_of
  missed_all m = let q : n - n ≡ 0 = omega arith in sym (m ∙ rw q)

-- a journey that is tried and reduced
pub journey_short : (n : ℕ) (w : Word) (t : Bool) → t ≡ query_word n w → not t ≡ false → length w ≤ 128
unfolding query_word
journey_short n w t e h = let s = leb-true (length w) 64 (and_left (leb (length w) 64) (letters_below n w) (sym e ∙ not-false t h)) in omega arith

-- the journeys, one behind the other
pub lengths_next : (ls : List ℕ) (j : ℕ) → j < length ls → drop j ls ≡ get_or ls j 0 ∷ drop (j + 1) ls
lengths_next ls j h = rw (add-one j) (drop-cons ls j 0 h)

module _ (journeys ls : List ℕ) (j o l : ℕ) (s : o + add_up (drop j ls) ≡ length journeys) (h : j < length ls) (e : l ≡ get_or ls j 0) where
  pub sum_on : o + l + add_up (drop (j + 1) ls) ≡ length journeys
  unfolding add_up
  sum_on = let q = rw (lengths_next ls j h) at s in omega (arith, q, e)

  pub sum_inside : o + l ≤ length journeys
  sum_inside = let q = sum_on in omega arith

-- fares stored one behind the other
abbrev stored : List (Option ℕ) → ℕ → Fare
stored fares j = fare_by (get_or fares j None)

fares_same : (d b : List (Option ℕ)) (k n : ℕ) → ((i : ℕ) → i < k + n → get_or b i None ≡ get_or d i None) → list_from (stored b) k n ≡ list_from (stored d) k n
unfolding list_from
fares_same d b k zero f = refl
fares_same d b k (suc n) f = ap₂ ◌∷◌ (ap fare_by (f k (omega arith))) (fares_same d b (k + 1) n (λ i h. f i (omega arith)))

fares_more : (d : List (Option ℕ)) (j : ℕ) (x : Option ℕ) → j < length d → fares_in (set d j x) (j + 1) ≡ fares_in d j ++ (fare_by x ∷ [])
unfolding fares_in
fares_more d j x h =
    let z : 0 + j ≡ j = omega arith in
    let same : list_from (stored (set d j x)) 0 j ≡ list_from (stored d) 0 j = fares_same d (set d j x) 0 j (λ i l. get_or-set_other d j i x None (λ q. omega arith)) in
    list_more (stored (set d j x)) 0 j ∙ rw (z, same, get_or-set_same d j x None h)

-- the loop: the journeys before j, which end at o, have their fares, and the rest is still to come
unfoldable pub Faring : (Word → Result Fare) → List ℕ → List ℕ → List (Option ℕ) → ℕ → ℕ → Type 0
Faring f journeys ls fares j o = Onward (answers_of f (journeys_of journeys ls)) (fares_in fares j) (answers_of f (journeys_of (drop o journeys) (drop j ls)))

module _ (f : Word → Result Fare) (journeys ls : List ℕ) where
  pub faring_start : (fares : List (Option ℕ)) → Faring f journeys ls fares 0 0
  unfolding Faring fares_in list_from
  faring_start fares = onward_start (answers_of f (journeys_of journeys ls))

  module _ (fares : List (Option ℕ)) (j o l : ℕ) (k : Faring f journeys ls fares j o) (h : j < length ls) (e : l ≡ get_or ls j 0) where
    next : (x : Result Fare) → x ≡ f (take (o + l - o) (drop o journeys)) → Onward (answers_of f (journeys_of journeys ls)) (fares_in fares j)
        (on_answer x (λ y. on_answer (answers_of f (journeys_of (drop (o + l) journeys) (drop (j + 1) ls))) (λ ys. answered (y ∷ ys))))
    unfolding Faring journeys_of answers_of
    next x g =
        let q : o + l - o ≡ l = omega arith in
        let w : x ≡ f (take l (drop o journeys)) = rw q at g in
        rw (w, e) (rw (lengths_next ls j h, drop-drop (get_or ls j 0) o journeys) at k)

    pub faring_no : (q : Refusal) → refused_by q ≡ f (take (o + l - o) (drop o journeys)) → refused_by q ≡ answers_of f (journeys_of journeys ls)
    faring_no q g = onward_no (answers_of f (journeys_of journeys ls)) (fares_in fares j) (refused_by q) (answers_of f (journeys_of (drop (o + l) journeys) (drop (j + 1) ls)))
        (next (refused_by q) g) (number_of q) (place_of q) refl

    pub faring_on : (x : Option ℕ) → answered (fare_by x) ≡ f (take (o + l - o) (drop o journeys)) → length fares ≡ fares_size → length ls ≤ journey_limit
        → Faring f journeys ls (set fares j x) (j + 1) (o + l)
    unfolding Faring
    faring_on x g s c = rw (fares_more fares j x (omega arith)) (onward_on (answers_of f (journeys_of journeys ls)) (fares_in fares j) (answered (fare_by x))
        (answers_of f (journeys_of (drop (o + l) journeys) (drop (j + 1) ls))) (next (answered (fare_by x)) g) (fare_by x) refl)

  pub faring_end : (fares : List (Option ℕ)) (j o : ℕ) → Faring f journeys ls fares j o → j ≤ length ls → length ls ≤ j
      → answered (fares_in fares (length ls)) ≡ answers_of f (journeys_of journeys ls)
  unfolding Faring journeys_of answers_of
  faring_end fares j o k h g =
      let e : j ≡ length ls = omega arith in
      onward_end (answers_of f (journeys_of journeys ls)) (fares_in fares (length ls)) (rw (e, drop-length ls) at k)

-- what the two loops need
pub ruleset looking = (missed_none, missed_hit, missed_on, missed_all)

pub ruleset faring = (faring_start, faring_no, faring_on, faring_end, sum_on, sum_inside, journeys_few, lengths_sum)

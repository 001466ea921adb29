-- Price words reduced one after the other. A word kept is that of its price, with the fare of its record; so with each price kept the answer to all is what
-- is kept and then the answer to the rest.
use Prim.Native.Nat.{ℕ, zero, suc, ◌+◌, ◌-◌, ◌<◌}
use native.Mathlib.Omega.{arith}
use mathlib.Core.Path.{◌≡◌, refl, ◌∙◌, ap, ap₂}
use mathlib.Core.List.{List, [], ◌∷◌, ◌++◌}
use lib.ListN.{length, get_or, set}
use lib.Seq.{get_or-set_same, get_or-set_other}
use Rattle.words.specs.Word.{Word}
use Rattle.words.specs.Refusal.{Result, answered, on_answer}
use Rattle.words.specs.Answer.{refused_by, number_of, place_of}
use Rattle.words.specs.declared.refusals.Refusal.{Refusal}
use Rattle.rewriting.specs.Search.{Rule}
use Rattle.rewriting.specs.Normal.{Counted, normal_of}
use Rattle.layout.specs.Slices.{list_from}
use Rattle.prices.specs.Price.{Price}
use Rattle.prices.specs.Slices.{price_word, price_fare, price_in, prices_in}
use Rattle.pricing.specs.Answers.{answers_of}
use Rattle.pricing.specs.Prices.{reduced_price}
use Rattle.pricing.specs.Kept.{kept_price, kept_prices}
use Rattle.pricing.proofs.AnswerLaws.{Onward, onward_start, onward_on, onward_no, onward_end}

-- one more at the end of a list of numbers
pub list_more : {A : Type 0} (f : ℕ → A) (k n : ℕ) → list_from f k (n + 1) ≡ list_from f k n ++ (f (k + n) ∷ [])
unfolding list_from
list_more f k zero = let e : k + 0 ≡ k = omega arith in rw e
list_more {A} f k (suc n) =
    let e : suc n + 1 ≡ suc (n + 1) = omega arith in
    let g : k + 1 + n ≡ k + suc n = omega arith in
    rw e (ap (λ (l : List A). f k ∷ l) (list_more f (k + 1) n ∙ rw g))

-- kept prices from equal words
kept_same : (d b : List Word) (prices : List ℕ) (k n : ℕ) → ((i : ℕ) → i < k + n → get_or b i [] ≡ get_or d i [])
    → list_from (kept_price b prices) k n ≡ list_from (kept_price d prices) k n
unfolding list_from kept_price
kept_same d b prices k zero f = refl
kept_same d b prices k (suc n) f = ap₂ ◌∷◌ (rw (f k (omega arith))) (kept_same d b prices (k + 1) n (λ i h. f i (omega arith)))

kept_more : (d : List Word) (prices : List ℕ) (j : ℕ) (w : Word) → j < length d
    → kept_prices (set d j w) prices (j + 1) ≡ kept_prices d prices j ++ (record { word = w; fare = price_fare prices j } ∷ [])
unfolding kept_prices kept_price
kept_more d prices j w h =
    let z : 0 + j ≡ j = omega arith in
    let same : list_from (kept_price (set d j w) prices) 0 j ≡ list_from (kept_price d prices) 0 j =
    kept_same d (set d j w) prices 0 j (λ i l. get_or-set_other d j i w [] (λ q. omega arith)) in
    list_more (kept_price (set d j w) prices) 0 j ∙ rw (z, same, get_or-set_same d j w [] h)

-- the loop: the prices before j are kept, the rest is still to come
unfoldable pub Keeping : List Rule → ℕ → List ℕ → List ℕ → ℕ → List Word → ℕ → Type 0
Keeping rs allowance prices letters m words j =
    Onward (answers_of (reduced_price rs allowance) (prices_in prices letters m)) (kept_prices words prices j) (answers_of (reduced_price rs allowance) (list_from (price_in prices letters) j (m - j)))

module _ (rs : List Rule) (allowance : ℕ) (prices letters : List ℕ) (m : ℕ) where
  pub keeping_start : (words : List Word) → Keeping rs allowance prices letters m words 0
  unfolding Keeping kept_prices prices_in list_from
  keeping_start words = let e : m - 0 ≡ m = omega arith in rw e (onward_start (answers_of (reduced_price rs allowance) (list_from (price_in prices letters) 0 m)))

  module _ (d : List Word) (j : ℕ) (k : Keeping rs allowance prices letters m d j) (h : j < m) (w : List ℕ) (e : w ≡ price_word prices letters j) where
    next : (x : Result Counted) → x ≡ normal_of rs allowance w → Onward (answers_of (reduced_price rs allowance) (prices_in prices letters m)) (kept_prices d prices j)
        (on_answer (on_answer x (λ z. answered (record { word = z.word; fare = price_fare prices j }))) (λ y.
        on_answer (answers_of (reduced_price rs allowance) (list_from (price_in prices letters) (j + 1) (m - (j + 1)))) (λ ys. answered (y ∷ ys))))
    unfolding Keeping list_from answers_of reduced_price price_in
    next x f = let q : m - j ≡ suc (m - (j + 1)) = omega arith in rw (f, e) (rw q at k)

    pub keeping_no : (q : Refusal) → refused_by q ≡ normal_of rs allowance w → refused_by q ≡ answers_of (reduced_price rs allowance) (prices_in prices letters m)
    keeping_no q f = onward_no (answers_of (reduced_price rs allowance) (prices_in prices letters m)) (kept_prices d prices j) (refused_by q)
        (answers_of (reduced_price rs allowance) (list_from (price_in prices letters) (j + 1) (m - (j + 1)))) (next (refused_by q) f) (number_of q) (place_of q) refl

    pub keeping_on : (v : Word) (n : ℕ) → answered (record { word = v; count = n }) ≡ normal_of rs allowance w → j < length d
        → Keeping rs allowance prices letters m (set d j v) (j + 1)
    unfolding Keeping
    keeping_on v n f l =
        let y : Price = record { word = v; fare = price_fare prices j } in
        rw (kept_more d prices j v l) (onward_on (answers_of (reduced_price rs allowance) (prices_in prices letters m)) (kept_prices d prices j) (answered y)
        (answers_of (reduced_price rs allowance) (list_from (price_in prices letters) (j + 1) (m - (j + 1)))) (next (answered (record { word = v; count = n })) f) y refl)

  pub keeping_end : (words : List Word) → Keeping rs allowance prices letters m words m
      → answered (kept_prices words prices m) ≡ answers_of (reduced_price rs allowance) (prices_in prices letters m)
  unfolding Keeping list_from answers_of
  keeping_end words k =
      let z : m - m ≡ 0 = omega arith in
      onward_end (answers_of (reduced_price rs allowance) (prices_in prices letters m)) (kept_prices words prices m) (rw z at k)

-- what the loop over the prices needs
pub ruleset keeping = (keeping_start, keeping_no, keeping_on, keeping_end)

-- Rankings mean what they should. Reduced price words are normal words, so over a table that decides the sheet two of them are the same exactly if the
-- sheet links the price words, and a journey's normal word is one of them exactly if the sheet links the journey to it. Where no word has two fares, the
-- fare found is the one fare of all price words linked to the journey; and 17 is the lowest price that breaks that.
use Prim.Native.Nat.{ℕ, zero, suc, ◌+◌, ◌≤◌, ◌<◌}
use native.Mathlib.Omega.{arith}
use mathlib.Core.Path.{◌≡◌, refl, sym, ◌∙◌, ap}
use mathlib.Core.Logic.{◌↔◌, ◌⊎◌, ⊎_elim}
use mathlib.Core.List.{List, []}
use mathlib.Core.Bool.{Bool, true, false, cond, not, true≢false}
use borrow.Author.Tests.{le-leb, eqb-true, eqb-false, ltb-true, ltb-false, not-true, not-false}
use lib.Dec.{leb, ltb, eqb}
use lib.ListN.{length, get_or}
use Rattle.words.specs.Word.{Word}
use Rattle.words.specs.Comparing.{query_word}
use Rattle.words.specs.Counting.{in_turn}
use Rattle.words.specs.Refusal.{Result, answered, refused, on_answer}
use Rattle.rewriting.specs.Links.{Linked, OfSheet}
use Rattle.rewriting.specs.Normal.{Counted, normal_of}
use Rattle.rewriting.specs.RightFor.{Decides}
use Rattle.rewriting.specs.Search.{Rule}
use Rattle.rewriting.specs.Sheet.{Equation, Line, rules_of}
use Rattle.rewriting.specs.Steps.{same_word}
use Rattle.rewriting.proofs.BoundedLaws.{refused_runs}
use Rattle.rewriting.proofs.Chains.{chain_append, chain_reverse}
use Rattle.rewriting.proofs.LineageLaws.{same_word_lem, word_same}
use Rattle.rewriting.proofs.RightForLaws.{answers_decide}
use Rattle.layout.specs.Sheets.{sheet_of}
use Rattle.layout.specs.Tables.{table_fits, table_of}
use Rattle.chains.specs.Verdict.{Verdict, met, unless}
use Rattle.prices.specs.Price.{Price, no_price, price_at}
use Rattle.prices.specs.Files.{price_list_fits, price_list_of}
use Rattle.pricing.specs.Answers.{answers_of}
use Rattle.pricing.specs.Prices.{reduced_price, two_fares, differs, fare_verdict, Fare, no_fare, costs, fare_of}
use Rattle.pricing.specs.Journeys.{journey_limit, journeys_fit, journeys_of, journey_fare, fares_with, journey_fares}
use Rattle.pricing.proofs.AnswerLaws.{answers_each, answers_all, answers_refused}
use Rattle.pricing.proofs.LookUpLaws.{Looked, found, missing, looked}
use Rattle.ranking.specs.Ranking.{fare_at, amount, Ranking, ranking_of}
use Rattle.ranking.specs.Results.{goes_with, ranked_by, rank_result}
use Rattle.sorting.proofs.PlaceLaws.{element_at}
use Rattle.ranking.proofs.RankingLaws.{ranking_is, priced_there}
use Rattle.meaning.specs.SameFare.{SameFare}
use Rattle.meaning.specs.Ranking.{PricedAt, Clashes, journey_at, Ranks, UpToFares, RankMeans, RankingMeans}
use Rattle.meaning.proofs.ExactLaws.{equal_exactly, and_exactly, not_exactly, any_exactly, unless_exactly, each_exactly}
use Rattle.meaning.proofs.SameFare.{same_fare_lem}

-- what a reduced price and a journey's fare say
price_says : (rs : List Rule) (a : ℕ) (p q : Price) → reduced_price rs a p ≡ answered q
    → (z : Counted) × (normal_of rs a p.word ≡ answered z) × (z.word ≡ q.word) × (q.fare ≡ p.fare)
unfolding reduced_price
price_says rs a p q e = go (normal_of rs a p.word) refl e
  where
    go : (x : Result Counted) → normal_of rs a p.word ≡ x → on_answer x (λ z. answered (record { word = z.word; fare = p.fare })) ≡ answered q
        → (z : Counted) × (normal_of rs a p.word ≡ answered z) × (z.word ≡ q.word) × (q.fare ≡ p.fare)
    go (answered z) f h = let s : record { word = z.word; fare = p.fare } ≡ q = cc in (z, f, ap (λ (y : Price). y.word) s, sym (ap (λ (y : Price). y.fare) s))
    go (refused n m) f h = let y : ◌≡◌ {A = ℕ} 0 1 = cc in absurd (omega arith)

journey_says : (n : ℕ) (rs : List Rule) (a : ℕ) (qs : List Price) (w : Word) (x : Fare) → journey_fare n rs a qs w ≡ answered x
    → (z : Counted) × (normal_of rs a w ≡ answered z) × (fare_of qs z.word ≡ x)
unfolding journey_fare
journey_says n rs a qs w x e = go (query_word n w) (normal_of rs a w) refl e
  where
    go : (t : Bool) (y : Result Counted) → normal_of rs a w ≡ y → cond t (on_answer y (λ z. answered (fare_of qs z.word))) (refused 4 0) ≡ answered x
        → (z : Counted) × (normal_of rs a w ≡ answered z) × (fare_of qs z.word ≡ x)
    go true (answered z) f h = (z, f, cc)
    go true (refused i j) f h = let y : ◌≡◌ {A = ℕ} 0 1 = cc in absurd (omega arith)
    go false y f h = let q : ◌≡◌ {A = ℕ} 0 1 = cc in absurd (omega arith)

reduces : (rs : List Rule) (a : ℕ) (p : Price) (z : Counted) → normal_of rs a p.word ≡ answered z → (q : Price) × (reduced_price rs a p ≡ answered q)
unfolding reduced_price
reduces rs a p z e = (record { word = z.word; fare = p.fare }, rw e)

-- two fares for one word
two_exactly : (p q : Price) → (two_fares p q ≡ true) ↔ ((p.word ≡ q.word) × (p.fare ≡ q.fare → ⊥))
unfolding two_fares
two_exactly p q =
    and_exactly (same_word p.word q.word) (not (eqb p.fare q.fare))
    (same_word_lem p.word q.word, λ e. rw e (word_same q.word))
    (not_exactly (eqb p.fare q.fare) (equal_exactly p.fare q.fare))

-- the lowest number that a test fails at
lowest : (t : ℕ → Bool) (c n s k : ℕ) → (in_turn (λ i u. unless (t i) c i) s n tt ≡ refused c k)
    ↔ ((s ≤ k) × (k < s + n) × (t k ≡ false) × ((i : ℕ) → s ≤ i → i < k → t i ≡ true))
unfolding in_turn
lowest t c zero s k = (λ e. let z : ◌≡◌ {A = ℕ} 0 1 = cc in absurd (omega arith), λ p. let a = p.0 in let b = p.1 in absurd (omega arith))
lowest t c (suc n) s k = go (t s) refl (lowest t c n (s + 1) k)
  where
    Low : ℕ → ℕ → Type 0
    Low r m = (r ≤ k) × (k < r + m) × (t k ≡ false) × ((i : ℕ) → r ≤ i → i < k → t i ≡ true)

    later : t s ≡ true → Low (s + 1) n → Low s (suc n)
    later f p = let a = p.0 in let b = p.1 in (omega arith, omega arith, p.2, λ i h g. at i h g (eqb i s) refl)
      where
        at : (i : ℕ) → s ≤ i → i < k → (y : Bool) → eqb i s ≡ y → t i ≡ true
        at i h g true y = rw (eqb-true i s y) f
        at i h g false y = let x = eqb-false i s y in p.3 i (after i h x) g
          where
            after : (i : ℕ) → s ≤ i → (i ≡ s → ⊥) → s + 1 ≤ i
            after i h x = omega arith

    earlier : t s ≡ true → Low s (suc n) → Low (s + 1) n
    earlier f p =
        let x : k ≡ s → ⊥ = λ q. true≢false (sym f ∙ rw q at p.2) in
        let a = p.0 in
        let b = p.1 in
        (omega arith, omega arith, p.2, λ i h g. p.3 i (omega arith) g)

    here : t s ≡ false → s ≡ k → Low s (suc n)
    here f q = (omega arith, omega arith, rw (← q) f, λ i h g. absurd (omega arith))

    is : t s ≡ false → Low s (suc n) → s ≡ k
    is f p = test (ltb s k) refl
      where
        test : (y : Bool) → ltb s k ≡ y → s ≡ k
        test true y = absurd (true≢false (sym (p.3 s (omega arith) (ltb-true s k y)) ∙ f))
        test false y = let a = p.0 in let b = ltb-false s k y in omega arith

    go : (y : Bool) → t s ≡ y → (in_turn (λ i u. unless (t i) c i) (s + 1) n tt ≡ refused c k) ↔ Low (s + 1) n
        → (on_answer (unless y c s) (λ u. in_turn (λ i v. unless (t i) c i) (s + 1) n u) ≡ refused c k) ↔ Low s (suc n)
    go true f h = (λ e. later f (h.0 e), λ p. h.1 (earlier f p))
    go false f h = (λ e. here f (cc), λ p. rw (is f p))

module _ (es : List Equation) (ts : List Line) (d : Decides es ts) (a : ℕ) (ps qs : List Price) (e : answers_of (reduced_price (rules_of ts) a) ps ≡ answered qs) where
  many : length qs ≡ length ps
  many = (answers_each (reduced_price (rules_of ts) a) no_price no_price ps qs e).0

  said : (k : ℕ) → k < length ps
      → (z : Counted) × (normal_of (rules_of ts) a (price_at ps k).word ≡ answered z) × (z.word ≡ (price_at qs k).word) × ((price_at qs k).fare ≡ (price_at ps k).fare)
  said k h = price_says (rules_of ts) a (price_at ps k) (price_at qs k) ((answers_each (reduced_price (rules_of ts) a) no_price no_price ps qs e).1 k h)

  -- a normal word is a reduced price word exactly if the sheet links the words
  linked : (w : Word) (z : Counted) → normal_of (rules_of ts) a w ≡ answered z → (k : ℕ) → k < length ps
      → (z.word ≡ (price_at qs k).word) ↔ Linked (OfSheet es) w (price_at ps k).word
  linked w z f k h =
      let s = said k h in
      let x = answers_decide d a a w (price_at ps k).word z s.0 f s.1 in
      (λ g. x.0 (g ∙ sym s.2), λ l. x.1 l ∙ s.2)

  -- two reduced price words
  linked_two : (k j : ℕ) → k < length ps → j < length ps → ((price_at qs k).word ≡ (price_at qs j).word) ↔ Linked (OfSheet es) (price_at ps k).word (price_at ps j).word
  linked_two k j h g =
      let s = said k h in
      let x = linked (price_at ps k).word s.0 s.1 j g in
      (λ f. x.0 (s.2 ∙ f), λ l. sym s.2 ∙ x.1 l)

  clash_exactly : (k : ℕ) → k < length ps → (differs qs k ≡ true) ↔ Clashes es ps k
  unfolding differs
  clash_exactly k h =
      let x = any_exactly (λ j. two_fares (price_at qs k) (price_at qs j)) k (λ j. two_exactly (price_at qs k) (price_at qs j)) in (
        λ f. let p = x.0 f in let j = p.0 in let l : j < length ps = let g = p.1 in omega arith in
            (j, p.1, (linked_two k j h l).0 p.2.0, λ g. p.2.1 ((said k h).3 ∙ g ∙ sym (said j l).3)),
        λ c. let j = c.0 in let l : j < length ps = let g = c.1 in omega arith in
            x.1 (j, c.1, ((linked_two k j h l).1 c.2, λ g. c.3 (sym (said k h).3 ∙ g ∙ (said j l).3))),
      )

  -- no word has two fares exactly if no price clashes
  single_exactly : (fare_verdict qs ≡ met) ↔ ((k : ℕ) → k < length ps → Clashes es ps k → ⊥)
  unfolding fare_verdict
  single_exactly =
      let x = each_exactly (length qs) (λ k. unless (not (differs qs k)) 17 k) (λ k. unless_exactly (not (differs qs k)) 17 k (not_exactly (differs qs k) (λ f. f, λ f. f))) in (
        λ f k h c. x.0 f k (rw many h) ((clash_exactly k h).1 c),
        λ f. x.1 (λ k h g. let l : k < length ps = rw (← many) h in f k l ((clash_exactly k l).0 g)),
      )

  -- and the lowest that does is refused
  clash_lowest : (k : ℕ) → (fare_verdict qs ≡ refused 17 k) ↔ ((k < length ps) × Clashes es ps k × ((i : ℕ) → i < k → Clashes es ps i → ⊥))
  unfolding fare_verdict
  clash_lowest k =
      let x = lowest (λ i. not (differs qs i)) 17 (length qs) 0 k in (
        λ f. let p = x.0 f in let b = p.1 in let h : k < length ps = omega (arith, many) in
            (h, (clash_exactly k h).0 (not-false (differs qs k) p.2), λ i l c. below p i l c),
        λ q. x.1 (omega arith, let h = q.0 in omega (arith, many), rw ((clash_exactly k q.0).1 q.1), λ i o l. clear q i l (differs qs i) refl),
      )
    where
      below : (0 ≤ k) × (k < 0 + length qs) × (not (differs qs k) ≡ false) × ((i : ℕ) → 0 ≤ i → i < k → not (differs qs i) ≡ true) → (i : ℕ) → i < k → Clashes es ps i → ⊥
      below p i l c =
          let b = p.1 in
          true≢false (sym ((clash_exactly i (omega (arith, many))).1 c) ∙ not-true (differs qs i) (p.3 i (omega arith) l))

      clear : (k < length ps) × Clashes es ps k × ((i : ℕ) → i < k → Clashes es ps i → ⊥) → (i : ℕ) → i < k → (y : Bool) → differs qs i ≡ y → not y ≡ true
      clear q i l true y = let h = q.0 in absurd (q.2 i l ((clash_exactly i (omega arith)).0 y))
      clear q i l false y = refl

  -- the fares of a word, where no word has two
  module _ (m : fare_verdict qs ≡ met) where
    same_fares : (k j : ℕ) → k < length ps → j < length ps → Linked (OfSheet es) (price_at ps k).word (price_at ps j).word → (price_at ps k).fare ≡ (price_at ps j).fare
    same_fares k j h g l = test (eqb (price_at ps k).fare (price_at ps j).fare) refl (ltb j k) refl (ltb k j) refl
      where
        test : (x : Bool) → eqb (price_at ps k).fare (price_at ps j).fare ≡ x → (y : Bool) → ltb j k ≡ y → (v : Bool) → ltb k j ≡ v → (price_at ps k).fare ≡ (price_at ps j).fare
        test true x y ey v ev = eqb-true (price_at ps k).fare (price_at ps j).fare x
        test false x true y v ev = absurd (single_exactly.0 m k h (j, ltb-true j k y, l, eqb-false (price_at ps k).fare (price_at ps j).fare x))
        test false x false y true v = absurd (single_exactly.0 m j g (k, ltb-true k j v, chain_reverse l, λ e. eqb-false (price_at ps k).fare (price_at ps j).fare x (sym e)))
        test false x false y false v = let b = ltb-false j k y in let c = ltb-false k j v in let e : k ≡ j = omega arith in ap (λ (i : ℕ). (price_at ps i).fare) e

    single_fare : (w : Word) (f g : ℕ) → PricedAt es ps w f → PricedAt es ps w g → f ≡ g
    single_fare w f g p q = sym p.3 ∙ same_fares p.0 q.0 p.1 q.1 (chain_append (chain_reverse p.2) q.2) ∙ q.3

    module _ (w : Word) (z : Counted) (f : normal_of (rules_of ts) a w ≡ answered z) where
      found_exactly : (g : ℕ) → (fare_of qs z.word ≡ costs g) ↔ PricedAt es ps w g
      found_exactly g = (λ e. from (fare_of qs z.word) (looked qs z.word) e, λ p. to p (fare_of qs z.word) (looked qs z.word))
        where
          at : (k : ℕ) → k < length qs → (price_at qs k).word ≡ z.word → PricedAt es ps w (price_at qs k).fare
          at k h e = let l : k < length ps = rw many at h in (k, l, (linked w z f k l).0 (sym e), sym (said k l).3)

          from : (x : Fare) → Looked qs z.word x → x ≡ costs g → PricedAt es ps w g
          from x (found k h e o) q = let n : (price_at qs k).fare ≡ g = cc in rw n at (at k h e)
          from x (missing o) q = let y : ◌≡◌ {A = ℕ} 0 1 = cc in absurd (omega arith)

          to : PricedAt es ps w g → (x : Fare) → Looked qs z.word x → x ≡ costs g
          to p x (found k h e o) = ap costs (single_fare w (price_at qs k).fare g (at k h e) p)
          to p x (missing o) = absurd (o p.0 (rw many p.1) (sym ((linked w z f p.0 p.1).1 p.2)))

      missing_exactly : (fare_of qs z.word ≡ no_fare) ↔ ((g : ℕ) → PricedAt es ps w g → ⊥)
      missing_exactly = (λ e g p. let q = (found_exactly g).1 p in let y : ◌≡◌ {A = ℕ} 0 1 = cc in omega arith, λ n. none n (fare_of qs z.word) refl)
        where
          none : ((g : ℕ) → PricedAt es ps w g → ⊥) → (x : Fare) → fare_of qs z.word ≡ x → x ≡ no_fare
          none n no_fare e = refl
          none n (costs g) e = absurd (n g ((found_exactly g).0 e))

-- what an answer of several parts was answered by
test_answered : {A : Type 0} (b : Bool) (x : Result A) (n p : ℕ) (r : A) → cond b x (refused n p) ≡ answered r → x ≡ answered r
test_answered true x n p r e = e
test_answered false x n p r e = let z : ◌≡◌ {A = ℕ} 0 1 = cc in absurd (omega arith)

then_answered : {A B : Type 0} (x : Result A) (f : A → Result B) (r : B) → on_answer x f ≡ answered r → (a : A) × (x ≡ answered a) × (f a ≡ answered r)
then_answered (answered a) f r e = (a, refl, e)
then_answered (refused n p) f r e = let z : ◌≡◌ {A = ℕ} 0 1 = cc in absurd (omega arith)

-- journeys ranked by lines that decide the sheet
module _ (es : List Equation) (ts : List Line) (d : Decides es ts) (n a : ℕ) (ps qs : List Price) (ws : List Word) (fs : List Fare)
    (e : answers_of (reduced_price (rules_of ts) a) ps ≡ answered qs) (m : fare_verdict qs ≡ met)
    (g : answers_of (journey_fare n (rules_of ts) a qs) ws ≡ answered fs) where
  as_many : length fs ≡ length ws
  as_many = (answers_each (journey_fare n (rules_of ts) a qs) [] no_fare ws fs g).0

  costs_exactly : (k f : ℕ) → k < length ws → (fare_at fs k ≡ costs f) ↔ PricedAt es ps (journey_at ws k) f
  costs_exactly k f h =
      let s = journey_says n (rules_of ts) a qs (journey_at ws k) (fare_at fs k) ((answers_each (journey_fare n (rules_of ts) a qs) [] no_fare ws fs g).1 k h) in
      let x = found_exactly es ts d a ps qs e m (journey_at ws k) s.0 s.1 f in
      (λ y. x.0 (s.2 ∙ y), λ p. sym s.2 ∙ x.1 p)

  none_exactly : (k : ℕ) → k < length ws → (fare_at fs k ≡ no_fare) ↔ ((f : ℕ) → PricedAt es ps (journey_at ws k) f → ⊥)
  none_exactly k h =
      let s = journey_says n (rules_of ts) a qs (journey_at ws k) (fare_at fs k) ((answers_each (journey_fare n (rules_of ts) a qs) [] no_fare ws fs g).1 k h) in
      let x = missing_exactly es ts d a ps qs e m (journey_at ws k) s.0 s.1 in
      (λ y. x.0 (s.2 ∙ y), λ p. sym s.2 ∙ x.1 p)

  ranks : Ranks es ps ws (ranking_of fs)
  ranks =
      let i = ranking_is fs in
      let r = ranking_of fs in
      record {
        single = single_fare es ts d a ps qs e m;
        priced = λ k. (
          λ p. let y = (i.priced k).0 p in let h : k < length ws = rw as_many at (priced_there fs k y.0 y.1) in (h, (y.0, (costs_exactly k y.0 h).0 y.1)),
          λ p. (i.priced k).1 (p.1.0, (costs_exactly k p.1.0 p.0).1 p.1.1),
        );
        unpriced = λ k. (
          λ p. let y = (i.unpriced k).0 p in let h : k < length ws = rw as_many at y.0 in (h, (none_exactly k h).0 y.1),
          λ p. (i.unpriced k).1 (rw as_many p.0, (none_exactly k p.0).1 p.1),
        );
        rising = λ k j f h l o p q. rise k j f h l o p q;
        in_order = i.in_order;
      }
    where
      cost : (k f : ℕ) → k < length (ranking_of fs).priced → PricedAt es ps (journey_at ws (get_or (ranking_of fs).priced k 0)) f → amount (fare_at fs (get_or (ranking_of fs).priced k 0)) ≡ f
      cost k f h p =
          let x = get_or (ranking_of fs).priced k 0 in
          let y = ((ranking_is fs).priced x).0 (element_at 0 (ranking_of fs).priced k h) in
          ap amount ((costs_exactly x f (rw as_many at (priced_there fs x y.0 y.1))).1 p)

      rise : (k j f h : ℕ) → k < j → j < length (ranking_of fs).priced → PricedAt es ps (journey_at ws (get_or (ranking_of fs).priced k 0)) f
          → PricedAt es ps (journey_at ws (get_or (ranking_of fs).priced j 0)) h
          → (f < h) ⊎ ((f ≡ h) × (get_or (ranking_of fs).priced k 0 < get_or (ranking_of fs).priced j 0))
      rise k j f h l o p q = rw (cost k f (omega arith) p, cost j h o q) at ((ranking_is fs).rising k j l o)

-- a journey is refused by 4, 5 or 6, so 17 is that of the prices
journey_low : (n : ℕ) (rs : List Rule) (a : ℕ) (qs : List Price) (w : Word) (i p : ℕ) → journey_fare n rs a qs w ≡ refused i p → i ≤ 6
unfolding journey_fare
journey_low n rs a qs w i p e = go (query_word n w) (normal_of rs a w) refl e
  where
    low : (j m : ℕ) → normal_of rs a w ≡ refused j m → j ≤ 6
    low j m f = ⊎_elim (λ x. let y = x.0 in omega arith) (λ x. let y = x.0 in omega arith) (refused_runs rs a w j m f).1

    go : (t : Bool) (y : Result Counted) → normal_of rs a w ≡ y → cond t (on_answer y (λ z. answered (fare_of qs z.word))) (refused 4 0) ≡ refused i p → i ≤ 6
    go true (answered z) f h = let y : ◌≡◌ {A = ℕ} 0 1 = cc in absurd (omega arith)
    go true (refused j m) f h = let y : j ≡ i = cc in rw (← y) (low j m f)
    go false y f h = let q : ◌≡◌ {A = ℕ} 4 i = cc in omega arith

journeys_low : (n : ℕ) (rs : List Rule) (a : ℕ) (qs : List Price) (ws : List Word) (p : ℕ) → answers_of (journey_fare n rs a qs) ws ≡ refused 17 p → ⊥
journeys_low n rs a qs ws p e =
    let r = answers_refused (journey_fare n rs a qs) [] no_fare ws 17 p e in
    let l = journey_low n rs a qs (journey_at ws r.0) 17 p r.2 in
    omega arith

prices_first : (v : Verdict) (x : Result (List Fare)) (k : ℕ) → ((p : ℕ) → x ≡ refused 17 p → ⊥)
    → (on_answer (on_answer v (λ _. x)) (λ fs. answered (ranking_of fs)) ≡ refused 17 k) ↔ (v ≡ refused 17 k)
prices_first (answered tt) x k n = (λ e. absurd (go x e n), λ e. let z : ◌≡◌ {A = ℕ} 0 1 = cc in absurd (omega arith))
  where
    go : (y : Result (List Fare)) → on_answer y (λ fs. answered (ranking_of fs)) ≡ refused 17 k → ((p : ℕ) → y ≡ refused 17 p → ⊥) → ⊥
    go (answered fs) e f = let z : ◌≡◌ {A = ℕ} 0 1 = cc in omega arith
    go (refused i p) e f = let q : ◌≡◌ {A = ℕ} i 17 = cc in f p (rw q)
prices_first (refused i p) x k n =
    (λ e. let q : ◌≡◌ {A = ℕ} i 17 = cc in let r : p ≡ k = cc in rw (q, r), λ e. let q : ◌≡◌ {A = ℕ} i 17 = cc in let r : p ≡ k = cc in rw (q, r))

-- over an accepted table
module _ (sheet table : List ℕ) (s : SameFare sheet table) where
  answer_means : (prices letters lengths : List ℕ) (allowance room space : ℕ) (r : Ranking) → rank_result table prices letters lengths allowance room space ≡ answered r
      → Ranks (sheet_of sheet).equations (price_list_of prices).prices (journeys_of letters lengths) r
  unfolding rank_result ranked_by journey_fares fares_with
  answer_means prices letters lengths allowance room space r e =
      let t = table_of table in
      let ps = (price_list_of prices).prices in
      let ws = journeys_of letters lengths in
      let e1 = test_answered (leb journey_limit room) _ 3 0 r e in
      let e2 = test_answered (leb journey_limit space) _ 3 0 r e1 in
      let e3 = test_answered (table_fits table) _ 1 0 r e2 in
      let e4 = test_answered (price_list_fits prices) _ 1 0 r e3 in
      let e5 = test_answered (journeys_fit letters lengths) _ 1 0 r e4 in
      let e6 = test_answered (goes_with t (price_list_of prices)) _ 2 0 r e5 in
      let f = then_answered (journey_fares t.letters (rules_of t.lines) allowance ps ws) (λ fs. answered (ranking_of fs)) r e6 in
      let g = then_answered (answers_of (reduced_price (rules_of t.lines) allowance) ps) (λ qs. fares_with t.letters (rules_of t.lines) allowance qs ws) f.0 f.1 in
      let h = then_answered (fare_verdict g.0) (λ _. answers_of (journey_fare t.letters (rules_of t.lines) allowance g.0) ws) f.0 g.2 in
      let q : ranking_of f.0 ≡ r = cc f.2 in
      rw q at (ranks (sheet_of sheet).equations t.lines s.decides t.letters allowance ps g.0 ws f.0 g.1 h.1 h.2)

  clash_means : (prices letters lengths : List ℕ) (allowance room space k : ℕ) → UpToFares table prices letters lengths allowance room space
      → (rank_result table prices letters lengths allowance room space ≡ refused 17 k)
      ↔ ((k < length (price_list_of prices).prices) × Clashes (sheet_of sheet).equations (price_list_of prices).prices k
      × ((i : ℕ) → i < k → Clashes (sheet_of sheet).equations (price_list_of prices).prices i → ⊥))
  unfolding rank_result ranked_by journey_fares fares_with
  clash_means prices letters lengths allowance room space k u =
      let t = table_of table in
      let rs = rules_of t.lines in
      let ps = (price_list_of prices).prices in
      let ws = journeys_of letters lengths in
      let q = answers_all (reduced_price rs allowance) no_price no_price ps (λ j h. reduces rs allowance (price_at ps j) (u.words j h).0 (u.words j h).1) in
      let x = prices_first (fare_verdict q.0) (answers_of (journey_fare t.letters rs allowance q.0) ws) k (journeys_low t.letters rs allowance q.0 ws) in
      let y = clash_lowest (sheet_of sheet).equations t.lines s.decides allowance ps q.0 q.1 k in
      rw (le-leb journey_limit room u.first, le-leb journey_limit space u.second, u.is_table, u.is_price_list, u.are_journeys, u.agree, q.1)
      (λ e. y.0 (x.0 e), λ c. x.1 (y.1 c))

  pub rank_means : RankMeans sheet table
  rank_means = record { answers = answer_means; clashes = clash_means }

pub ranking_means : RankingMeans
ranking_means sheet table e = rank_means sheet table (same_fare_lem sheet table e)

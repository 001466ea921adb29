-- Conditions 5 and 6 as the code finds them: two normal words compared, then equations in sheet order, then pairs by line, line and place.
use Prim.Native.Nat.{ℕ, ◌+◌, ◌<◌}
use mathlib.Core.Path.{◌≡◌, sym, ◌∙◌, ap}
use mathlib.Core.List.{List, []}
use mathlib.Core.Bool.{Bool, true, false, not, cond}
use borrow.Author.Tests.{not-true, not-false}
use lib.ListN.{length}
use Rattle.words.specs.Word.{Word}
use Rattle.std.specs.Prelude.{Result as Outcome}
use Rattle.words.specs.Refusal.{answered, on_answer}
use Rattle.words.specs.Answer.{refused_by}
use Rattle.words.specs.declared.refusals.Refusal.{Refusal}
use Rattle.rewriting.specs.Search.{Rule}
use Rattle.rewriting.specs.Sheet.{Equation, equation_at, Line}
use Rattle.layout.specs.Slices.{equation_left, equation_right, line_left, stands_by, line_in, equation_in, equations_in, lines_in, rules_in}
use Rattle.layout.proofs.SliceLaws.{lines_long, line_at_lem, equations_long, equation_at_lem}
use Rattle.layout.proofs.BareLaws.{bare_long, bare_left, bare_right, bare_stands}
use Rattle.reducing.specs.Answers.{fares_as}
use Rattle.reducing.specs.SameFare.{same_fare, same_reducts}
use Rattle.chains.specs.Verdict.{Verdict, met, unless, each}
use Rattle.rewriting.specs.Pairs.{is_pair, Reducts, reducts_of_lines}
use Rattle.checking.specs.OneNormal.{same_or, equations_verdict, pair_verdict, places_verdict, two_lines, others_verdict, of_line, pairs_verdict}
use Rattle.chains.proofs.LineLaws.{left_of_lem, stands_of}
use Rattle.chains.specs.Answers.{verdict_as}
use Rattle.chains.proofs.EachLaws.{Passed, passed_none, passed_on, passed_no, passed_end}

-- the two words that were compared
pub joins_are : (rs : List Rule) (n p : ℕ) (u v x y : Word) (j : Outcome Bool Refusal) (w : Outcome (Unit {0}) Refusal) → u ≡ x → v ≡ y → fares_as j ≡ same_fare rs 4096 u v
    → verdict_as w ≡ on_answer (fares_as j) (λ same. unless same n p) → verdict_as w ≡ same_or rs n p x y
unfolding same_or
joins_are rs n p u v x y j w a b e f = f ∙ rw (e, a, b)

-- equations
abbrev sides : List Rule → List Equation → ℕ → Verdict
sides rs es k = same_or rs 15 k (equation_at es k).left (equation_at es k).right

unfoldable pub Sides : List Rule → List ℕ → List ℕ → ℕ → ℕ → Type 0
Sides rs erecs ewords e k = Passed (sides rs (equations_in erecs ewords e)) e k

module _ (rs : List Rule) (erecs ewords : List ℕ) (e : ℕ) where
  abbrev es : List Equation
  es = equations_in erecs ewords e

  all_sides : equations_verdict rs es ≡ each e (sides rs es)
  unfolding equations_verdict
  all_sides = rw (equations_long erecs ewords e)

  pub sides_start : Sides rs erecs ewords e 0
  unfolding Sides
  sides_start = passed_none (sides rs es) e

  module _ (k : ℕ) (p : Sides rs erecs ewords e k) (h : k < e) where
    sides_at : same_or rs 15 k (equation_left erecs ewords k) (equation_right erecs ewords k) ≡ sides rs es k
    unfolding equation_in
    sides_at = let q = equation_at_lem erecs ewords e k h in rw (ap (λ (x : Equation). x.left) q, ap (λ (x : Equation). x.right) q)

    pub sides_on : (u : Unit {0}) → answered u ≡ same_or rs 15 k (equation_left erecs ewords k) (equation_right erecs ewords k) → Sides rs erecs ewords e (k + 1)
    unfolding Sides
    sides_on u f = passed_on (sides rs es) e k u p h (f ∙ sides_at)

    pub sides_no : (r : Refusal) → refused_by r ≡ same_or rs 15 k (equation_left erecs ewords k) (equation_right erecs ewords k) → refused_by r ≡ equations_verdict rs es
    unfolding Sides
    sides_no r f = passed_no (sides rs es) e k r p h (f ∙ sides_at) ∙ sym all_sides

  pub sides_end : Sides rs erecs ewords e e → met ≡ equations_verdict rs es
  unfolding Sides
  sides_end p = passed_end (sides rs es) e p ∙ sym all_sides

-- pairs of the lines that the slices hold
module _ (recs words : List ℕ) (n : ℕ) where
  abbrev ts : List Line
  ts = lines_in recs [] words n

  abbrev rs : List Rule
  rs = rules_in recs words 0 n

  -- one place
  module _ (i m k : ℕ) (hi : i < n) (hm : m < n) where
    abbrev words_of : Reducts
    words_of = reducts_of_lines k (line_in recs [] words i) (line_in recs [] words m)

    pair_is : pair_verdict rs ts i m k
        ≡ cond (is_pair i m k (line_left recs words i) (line_left recs words m)) (same_or rs 16 i words_of.first words_of.second) met
    unfolding pair_verdict line_in
    pair_is = rw (line_at_lem recs [] words n i hi, line_at_lem recs [] words n m hm)

    pub pair_none : (t : Bool) (l x : Word) → l ≡ line_left recs words i → x ≡ line_left recs words m → t ≡ is_pair i m k l x → not t ≡ true
        → met ≡ pair_verdict rs ts i m k
    pair_none t l x a b e f = rw (pair_is, ← a, ← b, ← e, not-true t f)

    pub pair_joined : (t : Bool) (l x : Word) (j : Outcome Bool Refusal) (w : Outcome (Unit {0}) Refusal) → l ≡ line_left recs words i → x ≡ line_left recs words m → t ≡ is_pair i m k l x
        → not t ≡ false → fares_as j ≡ same_reducts rs 4096 words_of
        → verdict_as w ≡ on_answer (fares_as j) (λ same. unless same 16 i) → verdict_as w ≡ pair_verdict rs ts i m k
    unfolding same_or
    pair_joined t l x j w a b e f g h =
        let q : is_pair i m k (line_left recs words i) (line_left recs words m) ≡ true = rw (← a, ← b) (sym e ∙ not-false t f) in
        h ∙ rw (pair_is, q, g)

  -- all places of line i's left word
  abbrev places : ℕ → ℕ → ℕ → Verdict
  places i m k = pair_verdict rs ts i m k

  module _ (i m e : ℕ) (l : Word) (hi : i < n) (el : l ≡ line_left recs words i) (ee : e ≡ length l) where
    all_places : places_verdict rs ts i m ≡ each e (places i m)
    unfolding places_verdict
    all_places = rw (left_of_lem recs [] words n i hi, ee, el)

    pub places_no : (k : ℕ) (r : Refusal) → Passed (places i m) e k → k < e → refused_by r ≡ places i m k → refused_by r ≡ places_verdict rs ts i m
    places_no k r p h f = passed_no (places i m) e k r p h f ∙ sym all_places

    pub places_end : Passed (places i m) e e → met ≡ places_verdict rs ts i m
    places_end p = passed_end (places i m) e p ∙ sym all_places

  -- line i with line m
  module _ (i m : ℕ) (hm : m < n) (t : Bool) (e : t ≡ stands_by recs m) where
    pub with_fallen : t ≡ false → met ≡ two_lines rs ts i m
    unfolding two_lines
    with_fallen f = rw (stands_of recs [] words n m hm, ← e, f)

    pub with_standing : (w : Outcome (Unit {0}) Refusal) → t ≡ true → verdict_as w ≡ places_verdict rs ts i m → verdict_as w ≡ two_lines rs ts i m
    unfolding two_lines
    with_standing w f g = rw (stands_of recs [] words n m hm, ← e, f) g

  -- line i with all lines
  module _ (i : ℕ) where
    all_others : others_verdict rs ts i ≡ each n (two_lines rs ts i)
    unfolding others_verdict
    all_others = rw (lines_long recs [] words n)

    pub others_no : (k : ℕ) (r : Refusal) → Passed (two_lines rs ts i) n k → k < n → refused_by r ≡ two_lines rs ts i k → refused_by r ≡ others_verdict rs ts i
    others_no k r p h f = passed_no (two_lines rs ts i) n k r p h f ∙ sym all_others

    pub others_end : Passed (two_lines rs ts i) n n → met ≡ others_verdict rs ts i
    others_end p = passed_end (two_lines rs ts i) n p ∙ sym all_others

  module _ (i : ℕ) (hi : i < n) (t : Bool) (e : t ≡ stands_by recs i) where
    pub line_fallen : t ≡ false → met ≡ of_line rs ts i
    unfolding of_line
    line_fallen f = rw (stands_of recs [] words n i hi, ← e, f)

    pub line_standing : (w : Outcome (Unit {0}) Refusal) → t ≡ true → verdict_as w ≡ others_verdict rs ts i → verdict_as w ≡ of_line rs ts i
    unfolding of_line
    line_standing w f g = rw (stands_of recs [] words n i hi, ← e, f) g

  -- all lines
  all_pairs : pairs_verdict rs ts ≡ each n (of_line rs ts)
  unfolding pairs_verdict
  all_pairs = rw (lines_long recs [] words n)

  pub pairs_no : (k : ℕ) (r : Refusal) → Passed (of_line rs ts) n k → k < n → refused_by r ≡ of_line rs ts k → refused_by r ≡ pairs_verdict rs ts
  pairs_no k r p h f = passed_no (of_line rs ts) n k r p h f ∙ sym all_pairs

  pub pairs_end : Passed (of_line rs ts) n n → met ≡ pairs_verdict rs ts
  pairs_end p = passed_end (of_line rs ts) n p ∙ sym all_pairs

-- no step is looked at
pub pairs_bare : (rs : List Rule) (recs steps words : List ℕ) (n : ℕ) → pairs_verdict rs (lines_in recs steps words n) ≡ pairs_verdict rs (lines_in recs [] words n)
unfolding pairs_verdict of_line others_verdict two_lines places_verdict pair_verdict
pairs_bare rs recs steps words n =
    simp (bare_long recs steps words n, bare_left recs steps words n, bare_right recs steps words n, bare_stands recs steps words n)

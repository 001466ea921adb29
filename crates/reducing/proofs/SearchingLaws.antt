-- The search in a table's lines. At one place, whatever the lines before j were, none of them was chosen: what is left is the choice among the
-- lines from j on. Through the places it is the same. A replacement found has its line among the lines, and its left word stands there.
use Prim.Native.Nat.{ℕ, zero, suc, ◌+◌, ◌-◌, ◌≤◌, ◌<◌}
use mathlib.Core.Path.{◌≡◌, refl, sym, ◌∙◌, ap}
use mathlib.Core.Logic.{⊎_elim}
use mathlib.Core.Bool.{Bool, true, false, cond, ◌&&◌}
use mathlib.Core.List.Memᴰ
use mathlib.Core.List.{List, ◌∷◌, Memᴰ}
use native.Mathlib.Omega.{arith}
use lib.ListN.{length}
use Rattle.words.specs.Word.{Word}
use Rattle.rewriting.specs.Standing.{stands_at}
use Rattle.rewriting.specs.Search.{Rule, none, takes, rule_at, nothing, due, or_later, search_from, search}
use Rattle.rewriting.proofs.SearchLaws.{found_listed, found_fits}
use Rattle.layout.specs.Slices.{stands_by, rules_in, rule_by, line_left}
use Rattle.reducing.specs.Answers.{chosen_as}
use Rattle.std.proofs.Common.{Option, None, Some}

-- a line that stands and whose left word stands at the place is taken, another is passed
rule_next : (recs words : List ℕ) (j m : ℕ) (w : Word) (p : ℕ)
    → rule_at (rules_in recs words j (suc m)) w p
    ≡ cond (stands_by recs j && stands_at (line_left recs words j) w p) (takes (rule_by recs words j)) (rule_at (rules_in recs words (j + 1) m) w p)
unfolding rule_at rules_in
rule_next recs words j m w p = go (stands_by recs j)
  where
    go : (b : Bool) → rule_at (cond b (rule_by recs words j ∷ rules_in recs words (j + 1) m) (rules_in recs words (j + 1) m)) w p
        ≡ cond (b && stands_at (line_left recs words j) w p) (takes (rule_by recs words j)) (rule_at (rules_in recs words (j + 1) m) w p)
    go true = refl
    go false = refl

-- none of the lines before j was chosen
unfoldable pub LinesPassed : List ℕ → List ℕ → ℕ → Word → ℕ → ℕ → Type 0
LinesPassed recs words n w p j = rule_at (rules_in recs words 0 n) w p ≡ rule_at (rules_in recs words j (n - j)) w p

module _ (recs words : List ℕ) (n : ℕ) (w : Word) (p : ℕ) where
  pub lines_none : LinesPassed recs words n w p 0
  unfolding LinesPassed
  lines_none = let e : n - 0 ≡ n = omega arith in rw e

  module _ (j : ℕ) (t : Bool) (s : LinesPassed recs words n w p j) (h : j < n)
      (f : t ≡ stands_by recs j && stands_at (line_left recs words j) w p) where
    lines_next : rule_at (rules_in recs words 0 n) w p ≡ cond t (takes (rule_by recs words j)) (rule_at (rules_in recs words (j + 1) (n - (j + 1))) w p)
    unfolding LinesPassed
    lines_next = let e : n - j ≡ suc (n - (j + 1)) = omega arith in s ∙ rw (e, f) (rule_next recs words j (n - (j + 1)) w p)

    pub lines_hit : t ≡ true → takes (rule_by recs words j) ≡ rule_at (rules_in recs words 0 n) w p
    lines_hit g = sym (lines_next ∙ rw g)

    pub lines_on : t ≡ false → LinesPassed recs words n w p (j + 1)
    unfolding LinesPassed
    lines_on g = lines_next ∙ rw g

  pub lines_end : (j : ℕ) → LinesPassed recs words n w p j → n ≤ j → none ≡ rule_at (rules_in recs words 0 n) w p
  unfolding LinesPassed rule_at rules_in
  lines_end j s h = let e : n - j ≡ 0 = omega arith in sym (s ∙ rw e)

-- no rule stands at a place before p
unfoldable pub PlacesPassed : List Rule → Word → ℕ → Type 0
PlacesPassed rs w p = search rs w ≡ search_from rs w p (length w + 1 - p)

module _ (rs : List Rule) (w : Word) where
  pub places_none : PlacesPassed rs w 0
  unfolding PlacesPassed search
  places_none = let e : length w + 1 - 0 ≡ length w + 1 = omega arith in rw e

  module _ (recs words : List ℕ) (p : ℕ) (r : Option ℕ) (s : PlacesPassed rs w p) (h : p < length w + 1)
      (f : chosen_as recs words r ≡ rule_at rs w p) where
    places_next : search rs w ≡ or_later (chosen_as recs words r) p (search_from rs w (p + 1) (length w + 1 - (p + 1)))
    unfolding PlacesPassed search_from
    places_next = let e : length w + 1 - p ≡ suc (length w + 1 - (p + 1)) = omega arith in s ∙ rw (e, f)

    pub places_hit : (j : ℕ) → r ≡ Some j → due p (rule_by recs words j) ≡ search rs w
    places_hit j g = sym (places_next ∙ rw g)

    pub places_on : r ≡ None → PlacesPassed rs w (p + 1)
    unfolding PlacesPassed
    places_on g = places_next ∙ rw g

  pub places_end : (p : ℕ) → PlacesPassed rs w p → length w + 1 ≤ p → nothing ≡ search rs w
  unfolding PlacesPassed search_from
  places_end p s h = let e : length w + 1 - p ≡ 0 = omega arith in sym (s ∙ rw e)

-- a rule of the lines has the number of one of them
rule_listed : (recs words : List ℕ) (k n : ℕ) (r : Rule) → Memᴰ r (rules_in recs words k n) → r.line < k + n
unfolding rules_in
rule_listed recs words k zero r m = absurd (Memᴰ.not-nil m)
rule_listed recs words k (suc n) r m = go (stands_by recs k) (λ l. rule_listed recs words (k + 1) n r l) m
  where
    go : (b : Bool) → (Memᴰ r (rules_in recs words (k + 1) n) → r.line < k + 1 + n)
        → Memᴰ r (cond b (rule_by recs words k ∷ rules_in recs words (k + 1) n) (rules_in recs words (k + 1) n))
        → r.line < k + suc n
    go true later l = ⊎_elim (λ e. omega (arith, ap (λ (x : Rule). x.line) e)) (λ q. omega (arith, later q)) (Memᴰ.cases_cons l)
    go false later l = omega (arith, later l)

-- what a caller knows of a replacement found
module _ (recs words : List ℕ) (n : ℕ) (w : Word) (p j : ℕ) (f : due p (rule_by recs words j) ≡ search (rules_in recs words 0 n) w) where
  pub found_line : j < n
  found_line =
      let l = rule_listed recs words 0 n (rule_by recs words j) (found_listed (rules_in recs words 0 n) w p (rule_by recs words j) (sym f)) in
      omega arith

  pub found_inside : p + length (line_left recs words j) ≤ length w
  found_inside = found_fits (rules_in recs words 0 n) w p (rule_by recs words j) (sym f)

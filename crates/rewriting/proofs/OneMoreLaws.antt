-- The search with one rule more. At one place the rules before go first; so the rule is due where it stands at an earlier place than the replacement
-- due before, and at its own earliest one.
use Prim.Native.Nat.{ℕ, zero, suc, ◌+◌, ◌-◌, ◌≤◌}
use mathlib.Core.Path.{◌≡◌, refl, ◌∙◌}
use mathlib.Core.Bool.{Bool, true, false, cond}
use mathlib.Core.List.{List, [], ◌∷◌, ◌++◌}
use native.Mathlib.Omega.{arith}
use borrow.Author.Tests.{lt-ltb, le-ltb}
use lib.Dec.{ltb}
use Rattle.words.specs.Word.{Word}
use Rattle.rewriting.specs.Standing.{stands_at, first_from}
use Rattle.rewriting.specs.Search.{Rule, Choice, none, takes, rule_at, Due, nothing, due, or_later, search_from}

-- the choice at a place with one rule more: that rule, where none is chosen and it stands
abbrev or_else : Choice → Bool → Rule → Choice
or_else none t r = cond t (takes r) none
or_else (takes q) t r = takes q

more_at : (qs : List Rule) (r : Rule) (w : Word) (p : ℕ) → rule_at (qs ++ (r ∷ [])) w p ≡ or_else (rule_at qs w p) (stands_at r.left w p) r
unfolding rule_at
more_at [] r w p = refl
more_at (q ∷ qs) r w p = go (stands_at q.left w p) (more_at qs r w p)
  where
    go : (t : Bool) → rule_at (qs ++ (r ∷ [])) w p ≡ or_else (rule_at qs w p) (stands_at r.left w p) r
        → cond t (takes q) (rule_at (qs ++ (r ∷ [])) w p) ≡ or_else (cond t (takes q) (rule_at qs w p)) (stands_at r.left w p) r
    go true h = refl
    go false h = h

-- the place of a replacement, and another one where there is none
abbrev pub place_of : ℕ → Due → ℕ
place_of e nothing = e
place_of e (due p r) = p

-- a replacement found among the n places from p on is at one of them
place_within : (rs : List Rule) (w : Word) (p n : ℕ) → (p ≤ place_of (p + n) (search_from rs w p n)) × (place_of (p + n) (search_from rs w p n) ≤ p + n)
unfolding search_from
place_within rs w p zero = (omega arith, omega arith)
place_within rs w p (suc n) = go (rule_at rs w p) (search_from rs w (p + 1) n) (place_within rs w (p + 1) n)
  where
    go : (c : Choice) (d : Due) → (p + 1 ≤ place_of (p + 1 + n) d) × (place_of (p + 1 + n) d ≤ p + 1 + n)
        → (p ≤ place_of (p + suc n) (or_later c p d)) × (place_of (p + suc n) (or_later c p d) ≤ p + suc n)
    go none nothing h = (omega arith, omega arith)
    go none (due q r) h = (omega (arith, h.0), omega (arith, h.1))
    go (takes r) d h = (omega arith, omega arith)

-- the rule r is due at the place q where that is before e, and else what was due stays
abbrev pub earlier_of : ℕ → ℕ → Rule → Due → Due
earlier_of q e r d = cond (ltb q e) (due q r) d

module _ (r : Rule) (w : Word) (p e : ℕ) where
  -- the earliest place of the rule from p on, where p is before e and where it is not
  first_on : p + 1 ≤ e → first_from r.left w p (e - p) ≡ cond (stands_at r.left w p) p (first_from r.left w (p + 1) (e - (p + 1)))
  unfolding first_from
  first_on h = let z : e - p ≡ suc (e - (p + 1)) = omega arith in rw z

  first_over : e ≡ p → first_from r.left w p (e - p) ≡ p
  unfolding first_from
  first_over h = let z : e - p ≡ 0 = omega arith in rw z

pub one_more : (qs : List Rule) (r : Rule) (w : Word) (p n e : ℕ) → e ≡ place_of (p + n) (search_from qs w p n)
    → search_from (qs ++ (r ∷ [])) w p n ≡ earlier_of (first_from r.left w p (e - p)) e r (search_from qs w p n)
unfolding search_from
one_more qs r w p zero e h =
    let i : e ≡ p = omega arith in
    rw (first_over r w p e i, le-ltb p e (omega arith))
one_more qs r w p (suc n) e h =
    rw (more_at qs r w p)
    (go (rule_at qs w p) (stands_at r.left w p) (search_from qs w (p + 1) n) (search_from (qs ++ (r ∷ [])) w (p + 1) n) (first_from r.left w p (e - p))
    (first_from r.left w (p + 1) (e - (p + 1))) (place_within qs w (p + 1) n).0 h (first_on r w p e) (first_over r w p e) (λ i. one_more qs r w (p + 1) n e i))
  where
    same : (d : Due) → place_of (p + suc n) d ≡ place_of (p + 1 + n) d
    same nothing = omega arith
    same (due k s) = refl

    go : (c : Choice) (t : Bool) (d x : Due) (f g : ℕ) → p + 1 ≤ place_of (p + 1 + n) d → e ≡ place_of (p + suc n) (or_later c p d)
        → (p + 1 ≤ e → f ≡ cond t p g) → (e ≡ p → f ≡ p) → (e ≡ place_of (p + 1 + n) d → x ≡ earlier_of g e r d)
        → or_later (or_else c t r) p x ≡ earlier_of f e r (or_later c p d)
    go (takes q) t d x f g b i on over later = rw (over i, le-ltb p e (omega arith))
    go none true d x f g b i on over later =
        let y : e ≡ place_of (p + 1 + n) d = i ∙ same d in
        let k : p + 1 ≤ e = omega arith in
        rw (on k, lt-ltb p e (omega arith))
    go none false d x f g b i on over later =
        let y : e ≡ place_of (p + 1 + n) d = i ∙ same d in
        let k : p + 1 ≤ e = omega arith in
        rw (on k) (later y)

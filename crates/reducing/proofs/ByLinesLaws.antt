-- The search line by line. What is found after some lines is the replacement due to these; with one line more it is due to that one, where it stands
-- and has an earlier place, and else it stays.
use Prim.Native.Nat.{ℕ, zero, suc, ◌+◌, ◌≤◌}
use mathlib.Core.Path.{◌≡◌, refl, sym, ◌∙◌, ap}
use mathlib.Core.Bool.{Bool, true, false, cond}
use mathlib.Core.List.{List, [], ◌∷◌, ◌++◌, append-nil}
use native.Mathlib.Omega.{arith}
use lib.Dec.{ltb}
use lib.ListN.{length}
use Rattle.words.specs.Word.{Word}
use Rattle.rewriting.specs.Standing.{first_from}
use Rattle.rewriting.specs.Search.{Rule, due, search}
use Rattle.rewriting.specs.Found.{place_found, earlier_found, or_earlier}
use Rattle.rewriting.specs.declared.Found.{Found}
use Rattle.std.proofs.Common.{Option, None, Some}
use Rattle.rewriting.proofs.OneMoreLaws.{place_of, earlier_of}
use Rattle.rewriting.proofs.FoundLaws.{none_due, search_more}
use Rattle.layout.specs.Slices.{stands_by, rules_in, rule_by, line_left}
use Rattle.reducing.specs.Answers.{due_as, with_line}

-- the rules of one line more
rules_more : (recs words : List ℕ) (k n : ℕ) → rules_in recs words k (suc n) ≡ rules_in recs words k n ++ cond (stands_by recs (k + n)) (rule_by recs words (k + n) ∷ []) []
unfolding rules_in
rules_more recs words k zero = let z : k + 0 ≡ k = omega arith in rw z
rules_more recs words k (suc n) = let z : k + suc n ≡ k + 1 + n = omega arith in rw z (go (stands_by recs k) (rules_more recs words (k + 1) n))
  where
    go : (t : Bool) → rules_in recs words (k + 1) (suc n) ≡ rules_in recs words (k + 1) n ++ cond (stands_by recs (k + 1 + n)) (rule_by recs words (k + 1 + n) ∷ []) []
        → cond t (rule_by recs words k ∷ rules_in recs words (k + 1) (suc n)) (rules_in recs words (k + 1) (suc n))
        ≡ cond t (rule_by recs words k ∷ rules_in recs words (k + 1) n) (rules_in recs words (k + 1) n) ++ cond (stands_by recs (k + 1 + n)) (rule_by recs words (k + 1 + n) ∷ []) []
    go true h = ap (λ (rs : List Rule). rule_by recs words k ∷ rs) h
    go false h = h

-- what is found after the first j lines is the replacement due to them
unfoldable pub SoFar : List ℕ → List ℕ → Word → ℕ → Option Found → Type 0
SoFar recs words w j f = due_as recs words f ≡ search (rules_in recs words 0 j) w

module _ (recs words : List ℕ) (w : Word) where
  pub so_far_none : SoFar recs words w 0 None
  unfolding SoFar rules_in
  so_far_none = sym (none_due w)

  -- a line's number stands for its rule
  place_read : (end : ℕ) (f : Option Found) → place_found end f ≡ place_of end (due_as recs words f)
  place_read end None = refl
  place_read end (Some f) = refl

  earlier_read : (p end j : ℕ) (f : Option Found) → due_as recs words (earlier_found p end j f) ≡ earlier_of p end (rule_by recs words j) (due_as recs words f)
  earlier_read p end j f = go (ltb p end)
    where
      go : (t : Bool) → due_as recs words (cond t (Some (record { place = p; line = j })) f) ≡ cond t (due p (rule_by recs words j)) (due_as recs words f)
      go true = refl
      go false = refl

  module _ (j : ℕ) (f : Option Found) (s : SoFar recs words w j f) where
    rule_more : due_as recs words (or_earlier f j (line_left recs words j) w) ≡ search (rules_in recs words 0 j ++ (rule_by recs words j ∷ [])) w
    unfolding SoFar or_earlier
    rule_more =
        let end = place_found (length w + 1) f in
        earlier_read (first_from (line_left recs words j) w 0 end) end j f
        ∙ rw s (sym (search_more (rules_in recs words 0 j) (rule_by recs words j) w end (place_read (length w + 1) f ∙ ap (place_of (length w + 1)) s)))

    pub so_far_on : (g : Option Found) → g ≡ with_line recs words j w f → SoFar recs words w (j + 1) g
    unfolding SoFar
    so_far_on g e =
        let z : j + 1 ≡ suc j = omega arith in
        let y : 0 + j ≡ j = omega arith in
        rw (e, z, rules_more recs words 0 j, y) (go (stands_by recs j))
      where
        go : (t : Bool) → due_as recs words (cond t (or_earlier f j (line_left recs words j) w) f)
            ≡ search (rules_in recs words 0 j ++ cond t (rule_by recs words j ∷ []) []) w
        go true = rule_more
        go false = rw (append-nil (rules_in recs words 0 j)) s

    pub so_far_all : (n : ℕ) → j ≤ n → n ≤ j → due_as recs words f ≡ search (rules_in recs words 0 n) w
    unfolding SoFar
    so_far_all n l m = let e : j ≡ n = omega arith in rw e at s

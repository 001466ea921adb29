-- What the search answers. Going through the rules at one place, and then through the places, tells of each one passed that no left word
-- stands there. So the answer is a rule of the list whose left word stands at the earliest place where any does; and where the answer is
-- nothing the word is irreducible.
use Prim.Native.Nat.{ℕ, zero, suc, ◌+◌, ◌≤◌, ◌<◌}
use mathlib.Core.Path.{◌≡◌, refl, sym, ◌∙◌, subst}
use mathlib.Core.Logic.{◌⊎◌, inl, inr, ⊎_elim}
use mathlib.Core.Bool.{Bool, true, false, cond, true≢false}
use mathlib.Core.List.Memᴰ
use mathlib.Core.List.{List, [], ◌∷◌, Memᴰ}
use native.Mathlib.Omega.{arith}
use native.Mathlib.Nat.{eq-or-lt_of_le}
use native.Mathlib.Decide.{dec_le}
use borrow.Author.Tests.{lt-leb}
use lib.ListN.{length}
use Rattle.words.specs.Word.{Word}
use Rattle.rewriting.specs.Standing.{stands_at}
use Rattle.rewriting.specs.Search.{Rule, Choice, none, takes, rule_at, Due, nothing, due, or_later, search_from, search, after}
use Rattle.rewriting.specs.Links.{Replaces, Irreducible, OfRules}
use Rattle.rewriting.proofs.StandingLaws.{between_stands, stands_fits, stands_replaces}

-- no left word of the rules stands at the place
abbrev NoneAt : List Rule → Word → ℕ → Type 0
NoneAt rs w p = (r : Rule) → Memᴰ r rs → stands_at r.left w p ≡ false

-- the rule is one of the rules and its left word stands at the place
abbrev OneAt : List Rule → Word → ℕ → Rule → Type 0
OneAt rs w p r = Memᴰ r rs × (stands_at r.left w p ≡ true)

abbrev Chosen : List Rule → Word → ℕ → Choice → Type 0
Chosen rs w p none = NoneAt rs w p
Chosen rs w p (takes r) = OneAt rs w p r

chosen : (rs : List Rule) (w : Word) (p : ℕ) → Chosen rs w p (rule_at rs w p)
unfolding rule_at
chosen [] w p = λ r m. absurd (Memᴰ.not-nil m)
chosen (r ∷ rs) w p = go (stands_at r.left w p) refl (chosen rs w p)
  where
    passed : (c : Choice) → stands_at r.left w p ≡ false → Chosen rs w p c → Chosen (r ∷ rs) w p c
    passed none e v = λ s m. ⊎_elim (λ q. rw q e) (λ k. v s k) (Memᴰ.cases_cons m)
    passed (takes s) e v = (Memᴰ.tail v.0, v.1)

    go : (b : Bool) → stands_at r.left w p ≡ b → Chosen rs w p (rule_at rs w p) → Chosen (r ∷ rs) w p (cond b (takes r) (rule_at rs w p))
    go true e v = (Memᴰ.head refl, e)
    go false e v = passed (rule_at rs w p) e v

-- what the search through the n places from p on says
abbrev Searched : List Rule → Word → ℕ → ℕ → Due → Type 0
Searched rs w p n nothing = (q : ℕ) → p ≤ q → q < p + n → NoneAt rs w q
Searched rs w p n (due q r) = OneAt rs w q r × ((k : ℕ) → p ≤ k → k < q → NoneAt rs w k) × (p ≤ q)

searched : (rs : List Rule) (w : Word) (p n : ℕ) → Searched rs w p n (search_from rs w p n)
unfolding search_from
searched rs w p zero = λ q a b. absurd (omega arith)
searched rs w p (suc n) = go (rule_at rs w p) (chosen rs w p) (search_from rs w (p + 1) n) (searched rs w (p + 1) n)
  where
    here : (q : ℕ) → NoneAt rs w p → (p < q → NoneAt rs w q) → (p ≡ q) ⊎ (p < q) → NoneAt rs w q
    here q v later (inl e) = rw e at v
    here q v later (inr b) = later b

    go : (c : Choice) → Chosen rs w p c → (d : Due) → Searched rs w (p + 1) n d → Searched rs w p (suc n) (or_later c p d)
    go none v nothing s = λ q a b. here q v (λ l. s q (omega arith) (omega arith)) (eq-or-lt_of_le a)
    go none v (due q r) s =
        let on = s.2 in
        (s.0, λ k a b. here k v (λ l. s.1 k (omega arith) b) (eq-or-lt_of_le a), omega arith)
    go (takes r) v d s = (v, λ k a b. absurd (omega arith), omega arith)

module _ (rs : List Rule) (w : Word) where
  searched_whole : Searched rs w 0 (length w + 1) (search rs w)
  unfolding search
  searched_whole = searched rs w 0 (length w + 1)

  module _ (p : ℕ) (r : Rule) (found : search rs w ≡ due p r) where
    pub found_listed : Memᴰ r rs
    found_listed = (subst (Searched rs w 0 (length w + 1)) found searched_whole).0.0

    pub found_stands : stands_at r.left w p ≡ true
    found_stands = (subst (Searched rs w 0 (length w + 1)) found searched_whole).0.1

    -- no rule's left word stands at an earlier place
    pub found_earliest : (k : ℕ) → k < p → (s : Rule) → Memᴰ s rs → stands_at s.left w k ≡ false
    found_earliest k h = (subst (Searched rs w 0 (length w + 1)) found searched_whole).1 k (omega arith) h

    pub found_fits : p + length r.left ≤ length w
    found_fits = stands_fits r.left w p found_stands

    pub found_replaces : Replaces (OfRules rs) w (after w p r)
    found_replaces = stands_replaces r.left r.right w p (record { listed = r; among = found_listed; left = refl; right = refl }) found_stands

  -- nothing found: no rule's left word stands anywhere
  pub nothing_stands : search rs w ≡ nothing → (p : ℕ) (r : Rule) → Memᴰ r rs → stands_at r.left w p ≡ false
  unfolding stands_at
  nothing_stands e p = go (dec_le p (length w))
    where
      go : Dec (p ≤ length w) → NoneAt rs w p
      go (yes h) = (subst (Searched rs w 0 (length w + 1)) e searched_whole) p (omega arith) (omega arith)
      go (no h) = λ r m. rw (lt-leb p (length w) (omega arith))

  pub nothing_irreducible : search rs w ≡ nothing → Irreducible (OfRules rs) w
  nothing_irreducible e v s =
      let f = s.rule in
      let there : stands_at f.listed.left w (length s.before) ≡ true = rw (s.start, ← f.left) (between_stands s.before s.behind s.left) in
      true≢false (sym there ∙ nothing_stands e (length s.before) f.listed f.among)

  -- every word can be replaced or is irreducible
  pub rules_next : ((v : Word) × Replaces (OfRules rs) w v) ⊎ Irreducible (OfRules rs) w
  rules_next = go (search rs w) refl
    where
      go : (d : Due) → search rs w ≡ d → ((v : Word) × Replaces (OfRules rs) w v) ⊎ Irreducible (OfRules rs) w
      go nothing e = inr (nothing_irreducible e)
      go (due p r) e = inl (after w p r, found_replaces p r e)

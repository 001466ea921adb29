-- The rules of a table are its standing lines. Going through the lines, each rule made has its line's number and sides, and each standing
-- line has its rule.
use Prim.Native.Nat.{ℕ, zero, suc, ◌+◌}
use mathlib.Core.Path.{◌≡◌, refl, sym, ◌∙◌, ap}
use mathlib.Core.Logic.{⊎_elim}
use mathlib.Core.Bool.{Bool, true, false, cond, true≢false}
use mathlib.Core.List.Memᴰ
use mathlib.Core.List.{List, [], ◌∷◌, Memᴰ}
use native.Mathlib.Omega.{arith}
use Rattle.words.specs.Word.{Word}
use Rattle.rewriting.specs.Search.{Rule}
use Rattle.rewriting.specs.Sheet.{Line, line_at, rules_from, rules_of}
use Rattle.rewriting.specs.Links.{OfRules, StandingLine, OfLines}

-- the rule that a line makes under a number
abbrev rule_of : ℕ → Line → Rule
rule_of n t = record { line = n; left = t.left; right = t.right }

numbered : (t : Line) {n m : ℕ} → n ≡ m → rule_of n t ≡ rule_of m t
numbered t e = λ i. record { line = e i; left = t.left; right = t.right }

-- a rule of the list is that of a standing line
rule_line : (k : ℕ) (ts : List Line) (x : Rule)
    → Memᴰ x (rules_from k ts)
    → (i : ℕ) × ((line_at ts i).stands ≡ true) × (x ≡ rule_of (k + i) (line_at ts i))
unfolding rules_from
rule_line k [] x m = absurd (Memᴰ.not-nil m)
rule_line k (t ∷ ts) x m = go t.stands refl (λ n. rule_line (k + 1) ts x n) m
  where
    later : ((i : ℕ) × ((line_at ts i).stands ≡ true) × (x ≡ rule_of (k + 1 + i) (line_at ts i)))
        → (i : ℕ) × ((line_at (t ∷ ts) i).stands ≡ true) × (x ≡ rule_of (k + i) (line_at (t ∷ ts) i))
    later (i, s, e) = let n : k + 1 + i ≡ k + suc i = omega arith in (suc i, s, e ∙ numbered (line_at ts i) n)

    go : (b : Bool) → t.stands ≡ b
        → (Memᴰ x (rules_from (k + 1) ts) → (i : ℕ) × ((line_at ts i).stands ≡ true) × (x ≡ rule_of (k + 1 + i) (line_at ts i)))
        → Memᴰ x (cond b (rule_of k t ∷ rules_from (k + 1) ts) (rules_from (k + 1) ts))
        → (i : ℕ) × ((line_at (t ∷ ts) i).stands ≡ true) × (x ≡ rule_of (k + i) (line_at (t ∷ ts) i))
    go true e rest n =
        let here : k ≡ k + 0 = omega arith in
        ⊎_elim (λ q. (0, e, q ∙ numbered t here)) (λ l. later (rest l)) (Memᴰ.cases_cons n)
    go false e rest n = later (rest n)

-- a standing line has its rule in the list
line_rule : (k : ℕ) (ts : List Line) (i : ℕ) → (line_at ts i).stands ≡ true → Memᴰ (rule_of (k + i) (line_at ts i)) (rules_from k ts)
unfolding rules_from
line_rule k [] i h = absurd (true≢false (sym h))
line_rule k (t ∷ ts) zero h = let here : k + 0 ≡ k = omega arith in rw h (Memᴰ.head (numbered t here))
line_rule k (t ∷ ts) (suc i) h =
    let n : k + suc i ≡ k + 1 + i = omega arith in
    Memᴰ.cast (numbered (line_at ts i) n) (behind t.stands (line_rule (k + 1) ts i h))
  where
    behind : (b : Bool) {x : Rule} → Memᴰ x (rules_from (k + 1) ts) → Memᴰ x (cond b (rule_of k t ∷ rules_from (k + 1) ts) (rules_from (k + 1) ts))
    behind true m = Memᴰ.tail m
    behind false m = m

module _ (ts : List Line) where
  -- a rule of the table's list has its line's number
  pub rule_stands : (x : Rule) → Memᴰ x (rules_of ts) → StandingLine ts x.line x.left x.right
  unfolding rules_of
  rule_stands x m =
      let f = rule_line 0 ts x m in
      let n : x.line ≡ f.0 = omega (arith, ap (λ (y : Rule). y.line) f.2) in
      record {
        stands = rw n f.1;
        left = rw n (ap (λ (y : Rule). y.left) f.2);
        right = rw n (ap (λ (y : Rule). y.right) f.2);
      }

  pub rules_lines : (l r : Word) → OfRules (rules_of ts) l r → OfLines ts l r
  rules_lines l r h =
      let s = rule_stands h.listed h.among in
      (h.listed.line, record { stands = s.stands; left = h.left ∙ s.left; right = h.right ∙ s.right })

  pub lines_rules : (l r : Word) → OfLines ts l r → OfRules (rules_of ts) l r
  unfolding rules_of
  lines_rules l r (n, h) = record { listed = rule_of (0 + n) (line_at ts n); among = line_rule 0 ts n h.stands; left = h.left; right = h.right }

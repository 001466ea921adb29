-- The normal word under an allowance. Going by the allowance and by what each turn finds: an answer is the end of a run, with its
-- count, none of whose words is too long; refusal 5 says that every run has more replacements than the allowance, refusal 6 that no run
-- keeps within the length. As a word has one run, the answer is given exactly where there is such a run.
use Prim.Native.Nat.{ℕ, zero, suc, ◌+◌, ◌≤◌, ◌<◌}
use mathlib.Core.Path.{◌≡◌, refl, ap, subst}
use mathlib.Core.Logic.{inl, inr}
use mathlib.Core.Bool.{Bool, true, false, cond}
use mathlib.Core.List.{List}
use native.Mathlib.Omega.{arith}
use borrow.Author.Tests.{leb-true, leb-false}
use lib.Dec.{leb}
use lib.ListN.{length}
use Rattle.words.specs.Word.{Word}
use Rattle.words.specs.Refusal.{Result, answered, refused}
use Rattle.rewriting.specs.Search.{Rule, Due, nothing, due, search, after}
use Rattle.rewriting.specs.Normal.{Counted, long, next, word_turn_by, word_turn, on_word_turn, normal_from, normal_of, Runs, halt, turn, Short, Refuses}
use Rattle.rewriting.proofs.RunsLaws.{not_both, same_after, runs_once}

-- what the turns from a word on say, after k replacements
abbrev Says : List Rule → ℕ → ℕ → Word → Result Counted → Type 0
Says rs a k w (answered c) = (d : ℕ) × (c.count ≡ k + d) × (d ≤ a) × (t : Runs rs w c.word d) × Short t
Says rs a k w (refused n p) = (p ≡ 0) × Refuses rs a w n

module _ (rs : List Rule) where
  -- the run from w goes by the replacement due
  module _ {w : Word} {p : ℕ} {r : Rule} (e : search rs w ≡ due p r) where
    due_counts : (z : Word) (c : ℕ) → Runs rs w z c → 0 < c
    due_counts z c (halt f) = absurd (not_both f e)
    due_counts z c (turn q s f t) = omega arith

    due_more : (a : ℕ) → ((z : Word) (c : ℕ) → Runs rs (after w p r) z c → a < c) → (z : Word) (c : ℕ) → Runs rs w z c → suc a < c
    due_more a h z c (halt f) = absurd (not_both f e)
    due_more a h z c (turn {c = d} q s f t) = omega (arith, h z d (rw (same_after w f e) at t))

    due_long : 128 < length (after w p r) → (z : Word) (c : ℕ) (t : Runs rs w z c) → Short t → ⊥
    due_long h z c (halt f) k = not_both f e
    due_long h z c (turn q s f t) k = omega (arith, ap length (same_after w f e))

    due_longer : ((z : Word) (c : ℕ) (t : Runs rs (after w p r) z c) → Short t → ⊥) → (z : Word) (c : ℕ) (t : Runs rs w z c) → Short t → ⊥
    due_longer h z c (halt f) k = not_both f e
    due_longer h z c (turn {c = d} q s f t) k =
        let m = subst (λ (x : Word). (i : Runs rs x z d) × Short i) (same_after w f e) (t, k.1) in
        h z d m.0 m.1

  says : (a k : ℕ) (w : Word) → Says rs a k w (normal_from rs a k w)
  unfolding normal_from word_turn
  says zero k w = go (search rs w) refl
    where
      go : (d : Due) → search rs w ≡ d → Says rs zero k w (on_word_turn (word_turn_by d false w) (answered (record { word = w; count = k })) (λ v. refused 5 0))
      go nothing e = (0, omega arith, omega arith, halt e, tt)
      go (due p r) e = (refl, inl (refl, due_counts e))
  says (suc a) k w = go (search rs w) refl (λ v. says a (k + 1) v)
    where
      -- a turn made: what the turns from the next word on say
      on : {p : ℕ} {r : Rule}
          → search rs w ≡ due p r
          → length (after w p r) ≤ 128
          → (x : Result Counted)
          → Says rs a (k + 1) (after w p r) x
          → Says rs (suc a) k w x
      on {p} {r} e h (answered c) t = (suc t.0, omega (arith, t.1), omega (arith, t.2), turn p r e t.3, (h, t.4))
      on e h (refused n q) (z, inl t) = (z, inl (t.0, due_more e a t.1))
      on e h (refused n q) (z, inr t) = (z, inr (t.0, due_longer e t.1))

      fits : {p : ℕ} {r : Rule}
          → search rs w ≡ due p r
          → ((v : Word) → Says rs a (k + 1) v (normal_from rs a (k + 1) v))
          → (b : Bool)
          → leb (length (after w p r)) 128 ≡ b
          → Says rs (suc a) k w (on_word_turn (cond b (next (after w p r)) long) (answered (record { word = w; count = k })) (λ v. normal_from rs a (k + 1) v))
      fits {p} {r} e further true f = on e (leb-true (length (after w p r)) 128 f) (normal_from rs a (k + 1) (after w p r)) (further (after w p r))
      fits {p} {r} e further false f = (refl, inr (refl, due_long e (leb-false (length (after w p r)) 128 f)))

      go : (d : Due)
          → search rs w ≡ d
          → ((v : Word) → Says rs a (k + 1) v (normal_from rs a (k + 1) v))
          → Says rs (suc a) k w (on_word_turn (word_turn_by d true w) (answered (record { word = w; count = k })) (λ v. normal_from rs a (k + 1) v))
      go nothing e further = (0, omega arith, omega arith, halt e, tt)
      go (due p r) e further = fits e further (leb (length (after w p r)) 128) refl

  says_normal : (a : ℕ) (w : Word) → Says rs a 0 w (normal_of rs a w)
  unfolding normal_of
  says_normal a w = says a 0 w

  module _ (a : ℕ) (w : Word) where
    -- an answer is the end of a run, with its count
    pub answered_runs : (c : Counted) → normal_of rs a w ≡ answered c → (t : Runs rs w c.word c.count) × Short t × (c.count ≤ a)
    answered_runs c e =
        let s : Says rs a 0 w (answered c) = subst (Says rs a 0 w) e (says_normal a w) in
        let same : s.0 ≡ c.count = omega (arith, s.1) in
        let t = subst (λ (d : ℕ). (i : Runs rs w c.word d) × Short i) same (s.3, s.4) in
        (t.0, t.1, omega (arith, s.2))

    -- a run within allowance and length is answered
    pub runs_answered : (c : Counted) (t : Runs rs w c.word c.count) → Short t → c.count ≤ a → normal_of rs a w ≡ answered c
    runs_answered c t short few = go (normal_of rs a w) (says_normal a w)
      where
        go : (x : Result Counted) → Says rs a 0 w x → x ≡ answered c
        go (answered d) s =
            let same = runs_once s.3 t in
            let count : d.count ≡ c.count = omega (arith, s.1, same.1) in
            ap answered (λ i. record { word = same.0 i; count = count i })
        go (refused n p) (z, inl s) = absurd (omega (arith, s.1 c.word c.count t))
        go (refused n p) (z, inr s) = absurd (s.1 c.word c.count t short)

    -- where there is no answer it is refusal 5 or 6, at place 0
    pub refused_runs : (n p : ℕ) → normal_of rs a w ≡ refused n p → (p ≡ 0) × Refuses rs a w n
    refused_runs n p e = subst (Says rs a 0 w) e (says_normal a w)

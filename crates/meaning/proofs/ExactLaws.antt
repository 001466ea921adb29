-- Tests and verdicts in plain words: a test passes, and a verdict is met, exactly if what it is made of says so. What goes through numbers is met if
-- each of them meets it, by induction on how many are left; a search finds something if something is there; a word stands in another if that one
-- is it with something before and behind.
use Prim.Native.Nat.{ℕ, zero, suc, ◌+◌, ◌≤◌, ◌<◌}
use native.Mathlib.Omega.{arith}
use native.Mathlib.Decide.{ℕ_discrete}
use mathlib.Core.Path.{◌≡◌, refl, sym, ap, ◌∙◌}
use mathlib.Core.Logic.{◌↔◌}
use mathlib.Core.Bool.{Bool, true, false, cond, not, ◌&&◌, ◌||◌, and-eq-true_iff, or-true, true≢false}
use borrow.Author.Tests.{eqb-true, eq-eqb}
use lib.Dec.{eqb}
use lib.ListN.{length, take, drop, length-append}
use Rattle.words.specs.Word.{Word}
use Rattle.words.specs.Refusal.{refused, on_answer}
use Rattle.words.specs.Counting.{any_from, in_turn}
use Rattle.rewriting.specs.Standing.{stands_at, stands_in}
use Rattle.rewriting.specs.Links.{between}
use Rattle.rewriting.proofs.StandingLaws.{stands_between, between_stands}
use Rattle.chains.specs.Verdict.{Verdict, met, unless, each}
use Rattle.chains.proofs.EachLaws.{met_split, unless_met, each_met}

-- tests
pub equal_exactly : (m n : ℕ) → (eqb m n ≡ true) ↔ (m ≡ n)
equal_exactly m n = (eqb-true m n, eq-eqb m n)

pub and_exactly : (a b : Bool) {A B : Type 0} → (a ≡ true) ↔ A → (b ≡ true) ↔ B → (a && b ≡ true) ↔ A × B
and_exactly a b f g = (λ e. let h = (and-eq-true_iff a b).0 e in (f.0 h.0, g.0 h.1), λ h. (and-eq-true_iff a b).1 (f.1 h.0, g.1 h.1))

pub not_exactly : (a : Bool) {A : Type 0} → (a ≡ true) ↔ A → (not a ≡ true) ↔ (A → ⊥)
not_exactly true f = (λ e h. true≢false (sym e), λ n. absurd (n (f.0 refl)))
not_exactly false f = (λ e h. true≢false (sym (f.1 h)), λ n. refl)

-- one of the n numbers from k on passes
any_one : (t : ℕ → Bool) (k n : ℕ) → any_from t k n ≡ true → (i : ℕ) × (i < k + n) × (t i ≡ true)
unfolding any_from
any_one t k zero e = absurd (true≢false (sym e))
any_one t k (suc n) e = go (t k) refl (λ h. any_one t (k + 1) n h) e
  where
    go : (b : Bool) → t k ≡ b → (any_from t (k + 1) n ≡ true → (i : ℕ) × (i < k + 1 + n) × (t i ≡ true)) → b || any_from t (k + 1) n ≡ true
        → (i : ℕ) × (i < k + suc n) × (t i ≡ true)
    go true q later h = (k, omega arith, q)
    go false q later h = let (i, l, p) = later h in (i, omega arith, p)

one_any : (t : ℕ → Bool) (k n i : ℕ) → k ≤ i → i < k + n → t i ≡ true → any_from t k n ≡ true
unfolding any_from
one_any t k zero i l m h = absurd (omega arith)
one_any t k (suc n) i l m h = go (ℕ_discrete k i) (λ o. one_any t (k + 1) n i o (omega arith) h)
  where
    go : Dec (k ≡ i) → (k + 1 ≤ i → any_from t (k + 1) n ≡ true) → t k || any_from t (k + 1) n ≡ true
    go (yes q) later = rw (ap t q ∙ h)
    go (no q) later = rw (later (omega arith)) (or-true (t k))

pub any_exactly : (t : ℕ → Bool) (n : ℕ) {P : ℕ → Type 0} → ((i : ℕ) → (t i ≡ true) ↔ P i) → (any_from t 0 n ≡ true) ↔ ((i : ℕ) × (i < n) × P i)
any_exactly t n f = (
  λ e. let (i, l, h) = any_one t 0 n e in (i, omega arith, (f i).0 h),
  λ (i, l, h). one_any t 0 n i (omega arith) (omega arith) ((f i).1 h),
)

pub stands_exactly : (l w : Word) → (stands_in l w ≡ true) ↔ ((x : Word) × (y : Word) × (w ≡ between x y l))
unfolding stands_in
stands_exactly l w = (found, there)
  where
    somewhere : (any_from (stands_at l w) 0 (length w + 1) ≡ true) ↔ ((p : ℕ) × (p < length w + 1) × (stands_at l w p ≡ true))
    somewhere = any_exactly (stands_at l w) (length w + 1) (λ p. (λ e. e, λ e. e))

    found : any_from (stands_at l w) 0 (length w + 1) ≡ true → (x : Word) × (y : Word) × (w ≡ between x y l)
    found e = let (p, m, h) = somewhere.0 e in (take p w, drop (p + length l) w, stands_between l w p h)

    there : (x : Word) × (y : Word) × (w ≡ between x y l) → any_from (stands_at l w) 0 (length w + 1) ≡ true
    there (x, y, e) = somewhere.1 (length x, omega (arith, simp length-append at (ap length e)), rw e (between_stands x y l))

-- verdicts: a test that must pass
pub unless_exactly : (b : Bool) (n p : ℕ) {A : Type 0} → (b ≡ true) ↔ A → (unless b n p ≡ met) ↔ A
unless_exactly b n p f = (λ e. f.0 (unless_met b n p e), λ a. rw (f.1 a))

-- one verdict, then the next
pub then_exactly : (v : Verdict) (f : Unit {0} → Verdict) {A B : Type 0} → (v ≡ met) ↔ A → (f tt ≡ met) ↔ B → (on_answer v f ≡ met) ↔ A × B
then_exactly v f a b = (λ e. let h = met_split v f e in (a.0 h.0, b.0 h.1), λ h. rw (a.1 h.0) (b.1 h.1))

-- a verdict that is asked for only where a test passes
pub where_exactly : (b : Bool) (v : Verdict) {A : Type 0} → (v ≡ met) ↔ A → (cond b v met ≡ met) ↔ (b ≡ true → A)
where_exactly true v f = (λ e h. f.0 e, λ g. f.1 (g refl))
where_exactly false v f = (λ e h. absurd (true≢false (sym h)), λ g. refl)

-- a test that must pass, then a verdict
pub only_exactly : (b : Bool) (v : Verdict) (n p : ℕ) {A B : Type 0} → (b ≡ true) ↔ A → (v ≡ met) ↔ B → (cond b v (refused n p) ≡ met) ↔ A × B
only_exactly true v n p f g = (λ e. (f.0 refl, g.0 e), λ h. g.1 h.1)
only_exactly false v n p f g = (
  λ e. let z : ◌≡◌ {A = ℕ} 0 1 = cc in absurd (omega arith),
  λ h. absurd (true≢false (sym (f.1 h.0))),
)

-- each of the n numbers from k on
turn_each : (f : ℕ → Verdict) (n k : ℕ) → ((i : ℕ) → k ≤ i → i < k + n → f i ≡ met) → in_turn (λ i s. f i) k n tt ≡ met
unfolding in_turn
turn_each f zero k h = refl
turn_each f (suc n) k h = rw (h k (omega arith) (omega arith)) (turn_each f n (k + 1) (λ i l m. h i (omega arith) (omega arith)))

pub each_exactly : (n : ℕ) (f : ℕ → Verdict) {P : ℕ → Type 0} → ((k : ℕ) → (f k ≡ met) ↔ P k) → (each n f ≡ met) ↔ ((k : ℕ) → k < n → P k)
each_exactly n f g = (λ e k l. (g k).0 (each_met n f e k l), λ h. turn_each f n 0 (λ i l m. (g i).1 (h i (omega arith))))

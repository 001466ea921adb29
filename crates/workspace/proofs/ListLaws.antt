-- Lists of what a function gives for numbers in rising order: two functions that agree there give one list, one more number gives one more
-- element, and where they differ at one number the lists differ in one element.
use Prim.Native.Nat.{ℕ, zero, suc, ◌+◌, ◌-◌, ◌<◌}
use mathlib.Core.Path.{◌≡◌, refl, sym, ◌∙◌, ap}
use mathlib.Core.List.{[], ◌∷◌, ◌++◌}
use mathlib.Core.Bool.{Bool, true, false}
use native.Mathlib.Omega.{arith}
use lib.Dec.{eqb}
use borrow.Author.Tests.{eqb-true, eqb-false}
use lib.ListN.{get_or, set, length-set}
use lib.Seq.{ext_get_or, get_or-set_same, get_or-set_other}
use Rattle.layout.specs.Slices.{list_from}
use Rattle.layout.proofs.SliceLaws.{list_long, list_at}

module _ {A : Type 0} (f g : ℕ → A) where
  pub list_same : (k m n : ℕ) → ((i : ℕ) → i < n → f (k + i) ≡ g (m + i)) → list_from f k n ≡ list_from g m n
  unfolding list_from
  list_same k m zero h = refl
  list_same k m (suc n) h =
      let e : k + 0 ≡ k = omega arith in
      let d : m + 0 ≡ m = omega arith in
      let here : f k ≡ g m = rw (e, d) at (h 0 (omega arith)) in
      let rest = list_same (k + 1) (m + 1) n (λ i l.
      let a : k + suc i ≡ k + 1 + i = omega arith in
      let b : m + suc i ≡ m + 1 + i = omega arith in
      rw (a, b) at (h (suc i) (omega arith))) in
      rw (here, rest)

  pub list_set : (d : A) (n j : ℕ) → j < n → ((i : ℕ) → i < n → (i ≡ j → ⊥) → f i ≡ g i) → list_from f 0 n ≡ set (list_from g 0 n) j (f j)
  list_set d n j l h =
      ext_get_or d (list_from f 0 n) (set (list_from g 0 n) j (f j)) (list_long f 0 n ∙ sym (length-set (list_from g 0 n) j (f j) ∙ list_long g 0 n))
      (λ i b. at i (rw (list_long f 0 n) at b))
    where
      at : (i : ℕ) → i < n → get_or (list_from f 0 n) i d ≡ get_or (set (list_from g 0 n) j (f j)) i d
      at i b = go (eqb i j) refl
        where
          z : 0 + i ≡ i
          z = omega arith

          own : get_or (list_from f 0 n) i d ≡ f i
          own = list_at f d 0 n i b ∙ ap f z

          go : (t : Bool) → eqb i j ≡ t → get_or (list_from f 0 n) i d ≡ get_or (set (list_from g 0 n) j (f j)) i d
          go true e = let q = eqb-true i j e in own ∙ rw q (sym (get_or-set_same (list_from g 0 n) j (f j) d (rw list_long l)))
          go false e =
              own ∙ h i b (eqb-false i j e)
              ∙ sym (get_or-set_other (list_from g 0 n) j i (f j) d (eqb-false i j e) ∙ list_at g d 0 n i b ∙ ap g z)

pub list_cons : {A : Type 0} (f : ℕ → A) (k n : ℕ) → (n ≡ 0 → ⊥) → list_from f k n ≡ f k ∷ list_from f (k + 1) (n - 1)
unfolding list_from
list_cons f k zero h = absurd (h refl)
list_cons f k (suc n) h = let e : suc n - 1 ≡ n = omega arith in rw e

pub list_snoc : {A : Type 0} (f : ℕ → A) (k n : ℕ) → list_from f k (n + 1) ≡ list_from f k n ++ (f (k + n) ∷ [])
unfolding list_from
list_snoc f k zero = let e : k + 0 ≡ k = omega arith in rw e
list_snoc f k (suc n) = let e : k + 1 + n ≡ k + suc n = omega arith in let q : suc n + 1 ≡ suc (n + 1) = omega arith in rw (q, list_from, list_snoc f (k + 1) n, e)

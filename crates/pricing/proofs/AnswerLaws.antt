-- One after the other, until one refuses. Whatever the first elements gave, the answer to all is what they gave and then the answer to the rest.
use Prim.Native.Nat.{ℕ, zero, suc, ◌<◌}
use native.Mathlib.Omega.{arith}
use mathlib.Core.Path.{◌≡◌, refl, sym, ◌∙◌, ap}
use mathlib.Core.List.{List, [], ◌∷◌, ◌++◌, append_assoc, append-nil}
use lib.ListN.{length, get_or}
use Rattle.words.specs.Refusal.{Result, answered, refused, on_answer}
use Rattle.pricing.specs.Answers.{answers_of}

-- the answer to all, where the first gave these and the rest is still to come
unfoldable pub Onward : {B : Type 0} → Result (List B) → List B → Result (List B) → Type 0
Onward whole first rest = whole ≡ on_answer rest (λ ys. answered (first ++ ys))

module _ {B : Type 0} where
  pub onward_start : (x : Result (List B)) → Onward x [] x
  unfolding Onward
  onward_start (answered ys) = refl
  onward_start (refused n p) = refl

  module _ (whole : Result (List B)) (first : List B) (x : Result B) (rest : Result (List B))
      (o : Onward whole first (on_answer x (λ y. on_answer rest (λ ys. answered (y ∷ ys))))) where
    pub onward_on : (y : B) → x ≡ answered y → Onward whole (first ++ (y ∷ [])) rest
    unfolding Onward
    onward_on y e = rw e at o ∙ go rest
      where
        go : (r : Result (List B)) → on_answer (on_answer r (λ ys. answered (y ∷ ys))) (λ ys. answered (first ++ ys)) ≡ on_answer r (λ ys. answered (first ++ (y ∷ []) ++ ys))
        go (answered ys) = ap answered (sym (append_assoc first (y ∷ []) ys))
        go (refused n p) = refl

    pub onward_no : (n p : ℕ) → x ≡ refused n p → refused n p ≡ whole
    unfolding Onward
    onward_no n p e = sym (rw e at o)

  pub onward_end : (whole : Result (List B)) (first : List B) → Onward whole first (answered []) → answered first ≡ whole
  unfolding Onward
  onward_end whole first o = sym (o ∙ ap answered (append-nil first))

-- what is answered for all is what is answered for each
module _ {A B : Type 0} (f : A → Result B) (a : A) (b : B) where
  pub answers_each : (xs : List A) (ys : List B) → answers_of f xs ≡ answered ys
      → (length ys ≡ length xs) × ((k : ℕ) → k < length xs → f (get_or xs k a) ≡ answered (get_or ys k b))
  unfolding answers_of
  answers_each [] ys e = let q : ys ≡ [] = cc in (rw q, λ k h. absurd (omega arith))
  answers_each (x ∷ xs) ys e = go (f x) refl (answers_of f xs) refl e (λ zs q. answers_each xs zs q)
    where
      more : (y : B) (zs : List B) → f x ≡ answered y → ((k : ℕ) → k < length xs → f (get_or xs k a) ≡ answered (get_or zs k b))
          → (k : ℕ) → k < suc (length xs) → f (get_or (x ∷ xs) k a) ≡ answered (get_or (y ∷ zs) k b)
      more y zs p g zero h = p
      more y zs p g (suc k) h = g k (omega arith)

      go : (u : Result B) → f x ≡ u → (v : Result (List B)) → answers_of f xs ≡ v → on_answer u (λ y. on_answer v (λ zs. answered (y ∷ zs))) ≡ answered ys
          → ((zs : List B) → answers_of f xs ≡ answered zs → (length zs ≡ length xs) × ((k : ℕ) → k < length xs → f (get_or xs k a) ≡ answered (get_or zs k b)))
          → (length ys ≡ suc (length xs)) × ((k : ℕ) → k < suc (length xs) → f (get_or (x ∷ xs) k a) ≡ answered (get_or ys k b))
      go (answered y) p (answered zs) q h i =
          let r : y ∷ zs ≡ ys = cc in
          let j = i zs q in
          rw (← r) (ap suc j.0, more y zs p j.1)
      go (answered y) p (refused n m) q h i = let z : ◌≡◌ {A = ℕ} 0 1 = cc in absurd (omega arith)
      go (refused n m) p v q h i = let z : ◌≡◌ {A = ℕ} 0 1 = cc in absurd (omega arith)

  pub answers_all : (xs : List A) → ((k : ℕ) → k < length xs → (y : B) × (f (get_or xs k a) ≡ answered y)) → (ys : List B) × (answers_of f xs ≡ answered ys)
  unfolding answers_of
  answers_all [] g = ([], refl)
  answers_all (x ∷ xs) g =
      let p = g 0 (omega arith) in
      let r = answers_all xs (λ k h. g (suc k) (omega arith)) in
      (p.0 ∷ r.0, rw (p.1, r.1))

  -- and a refusal is one of them
  pub answers_refused : (xs : List A) (n m : ℕ) → answers_of f xs ≡ refused n m → (k : ℕ) × (k < length xs) × (f (get_or xs k a) ≡ refused n m)
  unfolding answers_of
  answers_refused [] n m e = let z : ◌≡◌ {A = ℕ} 0 1 = cc in absurd (omega arith)
  answers_refused (x ∷ xs) n m e = go (f x) refl (answers_of f xs) refl e (λ q. answers_refused xs n m q)
    where
      go : (u : Result B) → f x ≡ u → (v : Result (List B)) → answers_of f xs ≡ v → on_answer u (λ y. on_answer v (λ zs. answered (y ∷ zs))) ≡ refused n m
          → (answers_of f xs ≡ refused n m → (k : ℕ) × (k < length xs) × (f (get_or xs k a) ≡ refused n m))
          → (k : ℕ) × (k < suc (length xs)) × (f (get_or (x ∷ xs) k a) ≡ refused n m)
      go (refused i j) p v q h g =
          let r : i ≡ n = cc in
          let s : j ≡ m = cc in
          (0, omega arith, rw (← r, ← s) p)
      go (answered y) p (refused i j) q h g = let r = g (q ∙ h) in let l = r.1 in (suc r.0, omega arith, r.2)
      go (answered y) p (answered zs) q h g = let z : ◌≡◌ {A = ℕ} 0 1 = cc in absurd (omega arith)

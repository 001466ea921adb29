-- Two replacements from one word. Their left words lie apart, or one within the other, or they overlap. Apart, each can still be made
-- after the other, and both orders end in one word; within and overlapping, the chain that is supposed of the two left words alone
-- is set into the context.
use Prim.Native.Nat.{ℕ, Ordering}
use mathlib.Core.Path.{◌≡◌, sym, ◌∙◌}
use mathlib.Core.Logic.{◌⊎◌, inl, inr}
use mathlib.Core.List.{[], ◌∷◌, ◌++◌, append_assoc, append-nil}
use native.Mathlib.Omega.{arith}
use Rattle.words.specs.Word.{Word}
use Rattle.words.specs.Order.{IsOrder}
use Rattle.rewriting.specs.Links.{Rules, between, Replaces, stop, down, up, LinkedBelow, Sinks, Local}
use Rattle.rewriting.proofs.Chains.{chain_reverse, replaces_there}
use Rattle.words.proofs.OrderLaws.{transitive}
use Rattle.rewriting.proofs.Sinking.{replaces_sinks, below_within}
use Rattle.rewriting.proofs.Splitting.{split_twice}

module _ {cmp : Word → Word → Ordering}
    (o : IsOrder cmp)
    {R : Rules}
    (sinks : Sinks cmp R)
    (nested : (e g l r m s : Word) → R l r → R m s → l ≡ between e g m → LinkedBelow cmp R l r (between e g s))
    (overlap : (e f g l r m s : Word) → R l r → R m s → (f ≡ [] → ⊥) → l ≡ e ++ f → m ≡ f ++ g → LinkedBelow cmp R (l ++ g) (r ++ g) (e ++ s)) where
  apart : (l r m s f y : Word) → R l r → R m s → LinkedBelow cmp R (l ++ (f ++ (m ++ y))) (r ++ (f ++ (m ++ y))) (l ++ (f ++ (s ++ y)))
  apart l r m s f y h k =
      let first : Replaces R (l ++ (f ++ (m ++ y))) (r ++ (f ++ (m ++ y))) = replaces_there [] (f ++ (m ++ y)) l r h in
      let second : Replaces R (l ++ (f ++ (m ++ y))) (l ++ (f ++ (s ++ y))) = simp append_assoc at (replaces_there {R = R} (l ++ f) y m s k) in
      let secondAfter : Replaces R (r ++ (f ++ (m ++ y))) (r ++ (f ++ (s ++ y))) = simp append_assoc at (replaces_there {R = R} (r ++ f) y m s k) in
      let firstAfter : Replaces R (l ++ (f ++ (s ++ y))) (r ++ (f ++ (s ++ y))) = replaces_there [] (f ++ (s ++ y)) l r h in
      let lower = replaces_sinks o sinks second in
      down (replaces_sinks o sinks first) secondAfter
      (up (transitive o _ _ _ (replaces_sinks o sinks firstAfter) lower) firstAfter (stop lower))

  -- an overlap, where an empty one is apart
  touching : (e f g l r m s z : Word) → R l r → R m s → l ≡ e ++ f → m ≡ f ++ g → LinkedBelow cmp R (l ++ (g ++ z)) (r ++ (g ++ z)) (e ++ (s ++ z))
  touching e [] g l r m s z h k p q =
      let e≡l : e ≡ l = sym (append-nil e) ∙ sym p in
      rw (e≡l, ← q) (apart l r m s [] z h k)
  touching e (a ∷ f) g l r m s z h k p q =
      simp append_assoc at (below_within o [] z (overlap e (a ∷ f) g l r m s h k (λ c. let b : ◌≡◌ {A = ℕ} 0 1 = cc in omega arith) p q))

  -- the second left word starts at the first one's start or behind it
  in_order_lem : (l r y e m s z : Word) → R l r → R m s → l ++ y ≡ e ++ (m ++ z) → LinkedBelow cmp R (l ++ y) (r ++ y) (e ++ (s ++ z))
  in_order_lem l r y e m s z h k p = go (split_twice l y e (m ++ z) p)
    where
      within : (f : Word) → l ≡ e ++ f → ((g : Word) × (f ≡ m ++ g) × (z ≡ g ++ y)) ⊎ ((g : Word) × (m ≡ f ++ g) × (y ≡ g ++ z))
          → LinkedBelow cmp R (l ++ y) (r ++ y) (e ++ (s ++ z))
      within f q (inl t) =
          let l≡ : l ≡ between e t.0 m = rw (← t.1) q in
          rw t.2 (simp append_assoc at (below_within o [] y (nested e t.0 l r m s h k l≡)))
      within f q (inr t) = rw t.2 (touching e f t.0 l r m s z h k q t.1)

      go : ((f : Word) × (e ≡ l ++ f) × (y ≡ f ++ (m ++ z))) ⊎ ((f : Word) × (l ≡ e ++ f) × (m ++ z ≡ f ++ y))
          → LinkedBelow cmp R (l ++ y) (r ++ y) (e ++ (s ++ z))
      go (inl t) = rw (t.2, t.1, append_assoc) (apart l r m s t.0 z h k)
      go (inr t) = within t.0 t.1 (split_twice m z t.0 y t.2)

  -- the second replacement is made at the first one's place or behind it
  begun : {u v w : Word} (s : Replaces R u v) (t : Replaces R u w) (e : Word)
      → t.before ≡ s.before ++ e
      → s.left ++ s.behind ≡ e ++ (t.left ++ t.behind)
      → LinkedBelow cmp R u v w
  begun s t e p q =
      rw (s.start, s.end, t.end, p, append_assoc s.before e (t.right ++ t.behind))
      (simp (append_assoc, append-nil) at (below_within o s.before []
      (in_order_lem s.left s.right s.behind e t.left t.right t.behind s.rule t.rule q)))

  -- any two replacements from one word are joined below it
  pub local : Local cmp R
  local u v w s t = go (split_twice s.before (s.left ++ s.behind) t.before (t.left ++ t.behind) (sym s.start ∙ t.start))
    where
      go : ((e : Word) × (t.before ≡ s.before ++ e) × (s.left ++ s.behind ≡ e ++ (t.left ++ t.behind)))
          ⊎ ((e : Word) × (s.before ≡ t.before ++ e) × (t.left ++ t.behind ≡ e ++ (s.left ++ s.behind)))
          → LinkedBelow cmp R u v w
      go (inl a) = begun s t a.0 a.1 a.2
      go (inr a) = chain_reverse (begun t s a.0 a.1 a.2)

-- Three-way comparisons. What the parts of a comparison satisfy, the comparison by the first and then by the second satisfies too,
-- part by part on the answers; so comparing letter by letter and block by block keeps it.
use Prim.Native.Nat.compare
use Prim.Native.Nat.{ℕ, zero, suc, ◌<◌, compare, Ordering}
use mathlib.Core.Path.{◌≡◌, refl, sym, ap, ◌∙◌, subst}
use mathlib.Core.List.{List, [], ◌∷◌}
use mathlib.Core.Logic.{◌⊎◌, inl, inr, ⊎_elim}
use mathlib.Core.WellFounded.Acc
use mathlib.Core.WellFounded.{Acc, WellFounded}
use native.Mathlib.Omega.{arith}
use lib.ListN.{length}
use Rattle.words.specs.Word.{Word}
use Rattle.words.specs.Compare.{then, swap, lex, colex}
use Rattle.words.specs.Order.{Composes}

-- a comparison that orders, where equal answers need not mean equal things
pub record Orders {A : Type 0} (c : A → A → Ordering) : Type 0 where
  pub flips : (a b : A) → c b a ≡ swap (c a b)
  pub composes : (a b x : A) → Composes (c a b) (c b x) (c a x)

pub eq_not_lt : Ordering.eq ≡ Ordering.lt → ⊥
eq_not_lt e = let z : ◌≡◌ {A = ℕ} 0 1 = cc in omega arith

pub gt_not_lt : Ordering.gt ≡ Ordering.lt → ⊥
gt_not_lt e = let z : ◌≡◌ {A = ℕ} 0 1 = cc in omega arith

pub lt_not_eq : Ordering.lt ≡ Ordering.eq → ⊥
lt_not_eq e = let z : ◌≡◌ {A = ℕ} 0 1 = cc in omega arith

pub gt_not_eq : Ordering.gt ≡ Ordering.eq → ⊥
gt_not_eq e = let z : ◌≡◌ {A = ℕ} 0 1 = cc in omega arith

pub then_assoc : (o p q : Ordering) → then o (then p q) ≡ then (then o p) q
then_assoc Ordering.lt p q = refl
then_assoc Ordering.eq p q = refl
then_assoc Ordering.gt p q = refl

pub then_eq : (o : Ordering) → then o Ordering.eq ≡ o
then_eq Ordering.lt = refl
then_eq Ordering.eq = refl
then_eq Ordering.gt = refl

pub swap_then : (o p : Ordering) → swap (then o p) ≡ then (swap o) (swap p)
swap_then Ordering.lt p = refl
swap_then Ordering.eq p = refl
swap_then Ordering.gt p = refl

-- both are equal where the two together are
pub both_eq : (o p : Ordering) → then o p ≡ Ordering.eq → (o ≡ Ordering.eq) × (p ≡ Ordering.eq)
both_eq Ordering.lt p e = absurd (lt_not_eq e)
both_eq Ordering.eq p e = (refl, e)
both_eq Ordering.gt p e = absurd (gt_not_eq e)

-- the first tells, or the second does
pub either_lt : (o p : Ordering) → then o p ≡ Ordering.lt → (o ≡ Ordering.lt) ⊎ ((o ≡ Ordering.eq) × (p ≡ Ordering.lt))
either_lt Ordering.lt p e = inl refl
either_lt Ordering.eq p e = inr (refl, e)
either_lt Ordering.gt p e = absurd (gt_not_lt e)

pub then_composes : (o p q o' p' q' : Ordering) → Composes o p q → Composes o' p' q' → Composes (then o o') (then p p') (then q q')
then_composes Ordering.lt Ordering.lt q o' p' q' h k = ap (λ (x : Ordering). then x q') h
then_composes Ordering.lt Ordering.eq q o' Ordering.lt q' h k = ap (λ (x : Ordering). then x q') h
then_composes Ordering.lt Ordering.eq q o' Ordering.eq q' h k = ap (λ (x : Ordering). then x q') h
then_composes Ordering.lt Ordering.eq q o' Ordering.gt q' h k = tt
then_composes Ordering.lt Ordering.gt q o' p' q' h k = tt
then_composes Ordering.eq Ordering.lt q Ordering.lt p' q' h k = ap (λ (x : Ordering). then x q') h
then_composes Ordering.eq Ordering.lt q Ordering.eq p' q' h k = ap (λ (x : Ordering). then x q') h
then_composes Ordering.eq Ordering.lt q Ordering.gt p' q' h k = tt
then_composes Ordering.eq Ordering.eq q o' p' q' h k = subst (λ (x : Ordering). Composes o' p' (then x q')) (sym h) k
then_composes Ordering.eq Ordering.gt q Ordering.lt p' q' h k = tt
then_composes Ordering.eq Ordering.gt q Ordering.eq p' q' h k = ap (λ (x : Ordering). then x q') h
then_composes Ordering.eq Ordering.gt q Ordering.gt p' q' h k = ap (λ (x : Ordering). then x q') h
then_composes Ordering.gt Ordering.lt q o' p' q' h k = tt
then_composes Ordering.gt Ordering.eq q o' Ordering.lt q' h k = tt
then_composes Ordering.gt Ordering.eq q o' Ordering.eq q' h k = ap (λ (x : Ordering). then x q') h
then_composes Ordering.gt Ordering.eq q o' Ordering.gt q' h k = ap (λ (x : Ordering). then x q') h
then_composes Ordering.gt Ordering.gt q o' p' q' h k = ap (λ (x : Ordering). then x q') h

-- first by one comparison, at equal answers by another
pub then_orders : {A : Type 0} {c d : A → A → Ordering} → Orders c → Orders d → Orders (λ (a b : A). then (c a b) (d a b))
then_orders {c = c} {d = d} C D =
    record {
      flips = λ a b. rw (C.flips a b, D.flips a b, swap_then);
      composes = λ a b x. then_composes (c a b) (c b x) (c a x) (d a b) (d b x) (d a x) (C.composes a b x) (D.composes a b x);
    }

-- by what a function makes of each
pub by_orders : {A B : Type 0} {c : B → B → Ordering} (f : A → B) → Orders c → Orders (λ (a b : A). c (f a) (f b))
by_orders f C = record { flips = λ a b. C.flips (f a) (f b); composes = λ a b x. C.composes (f a) (f b) (f x) }

module _ {A : Type 0} {c : A → A → Ordering} (C : Orders c) where
  -- each thing is equal to itself
  pub self_eq : (a : A) → c a a ≡ Ordering.eq
  self_eq a = go (c a a) (C.flips a a)
    where
      go : (o : Ordering) → o ≡ swap o → o ≡ Ordering.eq
      go Ordering.lt e = absurd (gt_not_lt (sym e))
      go Ordering.eq e = refl
      go Ordering.gt e = absurd (gt_not_lt e)

  -- what is below b is below what is equal to b
  pub below_equal : (a b x : A) → c a b ≡ Ordering.lt → c b x ≡ Ordering.eq → c a x ≡ Ordering.lt
  below_equal a b x h k = rw (h, k) at (C.composes a b x)

  pub equal_equal : (a b x : A) → c a b ≡ Ordering.eq → c b x ≡ Ordering.eq → c a x ≡ Ordering.eq
  equal_equal a b x h k = rw (h, k) at (C.composes a b x)

-- numbers
pub compare_lt : (a b : ℕ) → a < b → compare a b ≡ Ordering.lt
compare_lt a zero h = absurd (omega arith)
compare_lt zero (suc b) h = compare.zero-suc b
compare_lt (suc a) (suc b) h = compare.suc-suc a b ∙ compare_lt a b (omega arith)

pub compare_gt : (a b : ℕ) → b < a → compare a b ≡ Ordering.gt
compare_gt zero b h = absurd (omega arith)
compare_gt (suc a) zero h = compare.suc-zero a
compare_gt (suc a) (suc b) h = compare.suc-suc a b ∙ compare_gt a b (omega arith)

pub compare_self : (a : ℕ) → compare a a ≡ Ordering.eq
compare_self zero = refl
compare_self (suc a) = compare.suc-suc a a ∙ compare_self a

-- the three cases, with what the comparison answers in each
pub data Stands (a b : ℕ) : Ordering → Type 0 where
  lower : a < b → Stands a b Ordering.lt
  level : a ≡ b → Stands a b Ordering.eq
  upper : b < a → Stands a b Ordering.gt

pub stands : (a b : ℕ) → Stands a b (compare a b)
stands zero zero = level refl
stands zero (suc b) = rw compare.zero-suc (lower (omega arith))
stands (suc a) zero = rw compare.suc-zero (upper (omega arith))
stands (suc a) (suc b) = rw compare.suc-suc (go (compare a b) (stands a b))
  where
    go : (o : Ordering) → Stands a b o → Stands (suc a) (suc b) o
    go Ordering.lt (lower h) = lower (omega arith)
    go Ordering.eq (level h) = level (ap suc h)
    go Ordering.gt (upper h) = upper (omega arith)

pub compare_eq : (a b : ℕ) → a ≡ b → compare a b ≡ Ordering.eq
compare_eq a b e = rw (← e) (compare_self a)

pub below_of : (a b : ℕ) → compare a b ≡ Ordering.lt → a < b
below_of a b = go (compare a b) (stands a b)
  where
    go : (o : Ordering) → Stands a b o → o ≡ Ordering.lt → a < b
    go Ordering.lt (lower h) e = h
    go Ordering.eq (level h) e = absurd (eq_not_lt e)
    go Ordering.gt (upper h) e = absurd (gt_not_lt e)

pub equal_of : (a b : ℕ) → compare a b ≡ Ordering.eq → a ≡ b
equal_of a b = go (compare a b) (stands a b)
  where
    go : (o : Ordering) → Stands a b o → o ≡ Ordering.eq → a ≡ b
    go Ordering.lt (lower h) e = absurd (lt_not_eq e)
    go Ordering.eq (level h) e = h
    go Ordering.gt (upper h) e = absurd (gt_not_eq e)

pub compare_orders : Orders compare
compare_orders =
    record {
      flips = λ a b. flip a b (compare a b) (stands a b);
      composes = λ a b x. through a b x (compare a b) (stands a b) (compare b x) (stands b x);
    }
  where
    flip : (a b : ℕ) (o : Ordering) → Stands a b o → compare b a ≡ swap o
    flip a b Ordering.lt (lower h) = compare_gt b a h
    flip a b Ordering.eq (level h) = compare_eq b a (sym h)
    flip a b Ordering.gt (upper h) = compare_lt b a h

    through : (a b x : ℕ) (o : Ordering) → Stands a b o → (p : Ordering) → Stands b x p → Composes o p (compare a x)
    through a b x Ordering.lt (lower h) Ordering.lt (lower k) = compare_lt a x (omega arith)
    through a b x Ordering.lt (lower h) Ordering.eq (level k) = compare_lt a x (omega arith)
    through a b x Ordering.lt (lower h) Ordering.gt (upper k) = tt
    through a b x Ordering.eq (level h) Ordering.lt (lower k) = compare_lt a x (omega arith)
    through a b x Ordering.eq (level h) Ordering.eq (level k) = compare_eq a x (h ∙ k)
    through a b x Ordering.eq (level h) Ordering.gt (upper k) = compare_gt a x (omega arith)
    through a b x Ordering.gt (upper h) Ordering.lt (lower k) = tt
    through a b x Ordering.gt (upper h) Ordering.eq (level k) = compare_gt a x (omega arith)
    through a b x Ordering.gt (upper h) Ordering.gt (upper k) = compare_gt a x (omega arith)

pub compare_well_founded : WellFounded (λ (a b : ℕ). compare a b ≡ Ordering.lt)
compare_well_founded = record { apply = λ a. upto (suc a) a (omega arith) }
  where
    upto : (k a : ℕ) → a < k → Acc (λ (a b : ℕ). compare a b ≡ Ordering.lt) a
    upto zero a h = absurd (omega arith)
    upto (suc k) a h = Acc.intro a (λ b l. upto k b (omega (arith, below_of b a l)))

-- the empty list before any answer, and behind any
lt_any : (p : Ordering) → Composes Ordering.lt p Ordering.lt
lt_any Ordering.lt = refl
lt_any Ordering.eq = refl
lt_any Ordering.gt = tt

any_gt : (o : Ordering) → Composes o Ordering.gt Ordering.gt
any_gt Ordering.lt = tt
any_gt Ordering.eq = refl
any_gt Ordering.gt = refl

-- lists, the empty one below every other, by any rule for the first elements that hands on from the tails
module _
    {A : Type 0}
    (d : List A → List A → Ordering)
    (none : d [] [] ≡ Ordering.eq)
    (less : (b : A) (v : List A) → d [] (b ∷ v) ≡ Ordering.lt)
    (more : (a : A) (u : List A) → d (a ∷ u) [] ≡ Ordering.gt)
    (turn : (a b : A) (u v : List A) → d v u ≡ swap (d u v) → d (b ∷ v) (a ∷ u) ≡ swap (d (a ∷ u) (b ∷ v)))
    (pass : (a b x : A) (u v w : List A)
    → Composes (d u v) (d v w) (d u w) → Composes (d (a ∷ u) (b ∷ v)) (d (b ∷ v) (x ∷ w)) (d (a ∷ u) (x ∷ w))) where
  list_orders : Orders d
  list_orders = record { flips = flip; composes = through }
    where
      flip : (u v : List A) → d v u ≡ swap (d u v)
      flip [] [] = rw none
      flip [] (b ∷ v) = rw (less b v, more b v)
      flip (a ∷ u) [] = rw (less a u, more a u)
      flip (a ∷ u) (b ∷ v) = turn a b u v (flip u v)

      through : (u v w : List A) → Composes (d u v) (d v w) (d u w)
      through [] [] [] = rw none refl
      through [] [] (x ∷ w) = rw (none, less x w) refl
      through [] (b ∷ v) [] = rw (less b v, more b v) tt
      through [] (b ∷ v) (x ∷ w) = rw (less b v, less x w) (lt_any (d (b ∷ v) (x ∷ w)))
      through (a ∷ u) [] [] = rw (none, more a u) refl
      through (a ∷ u) [] (x ∷ w) = rw (more a u, less x w) tt
      through (a ∷ u) (b ∷ v) [] = rw (more b v, more a u) (any_gt (d (a ∷ u) (b ∷ v)))
      through (a ∷ u) (b ∷ v) (x ∷ w) = pass a b x u v w (through u v w)

-- letter by letter from the left
pub lex_orders : Orders lex
lex_orders =
    list_orders lex refl (λ b v. refl) (λ a u. refl)
    (λ a b u v e. rw (compare_orders.flips a b, e, swap_then))
    (λ a b x u v w. then_composes (compare a b) (compare b x) (compare a x) (lex u v) (lex v w) (lex u w) (compare_orders.composes a b x))

pub lex_same : (u v : Word) → lex u v ≡ Ordering.eq → u ≡ v
lex_same [] [] e = refl
lex_same [] (b ∷ v) e = absurd (lt_not_eq e)
lex_same (a ∷ u) [] e = absurd (gt_not_eq e)
lex_same (a ∷ u) (b ∷ v) e = let h = both_eq (compare a b) (lex u v) e in cc (equal_of a b h.0, lex_same u v h.1)

-- a shorter list is below a longer one whatever its elements
pub colex_length : {A : Type 0} (c : A → A → Ordering) (u v : List A) → then (compare (length u) (length v)) (colex c u v) ≡ colex c u v
colex_length c [] [] = refl
colex_length c [] (b ∷ v) = rw compare.zero-suc
colex_length c (a ∷ u) [] = rw compare.suc-zero
colex_length c (a ∷ u) (b ∷ v) = rw (compare.suc-suc, then_assoc, colex_length c u v)

-- element by element from the last to the first
module _ {A : Type 0} {c : A → A → Ordering} (C : Orders c) where
  pub colex_orders : Orders (colex c)
  colex_orders =
      list_orders (colex c) refl (λ b v. refl) (λ a u. refl)
      (λ a b u v e. rw (e, C.flips a b, swap_then))
      (λ a b x u v w h. then_composes (colex c u v) (colex c v w) (colex c u w) (c a b) (c b x) (c a x) h (C.composes a b x))

  -- a list is accessible by what stands behind its first element, and then by that element; what is equal behind goes along
  pub colex_well_founded : WellFounded (λ (a b : A). c a b ≡ Ordering.lt) → WellFounded (λ (u v : List A). colex c u v ≡ Ordering.lt)
  colex_well_founded wf = record { apply = all }
    where
      R : List A → List A → Type 0
      R u v = colex c u v ≡ Ordering.lt

      none : Acc R []
      none = Acc.intro [] (λ u l. absurd (bare u l))
        where
          bare : (u : List A) → colex c u [] ≡ Ordering.lt → ⊥
          bare [] l = eq_not_lt l
          bare (a ∷ u) l = gt_not_lt l

      -- every list with an equal of v behind its first element is accessible
      Ahead : List A → Type 0
      Ahead v = (w : List A) → colex c w v ≡ Ordering.eq → (b : A) → Acc R (b ∷ w)

      -- the same for one first element
      From : List A → A → Type 0
      From v b = (w : List A) → colex c w v ≡ Ordering.eq → Acc R (b ∷ w)

      step : (v : List A) → ((u : List A) → R u v → Ahead u) → (b : A) → ((a : A) → c a b ≡ Ordering.lt → From v a) → From v b
      step v lists b firsts w e = Acc.intro (b ∷ w) below
        where
          below : (z : List A) → R z (b ∷ w) → Acc R z
          below [] l = none
          below (a ∷ u) l =
              ⊎_elim
              (λ h. lists u (below_equal colex_orders u w v h e) u (self_eq colex_orders u) a)
              (λ h. firsts a h.1 u (equal_equal colex_orders u w v h.0 e))
              (either_lt (colex c u w) (c a b) l)

      ahead : {v : List A} → Acc R v → Ahead v
      ahead = Acc.ndrec {C = Ahead} (λ v _ lists w e b. Acc.ndrec {C = From v} (λ b _ firsts. step v lists b firsts) (wf.apply b) w e)

      all : (v : List A) → Acc R v
      all [] = none
      all (b ∷ v) = ahead (all v) v (self_eq colex_orders v) b

-- Kachinuki, from the greatest letter that occurs. A bound past the letters of all words in question changes nothing, so each law of a bound holds
-- without one. Equal words, and words behind both, then follow from the rules of the first letters alone. A word below another has no greater letter,
-- so whatever lies below a word is compared below that word's own bound, where no descent is endless.
use Prim.Native.Nat.{ℕ, ◌≤◌, ◌<◌, max, compare, Ordering}
use mathlib.Core.Path.{◌≡◌, refl, sym, ap, ◌∙◌}
use mathlib.Core.List.{[], ◌∷◌, ◌++◌, append_assoc}
use mathlib.Core.Logic.{◌↔◌, ◌⊎◌, inl, inr, ⊎_elim}
use mathlib.Core.WellFounded.Acc
use mathlib.Core.WellFounded.{WellFounded, Acc}
use native.Mathlib.Omega.{arith}
use Rattle.words.specs.Word.{Word}
use Rattle.words.specs.Compare.{then, swap}
use Rattle.words.specs.Order.{Below, Composes, IsOrder}
use Rattle.words.specs.Kachinuki.{kachinuki_below, letters_of, kachinuki}
use Rattle.words.proofs.CompareLaws.{Orders, Stands, lower, level, upper, stands, eq_not_lt, gt_not_lt, lt_not_eq, gt_not_eq, both_eq}
use Rattle.words.proofs.CompareLaws.{either_lt, self_eq}
use Rattle.words.proofs.BlockLaws as bounded

-- from any bound past the letters of both
pub from_bound : (n : ℕ) (u v : Word) → max (letters_of u) (letters_of v) ≤ n → kachinuki u v ≡ kachinuki_below n u v
unfolding kachinuki
from_bound n u v h = sym (bounded.any_bound (max (letters_of u) (letters_of v)) n u v (omega arith) (omega arith) h)

pub kachinuki_orders : Orders kachinuki
kachinuki_orders = record { flips = flip; composes = through }
  where
    flip : (u v : Word) → kachinuki v u ≡ swap (kachinuki u v)
    flip u v =
        let n = max (letters_of u) (letters_of v) in
        rw (from_bound n u v (omega arith), from_bound n v u (omega arith)) ((bounded.below_orders n).flips u v)

    through : (u v w : Word) → Composes (kachinuki u v) (kachinuki v w) (kachinuki u w)
    through u v w =
        let n = max (letters_of u) (max (letters_of v) (letters_of w)) in
        rw (from_bound n u v (omega arith), from_bound n v w (omega arith), from_bound n u w (omega arith)) ((bounded.below_orders n).composes u v w)

-- the rule of the first letters (Specification, "Orders"), as answers: equal first letters leave the answer to the tails
pub equal_letters : (a : ℕ) (u v : Word) → kachinuki (a ∷ u) (a ∷ v) ≡ kachinuki u v
equal_letters a u v =
    let n = max (letters_of (a ∷ u)) (letters_of (a ∷ v)) in
    rw (from_bound n (a ∷ u) (a ∷ v) (omega arith), from_bound n u v (omega arith)) (bounded.equal_letters n a u v (omega arith))

-- a greater first letter: equal to the other's tail counts as below
pub greater_letter : (s r : ℕ) (t u : Word) → r < s → kachinuki (s ∷ t) (r ∷ u) ≡ then (kachinuki (s ∷ t) u) Ordering.lt
greater_letter s r t u h =
    let n = max (letters_of (s ∷ t)) (letters_of (r ∷ u)) in
    rw (from_bound n (s ∷ t) (r ∷ u) (omega arith), from_bound n (s ∷ t) u (omega arith)) (bounded.greater_letter n s r t u h (omega arith))

-- a smaller first letter: a tail equal to the other word counts as above
pub smaller_letter : (s r : ℕ) (t u : Word) → s < r → kachinuki (s ∷ t) (r ∷ u) ≡ then (kachinuki t (r ∷ u)) Ordering.gt
smaller_letter s r t u h =
    let n = max (letters_of (s ∷ t)) (letters_of (r ∷ u)) in
    rw (from_bound n (s ∷ t) (r ∷ u) (omega arith), from_bound n t (r ∷ u) (omega arith)) (bounded.smaller_letter n s r t u h (omega arith))

-- the empty word is below every other
pub nil_below : (r : ℕ) (u : Word) → Below kachinuki [] (r ∷ u)
nil_below r u = from_bound (letters_of (r ∷ u)) [] (r ∷ u) (omega arith) ∙ bounded.nil_below (letters_of (r ∷ u)) r u (omega arith)

pub above_nil : (s : ℕ) (t : Word) → kachinuki (s ∷ t) [] ≡ Ordering.gt
above_nil s t = rw (kachinuki_orders.flips [] (s ∷ t), nil_below s t)

-- what the rules of the first letters hand on from shorter words holds of all
module _
    (P : Word → Word → Type 0)
    (nil : (v : Word) → P [] v)
    (end : (s : ℕ) (t : Word) → P (s ∷ t) [])
    (equal : (a : ℕ) (t u : Word) → P t u → P (a ∷ t) (a ∷ u))
    (greater : (s r : ℕ) (t u : Word) → r < s → P (s ∷ t) u → P (s ∷ t) (r ∷ u))
    (smaller : (s r : ℕ) (t u : Word) → s < r → P t (r ∷ u) → P (s ∷ t) (r ∷ u)) where
  second_word : (s : ℕ) (t : Word) → ((v : Word) → P t v) → (v : Word) → P (s ∷ t) v
  second_word s t f [] = end s t
  second_word s t f (r ∷ u) = go (compare s r) (stands s r) (second_word s t f u)
    where
      go : (o : Ordering) → Stands s r o → P (s ∷ t) u → P (s ∷ t) (r ∷ u)
      go Ordering.lt (lower h) p = smaller s r t u h (f (r ∷ u))
      go Ordering.eq (level h) p = rw (← h) (equal s t u (f u))
      go Ordering.gt (upper h) p = greater s r t u h p

  by_first_letters : (u v : Word) → P u v
  by_first_letters [] v = nil v
  by_first_letters (s ∷ t) v = second_word s t (λ w. by_first_letters t w) v

pub kachinuki_same : (u v : Word) → kachinuki u v ≡ Ordering.eq → u ≡ v
kachinuki_same = by_first_letters
    (λ u v. kachinuki u v ≡ Ordering.eq → u ≡ v)
    nil
    (λ s t e. absurd (gt_not_eq (rw (above_nil s t) at e)))
    (λ a t u p e. ap (λ (w : Word). a ∷ w) (p (rw (equal_letters a t u) at e)))
    (λ s r t u h p e. absurd (lt_not_eq (both_eq (kachinuki (s ∷ t) u) Ordering.lt (rw (greater_letter s r t u h) at e)).1))
    (λ s r t u h p e. absurd (gt_not_eq (both_eq (kachinuki t (r ∷ u)) Ordering.gt (rw (smaller_letter s r t u h) at e)).1))
  where
    nil : (v : Word) → kachinuki [] v ≡ Ordering.eq → [] ≡ v
    nil [] e = refl
    nil (r ∷ u) e = absurd (lt_not_eq (rw (nil_below r u) at e))

-- the same rule as the specification words it: equal first letters
pub equal_exactly : (a : ℕ) (t u : Word) → Below kachinuki (a ∷ t) (a ∷ u) ↔ Below kachinuki t u
equal_exactly a t u = (λ l. rw (equal_letters a t u) at l, λ l. equal_letters a t u ∙ l)

-- s greater than r: exactly if the whole word is below or equal to the other's tail
pub greater_exactly : (s r : ℕ) (t u : Word) → r < s → Below kachinuki (s ∷ t) (r ∷ u) ↔ Below kachinuki (s ∷ t) u ⊎ (s ∷ t ≡ u)
greater_exactly s r t u h = (down, up)
  where
    down : Below kachinuki (s ∷ t) (r ∷ u) → Below kachinuki (s ∷ t) u ⊎ (s ∷ t ≡ u)
    down l =
        ⊎_elim inl (λ e. inr (kachinuki_same (s ∷ t) u e.0)) (either_lt (kachinuki (s ∷ t) u) Ordering.lt (rw (greater_letter s r t u h) at l))

    up : Below kachinuki (s ∷ t) u ⊎ (s ∷ t ≡ u) → Below kachinuki (s ∷ t) (r ∷ u)
    up (inl l) = rw (greater_letter s r t u h, l)
    up (inr e) = rw (greater_letter s r t u h, ← e, self_eq kachinuki_orders (s ∷ t))

-- s smaller than r: exactly if the tail is below the other word
pub smaller_exactly : (s r : ℕ) (t u : Word) → s < r → Below kachinuki (s ∷ t) (r ∷ u) ↔ Below kachinuki t (r ∷ u)
smaller_exactly s r t u h = (down, λ l. rw (smaller_letter s r t u h, l))
  where
    down : Below kachinuki (s ∷ t) (r ∷ u) → Below kachinuki t (r ∷ u)
    down l = ⊎_elim (λ e. e) (λ e. absurd (gt_not_lt e.1)) (either_lt (kachinuki t (r ∷ u)) Ordering.gt (rw (smaller_letter s r t u h) at l))

-- the same word in front changes nothing
in_front : (x u v : Word) → kachinuki (x ++ u) (x ++ v) ≡ kachinuki u v
in_front [] u v = refl
in_front (a ∷ x) u v = equal_letters a (x ++ u) (x ++ v) ∙ in_front x u v

-- what its tail and the word itself must show for a word to be below one that ends in it
ends_below : (s a : ℕ) (t z : Word) → Below kachinuki t (a ∷ z) → Below kachinuki t z
    → Below kachinuki (s ∷ t) z ⊎ (s ∷ t ≡ z) → Below kachinuki (s ∷ t) (a ∷ z)
ends_below s a t z longer shorter whole = go (compare s a) (stands s a)
  where
    go : (o : Ordering) → Stands s a o → Below kachinuki (s ∷ t) (a ∷ z)
    go Ordering.lt (lower h) = (smaller_exactly s a t z h).1 longer
    go Ordering.eq (level h) = rw (← h) ((equal_exactly s t z).1 shorter)
    go Ordering.gt (upper h) = (greater_exactly s a t z h).1 whole

-- a word is below every longer word that ends in it
ends_longer : (y : Word) (a : ℕ) (x : Word) → Below kachinuki y (a ∷ (x ++ y))
ends_longer [] a x = nil_below a (x ++ [])
ends_longer (s ∷ t) a x = whole (λ b z. rw (append_assoc z (s ∷ []) t) at (ends_longer t b (z ++ (s ∷ [])))) (ends_longer t s []) x a
  where
    whole : ((b : ℕ) (z : Word) → Below kachinuki t (b ∷ (z ++ (s ∷ t)))) → Below kachinuki t (s ∷ t)
        → (x : Word) (a : ℕ) → Below kachinuki (s ∷ t) (a ∷ (x ++ (s ∷ t)))
    whole tail next [] a = ends_below s a t (s ∷ t) (tail a []) next (inr refl)
    whole tail next (b ∷ x) a = ends_below s a t (b ∷ (x ++ (s ∷ t))) (tail a (b ∷ x)) (tail b x) (inl (whole tail next x b))

-- the same word behind keeps one below the other
behind : (u v : Word) → Below kachinuki u v → (y : Word) → Below kachinuki (u ++ y) (v ++ y)
behind = by_first_letters
    (λ u v. Below kachinuki u v → (y : Word) → Below kachinuki (u ++ y) (v ++ y))
    nil
    (λ s t l. absurd (gt_not_lt (rw (above_nil s t) at l)))
    (λ a t u p l y. (equal_exactly a (t ++ y) (u ++ y)).1 (p ((equal_exactly a t u).0 l) y))
    (λ s r t u h p l y.
    (greater_exactly s r (t ++ y) (u ++ y) h).1
    (⊎_elim (λ e. inl (p e y)) (λ e. inr (ap (λ (w : Word). w ++ y) e)) ((greater_exactly s r t u h).0 l)))
    (λ s r t u h p l y. (smaller_exactly s r (t ++ y) (u ++ y) h).1 (p ((smaller_exactly s r t u h).0 l) y))
  where
    nil : (v : Word) → Below kachinuki [] v → (y : Word) → Below kachinuki y (v ++ y)
    nil [] l y = absurd (eq_not_lt (rw (self_eq kachinuki_orders []) at l))
    nil (r ∷ u) l y = ends_longer y r u

-- a word below another has no greater letter
pub below_letters : (u v : Word) → Below kachinuki u v → letters_of u ≤ letters_of v
below_letters = by_first_letters
    (λ u v. Below kachinuki u v → letters_of u ≤ letters_of v)
    (λ v l. omega arith)
    (λ s t l. absurd (gt_not_lt (rw (above_nil s t) at l)))
    (λ a t u p l. omega (arith, p ((equal_exactly a t u).0 l)))
    (λ s r t u h p l. ⊎_elim (λ e. omega (arith, p e)) (λ e. omega (arith, ap letters_of e)) ((greater_exactly s r t u h).0 l))
    (λ s r t u h p l. omega (arith, p ((smaller_exactly s r t u h).0 l)))

pub kachinuki_well_founded : WellFounded (Below kachinuki)
kachinuki_well_founded = record { apply = λ u. bounded_acc (letters_of u) ((bounded.below_well_founded (letters_of u)).apply u) (omega arith) }
  where
    bounded_acc : (n : ℕ) {u : Word} → Acc (Below (kachinuki_below n)) u → letters_of u ≤ n → Acc (Below kachinuki) u
    bounded_acc n =
        Acc.ndrec {C = λ u. letters_of u ≤ n → Acc (Below kachinuki) u}
        (λ u _ acc h. Acc.intro u (λ v l. let k = below_letters v u l in acc v (rw (from_bound n v u (omega arith)) at l) (omega arith)))

pub kachinuki_order : IsOrder kachinuki
kachinuki_order =
    record {
      flips = kachinuki_orders.flips;
      composes = kachinuki_orders.composes;
      same = kachinuki_same;
      within = λ x y u v l. in_front x (u ++ y) (v ++ y) ∙ behind u v l y;
      well_founded = kachinuki_well_founded;
    }

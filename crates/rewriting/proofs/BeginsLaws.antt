-- Comparing letters. What a word begins with is found letter by letter: whatever the first i letters were, the test is the test of what is left
-- from i on. Two words of one length are the same if one begins with the other, and two words agree if the longer begins with the shorter.
use Prim.Native.Nat.{ℕ, ◌+◌, ◌-◌, ◌≤◌, ◌<◌}
use mathlib.Core.Path.{◌≡◌, refl, sym, ◌∙◌, ap}
use mathlib.Core.Bool.{Bool, true, false, ◌&&◌}
use mathlib.Core.List.{[], ◌∷◌}
use native.Mathlib.Omega.{arith}
use native.Mathlib.Numerals.{add-one}
use borrow.Author.Tests.{eqb-true, eqb-false, eq-eqb, ne_eqb, le-leb}
use borrow.Author.Rules.{part_to_end}
use lib.Dec.{leb, eqb}
use lib.ListN.{length, get_or, take, drop, length-drop, drop_of_length-le}
use lib.Seq.{drop-cons, get_or-drop}
use Rattle.std.specs.List.{starts_with}
use Rattle.std.specs.Prelude.{nat_eq}
use lib.Pointwise.{pointwise}
use Rattle.words.specs.Word.{Word}
use Rattle.rewriting.specs.Standing.{begins, stands_at}
use Rattle.rewriting.specs.Steps.{same_word}
use Rattle.rewriting.specs.Pairs.{agree}

-- the letter at a place and those behind it
pub letter_at : (w : Word) (i : ℕ) → i < length w → drop i w ≡ get_or w i 0 ∷ drop (i + 1) w
letter_at w i h = rw (add-one i) (drop-cons w i 0 h)

-- the first i letters of l are those of w from p on
unfoldable pub Begun : Word → Word → ℕ → ℕ → Type 0
Begun l w p i = begins l (drop p w) ≡ begins (drop i l) (drop (p + i) w)

module _ (l w : Word) (p : ℕ) where
  pub begun_start : Begun l w p 0
  unfolding Begun
  begun_start = let e : p + 0 ≡ p = omega arith in rw e

  -- the definition at the letter i
  begun_next : (i : ℕ) → Begun l w p i → i < length l → p + length l ≤ length w
      → begins l (drop p w) ≡ eqb (get_or l i 0) (get_or w (p + i) 0) && begins (drop (i + 1) l) (drop (p + (i + 1)) w)
  unfolding Begun begins
  begun_next i s h f =
      let e : p + i + 1 ≡ p + (i + 1) = omega arith in
      s ∙ rw (letter_at l i h, letter_at w (p + i) (omega arith), e)

  pub begun_on : (i : ℕ) → Begun l w p i → i < length l → p + length l ≤ length w → get_or l i 0 ≡ get_or w (p + i) 0 → Begun l w p (i + 1)
  unfolding Begun
  begun_on i s h f e = begun_next i s h f ∙ rw (eq-eqb (get_or l i 0) (get_or w (p + i) 0) e)

  pub begun_no : (i : ℕ) → Begun l w p i → i < length l → p + length l ≤ length w → (get_or l i 0 ≡ get_or w (p + i) 0 → ⊥) → false ≡ begins l (drop p w)
  begun_no i s h f e = sym (begun_next i s h f ∙ rw (ne_eqb (get_or l i 0) (get_or w (p + i) 0) e))

  pub begun_end : (i : ℕ) → Begun l w p i → length l ≤ i → true ≡ begins l (drop p w)
  unfolding Begun begins
  begun_end i s h = sym (s ∙ rw (drop_of_length-le l h))

-- the library's comparison of a word with the first letters of another
begins_front : (l w : Word) → starts_with nat_eq w l ≡ begins l w
unfolding begins
begins_front [] w = refl
begins_front (a ∷ l) [] = refl
begins_front (a ∷ l) (b ∷ w) = rw (begins_front l w) refl

pub begins_is : (l w : Word) (p : ℕ) (r : Bool) → r ≡ starts_with nat_eq (take (length w - p) (drop p w)) l → r ≡ begins l (drop p w)
begins_is l w p r e = e ∙ rw (part_to_end w p) (begins_front l (drop p w))

-- a longer word does not begin a shorter one
begins_short : (l w : Word) → length w < length l → false ≡ begins l w
unfolding begins
begins_short [] w h = absurd (omega arith)
begins_short (a ∷ l) [] h = refl
begins_short (a ∷ l) (b ∷ w) h = go (eqb a b) (begins_short l w (omega arith))
  where
    go : (t : Bool) → false ≡ begins l w → false ≡ t && begins l w
    go true e = e
    go false e = refl

-- nor does a word begin with another first letter
begins_other : (l w : Word) → (length l ≡ 0 → ⊥) → 0 < length w → (get_or l 0 0 ≡ get_or w 0 0 → ⊥) → false ≡ begins l w
unfolding begins
begins_other [] w n h k = absurd (n refl)
begins_other (a ∷ l) [] n h k = refl
begins_other (a ∷ l) (b ∷ w) n h k = rw (ne_eqb a b k)

-- where a word stands, test by test: the empty word, the place, the first letter, the length, all letters
module _ (l w : Word) (p : ℕ) where
  pub stands_empty : length l ≡ 0 → leb p (length w) ≡ stands_at l w p
  unfolding stands_at begins
  stands_empty e = go l e (leb p (length w))
    where
      go : (x : Word) → length x ≡ 0 → (t : Bool) → t ≡ t && begins x (drop p w)
      go [] f true = refl
      go [] f false = refl
      go (a ∷ x) f t = absurd (omega arith)

  module _ (n : length l ≡ 0 → ⊥) where
    pub stands_past : length w ≤ p → false ≡ stands_at l w p
    unfolding stands_at
    stands_past h = go (leb p (length w)) (begins_short l (drop p w) (rw (length-drop p w) (omega arith)))
      where
        go : (t : Bool) → false ≡ begins l (drop p w) → false ≡ t && begins l (drop p w)
        go true e = e
        go false e = refl

    module _ (h : p < length w) where
      pub stands_other : (get_or l 0 0 ≡ get_or w p 0 → ⊥) → false ≡ stands_at l w p
      unfolding stands_at
      stands_other k =
          rw (le-leb p (length w) (omega arith)) (begins_other l (drop p w) n (rw (length-drop p w) (omega arith)) (λ e. k (e ∙ first)))
        where
          first : get_or (drop p w) 0 0 ≡ get_or w p 0
          first = let z : p + 0 ≡ p = omega arith in get_or-drop p w 0 0 ∙ rw z

      pub stands_short : length w - p < length l → false ≡ stands_at l w p
      unfolding stands_at
      stands_short k = rw (le-leb p (length w) (omega arith)) (begins_short l (drop p w) (rw (length-drop p w) k))

      pub stands_is : (r : Bool) → r ≡ begins l (drop p w) → r ≡ stands_at l w p
      unfolding stands_at
      stands_is r e = rw (le-leb p (length w) (omega arith)) e

-- the library's comparison of two words
pub same_is : (u v : Word) (r : Bool) → r ≡ pointwise nat_eq u v → r ≡ same_word u v
unfolding same_word
same_is [] [] r e = e
same_is [] (b ∷ v) r e = e
same_is (a ∷ u) [] r e = e
same_is (a ∷ u) (b ∷ v) r e = e ∙ ap (λ t. eqb a b && t) (same_is u v (pointwise nat_eq u v) refl)

agree_begins : (l m : Word) → length l ≤ length m → begins l m ≡ agree l m
unfolding begins agree
agree_begins [] m h = refl
agree_begins (a ∷ l) [] h = absurd (omega arith)
agree_begins (a ∷ l) (b ∷ m) h = rw (agree_begins l m (omega arith))

-- the test of two letters does not depend on their order
letters_swap : (a b : ℕ) → eqb a b ≡ eqb b a
letters_swap a b = go (eqb b a) refl
  where
    go : (t : Bool) → eqb b a ≡ t → eqb a b ≡ t
    go true e = eq-eqb a b (sym (eqb-true b a e))
    go false e = ne_eqb a b (λ q. eqb-false b a e (sym q))

agree_swap : (l m : Word) → agree l m ≡ agree m l
unfolding agree
agree_swap [] [] = refl
agree_swap [] (b ∷ m) = refl
agree_swap (a ∷ l) [] = refl
agree_swap (a ∷ l) (b ∷ m) = rw (letters_swap a b, agree_swap l m)

module _ (left laid : Word) (k : ℕ) (r : Bool) (h : k ≤ length left) where
  pub agree_inside : length laid ≤ length left - k → r ≡ begins laid (drop k left) → r ≡ agree (drop k left) laid
  agree_inside f e = e ∙ agree_begins laid (drop k left) (rw (length-drop k left) f) ∙ agree_swap laid (drop k left)

  pub agree_outside : length left - k < length laid → r ≡ begins (take (length left - k) (drop k left)) laid → r ≡ agree (drop k left) laid
  agree_outside f e = e ∙ rw (part_to_end left k) (agree_begins (drop k left) laid (rw (length-drop k left) (omega arith)))

-- Parts of a buffer into which s is copied at the place p. A part that ends before p or starts behind the copy is as it was; the part that the
-- copy fills is s. A part of a part is a part.
use Prim.Native.Nat.{ℕ, zero, suc, ◌+◌, ◌-◌, ◌≤◌, ◌<◌}
use mathlib.Core.Path.{◌≡◌, refl, sym, ◌∙◌, ap}
use mathlib.Core.List.{List, [], ◌∷◌, ◌++◌, append_assoc}
use mathlib.Core.Bool.{Bool, true, false}
use native.Mathlib.Omega.{arith}
use lib.Dec.{ltb}
use borrow.Author.Tests.{ltb-true, ltb-false}
use lib.ListN.{length, get_or, take, drop, set, length-drop, length-append}
use lib.Seq.{paste, length-paste, drop-paste, take-take, take-length, drop-drop, take_at, drop_at, length-take-le, get_or-take, get_or-drop}
use Rattle.std.proofs.lemmas.List.Edits.{sets-eq}
use Rattle.buffers.specs.Written.{written}
use Rattle.buffers.proofs.WrittenLaws.{written_parts}
use Rattle.layout.specs.Slices.{part}

-- the first u bytes decide on the parts inside them
part_take : (a n u : ℕ) (s : List ℕ) → a + n ≤ u → part a n (take u s) ≡ part a n s
part_take zero n u s h = take-take n u s (omega arith)
part_take (suc a) n zero s h = absurd (omega arith)
part_take (suc a) n (suc u) [] h = refl
part_take (suc a) n (suc u) (x ∷ s) h = part_take a n u s (omega arith)

pub part_front : (a n u : ℕ) (s t : List ℕ) → a + n ≤ u → take u s ≡ take u t → part a n s ≡ part a n t
part_front a n u s t h e = sym (part_take a n u s h) ∙ ap (λ (l : List ℕ). part a n l) e ∙ part_take a n u t h

pub part_part : (a n b m : ℕ) (s : List ℕ) → a + n ≤ m → part a n (part b m s) ≡ part (b + a) n s
part_part a n b m s h = part_take a n m (drop b s) h ∙ ap (λ (l : List ℕ). take n l) (drop-drop a b s)

pub get_or_part : (b m j : ℕ) (s : List ℕ) → j < m → get_or (part b m s) j 0 ≡ get_or s (b + j) 0
get_or_part b m j s h = get_or-take m (drop b s) j 0 h ∙ get_or-drop b s j 0

pub length_part : (a n : ℕ) (s : List ℕ) → a + n ≤ length s → length (part a n s) ≡ n
length_part a n s h = length-take-le n (drop a s) (rw length-drop (omega arith))

-- what a copy of the k bytes s to the place p leaves and makes
module _ (w v s : List ℕ) (p k : ℕ) (e : v ≡ paste w p s k) (l : length s ≡ k) (h : p + k ≤ length w) where
  pub paste_size : length v ≡ length w
  paste_size = ap length e ∙ length-paste w p s k h (omega arith)

  paste_front : take p v ≡ take p w
  paste_front =
      ap (λ (x : List ℕ). take p x) (e ∙ append_assoc (take p w) (take k s) (drop (p + k) w))
      ∙ take_at (take p w) (take k s ++ drop (p + k) w) p (length-take-le p w (omega arith))

  paste_back : drop (p + k) v ≡ drop (p + k) w
  paste_back = ap (λ (x : List ℕ). drop (p + k) x) e ∙ drop-paste w p s k (omega arith) (omega arith)

  pub part_below : (a n : ℕ) → a + n ≤ p → part a n v ≡ part a n w
  part_below a n g = part_front a n p v w g paste_front

  pub drop_above : (a : ℕ) → p + k ≤ a → drop a v ≡ drop a w
  drop_above a g =
      let q : p + k + (a - (p + k)) ≡ a = omega arith in
      let r : drop (p + k + (a - (p + k))) v ≡ drop (p + k + (a - (p + k))) w =
      sym (drop-drop (a - (p + k)) (p + k) v) ∙ ap (λ (x : List ℕ). drop (a - (p + k)) x) paste_back ∙ drop-drop (a - (p + k)) (p + k) w in
      rw q at r

  pub part_above : (a n : ℕ) → p + k ≤ a → part a n v ≡ part a n w
  part_above a n g = ap (λ (x : List ℕ). take n x) (drop_above a g)

  pub part_own : part p k v ≡ s
  part_own =
      ap (λ (x : List ℕ). part p k x) (e ∙ append_assoc (take p w) (take k s) (drop (p + k) w))
      ∙ ap (λ (x : List ℕ). take k x) (drop_at (take p w) (take k s ++ drop (p + k) w) p (length-take-le p w (omega arith)))
      ∙ take_at (take k s) (drop (p + k) w) k (length-take-le k s (omega arith))
      ∙ (rw (← l) (take-length s))

  -- single bytes of it
  pub get_or_own : (i : ℕ) → i < k → get_or v (p + i) 0 ≡ get_or s i 0
  get_or_own i g = sym (get_or_part p k i v g) ∙ ap (λ (x : List ℕ). get_or x i 0) part_own

  pub get_or_off : (j : ℕ) → (p ≤ j → j < p + k → ⊥) → get_or v j 0 ≡ get_or w j 0
  get_or_off j g = go (ltb j p) refl
    where
      behind : (b : Bool) → ltb j (p + k) ≡ b → p ≤ j → get_or v j 0 ≡ get_or w j 0
      behind true f o = absurd (g o (ltb-true j (p + k) f))
      behind false f o =
          let z : j + 0 ≡ j = omega arith in
          let r : get_or v (j + 0) 0 ≡ get_or w (j + 0) 0 =
          sym (get_or-drop j v 0 0) ∙ ap (λ (x : List ℕ). get_or x 0 0) (drop_above j (ltb-false j (p + k) f)) ∙ get_or-drop j w 0 0 in
          rw z at r

      go : (b : Bool) → ltb j p ≡ b → get_or v j 0 ≡ get_or w j 0
      go true f =
          let l = ltb-true j p f in
          sym (get_or-take p v j 0 l) ∙ ap (λ (x : List ℕ). get_or x j 0) paste_front ∙ get_or-take p w j 0 l
      go false f = behind (ltb j (p + k)) refl (ltb-false j p f)

-- one byte written is one byte copied
pub set_paste : (w : List ℕ) (p x : ℕ) → p < length w → set w p x ≡ paste w p (x ∷ []) 1
set_paste w p x h = sets-eq (x ∷ []) w p (omega arith)

-- two copies, the second directly before the first
pub written_before : (w l r : List ℕ) (p : ℕ) → p + length l + length r ≤ length w → written (written w (p + length l) r) p l ≡ written w p (l ++ r)
written_before w l r p h =
    let x = written w (p + length l) r in
    let front : take p x ≡ take p w = part_below w x r (p + length l) (length r) refl refl h 0 p (omega arith) in
    let q : p + length l + length r ≡ p + length (l ++ r) = rw (length-append l r) (omega arith) in
    let back : drop (p + length l) x ≡ r ++ drop (p + length (l ++ r)) w =
    ap (λ (y : List ℕ). drop (p + length l) y) (written_parts w r (p + length l))
    ∙ drop_at (take (p + length l) w) (r ++ drop (p + length l + length r) w) (p + length l) (length-take-le (p + length l) w (omega arith))
    ∙ rw q in
    written_parts x l p ∙ rw (front, back, ← append_assoc l r (drop (p + length (l ++ r)) w)) (sym (written_parts w (l ++ r) p))

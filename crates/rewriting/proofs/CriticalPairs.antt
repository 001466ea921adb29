-- The critical pair theorem. Where the left words of two lines lie one within the other or overlap, the place of the second in the first is a
-- place of a critical pair; at place 0 the pair may be the one with the lines exchanged, and for one line with itself there is nothing
-- to show. So if the reducts of every critical pair are linked below the peak, any two replacements from a word are joined below it.
use Prim.Native.Nat.{ℕ, suc, ◌≤◌, ◌<◌, Ordering}
use mathlib.Core.Path.{◌≡◌, refl, sym, ◌∙◌, ap, subst₃}
use mathlib.Core.Logic.{◌⊎◌, inl, inr}
use mathlib.Core.Bool.{true}
use mathlib.Core.List.{[], ◌∷◌, ◌++◌, append-nil, append_cancel_left}
use native.Mathlib.Omega.{arith}
use native.Mathlib.Nat.{eq-or-lt_of_le}
use native.Mathlib.Decide.{dec_lt}
use borrow.Author.Tests.{le-leb, lt-ltb}
use lib.ListN.{length, length-append}
use Rattle.words.specs.Word.{Word}
use Rattle.words.specs.Order.{IsOrder}
use Rattle.rewriting.specs.Pairs.{place_counts}
use Rattle.rewriting.specs.Links.{between, Numbered, stop, LinkedBelow, Sinks, Local}
use Rattle.rewriting.specs.RightFor.{PairsMeet}
use Rattle.rewriting.proofs.Chains.{chain_reverse}
use Rattle.words.proofs.OrderLaws.{nil_least}
use Rattle.rewriting.proofs.PairLaws.{pair_is, within_peak, within_first, within_second, within_agree, overlap_peak, overlap_first, overlap_second, overlap_agree}
use Rattle.rewriting.proofs.Overlaps.{local}

-- a place of 1 or more counts, and the place 0 for the lower line
counts_later : (n m k : ℕ) → place_counts n m (suc k) ≡ true
unfolding place_counts
counts_later n m k = rw (le-leb 1 (suc k) (omega arith))

counts_first : (n m : ℕ) → n < m → place_counts n m 0 ≡ true
unfolding place_counts
counts_first n m h = lt-ltb n m h

module _ {cmp : Word → Word → Ordering}
    (o : IsOrder cmp)
    {L : ℕ → Word → Word → Type 0}
    (single : (n : ℕ) (l r m s : Word) → L n l r → L n m s → (l ≡ m) × (r ≡ s))
    (sinks : Sinks cmp (Numbered L))
    (meets : PairsMeet cmp L) where
  left_long : (n : ℕ) (l r : Word) → L n l r → 1 ≤ length l
  left_long n [] r h = absurd (nil_least o r (sinks [] r (n, h)))
  left_long n (a ∷ l) r h = omega arith

  -- the second left word within the first, at a place that counts
  within_counts : (n m : ℕ) (e g r laid s : Word)
      → L n (between e g laid) r
      → L m laid s
      → place_counts n m (length e) ≡ true
      → LinkedBelow cmp (Numbered L) (between e g laid) r (between e g s)
  within_counts n m e g r laid s h k c =
      let long = left_long m laid s k in
      let inside : length e < length (between e g laid) = simp length-append (omega arith) in
      subst₃ (LinkedBelow cmp (Numbered L)) (within_peak e g laid) (within_first e g laid r s) (within_second e g laid r s)
      (meets n m (length e) (between e g laid) r laid s h k (pair_is n m (length e) (between e g laid) laid inside (within_agree e g laid) c))

  -- the two left words overlap in f, at a place that counts
  overlap_counts : (n m : ℕ) (e f g r s : Word)
      → L n (e ++ f) r
      → L m (f ++ g) s
      → (f ≡ [] → ⊥)
      → place_counts n m (length e) ≡ true
      → LinkedBelow cmp (Numbered L) (e ++ f ++ g) (r ++ g) (e ++ s)
  overlap_counts n m e [] g r s h k some c = absurd (some refl)
  overlap_counts n m e (a ∷ f) g r s h k some c =
      let inside : length e < length (e ++ a ∷ f) = simp length-append (omega arith) in
      subst₃ (LinkedBelow cmp (Numbered L)) (overlap_peak e (a ∷ f) g) (overlap_first e (a ∷ f) g r s) (overlap_second e (a ∷ f) g r s)
      (meets n m (length e) (e ++ a ∷ f) r (a ∷ f ++ g) s h k (pair_is n m (length e) (e ++ a ∷ f) (a ∷ f ++ g) inside (overlap_agree e (a ∷ f) g) c))

  -- one line laid on itself at 0
  on_itself : (n : ℕ) (g r m s : Word) → L n (m ++ g) r → L n m s → LinkedBelow cmp (Numbered L) (m ++ g) r (s ++ g)
  on_itself n g r m s h k =
      let same = single n (m ++ g) r m s h k in
      let g≡ : g ≡ [] = append_cancel_left m g [] (same.0 ∙ sym (append-nil m)) in
      let r≡ : s ++ g ≡ r = rw g≡ (append-nil s ∙ sym same.1) in
      rw r≡ (stop (sinks (m ++ g) r (n, h)))

  -- the second left word within the first, at any place
  nested_lines : (n j : ℕ) (e g r m s : Word)
      → L n (between e g m) r
      → L j m s
      → LinkedBelow cmp (Numbered L) (between e g m) r (between e g s)
  nested_lines n j (a ∷ e) g r m s h k = within_counts n j (a ∷ e) g r m s h k (counts_later n j (length e))
  nested_lines n j [] g r m s h k = go (dec_lt n j)
    where
      other : (j ≡ n) ⊎ (j < n) → LinkedBelow cmp (Numbered L) (m ++ g) r (s ++ g)
      other (inl e) = on_itself n g r m s h (rw e at k)
      other (inr b) =
          let long = left_long j m s k in
          let some : m ≡ [] → ⊥ = λ e. let z = ap length e in omega arith in
          chain_reverse (overlap_counts j n [] m g s r k h some (counts_first j n b))

      go : Dec (n < j) → LinkedBelow cmp (Numbered L) (m ++ g) r (s ++ g)
      go (yes b) = within_counts n j [] g r m s h k (counts_first n j b)
      go (no b) = other (eq-or-lt_of_le (omega arith))

  -- the two left words overlap in f, at any place
  overlapping_lines : (n j : ℕ) (e f g r s : Word)
      → L n (e ++ f) r
      → L j (f ++ g) s
      → (f ≡ [] → ⊥)
      → LinkedBelow cmp (Numbered L) (e ++ f ++ g) (r ++ g) (e ++ s)
  overlapping_lines n j (a ∷ e) f g r s h k some = overlap_counts n j (a ∷ e) f g r s h k some (counts_later n j (length e))
  overlapping_lines n j [] f g r s h k some = go (dec_lt n j)
    where
      other : (j ≡ n) ⊎ (j < n) → LinkedBelow cmp (Numbered L) (f ++ g) (r ++ g) s
      other (inl e) = chain_reverse (on_itself j g s f r k (rw (← e) at h))
      other (inr b) = chain_reverse (within_counts j n [] g s f r k h (counts_first j n b))

      go : Dec (n < j) → LinkedBelow cmp (Numbered L) (f ++ g) (r ++ g) s
      go (yes b) = overlap_counts n j [] f g r s h k some (counts_first n j b)
      go (no b) = other (eq-or-lt_of_le (omega arith))

  -- any two replacements from one word are joined below it
  pub pairs_meet : Local cmp (Numbered L)
  pairs_meet =
      local o sinks
      (λ e g l r m s h k p. rw p (nested_lines h.0 k.0 e g r m s (rw p at h.1) k.1))
      (λ e f g l r m s h k some p q. rw p (overlapping_lines h.0 k.0 e f g r s (rw p at h.1) (rw q at k.1) some))

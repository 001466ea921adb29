-- Peak and reducts in plain words. Where the two left words agree, the peak is either of them with what sticks out of the other; so both
-- left words stand in it, at 0 and at the place, and each reduct is one replacement from it.
use Prim.Native.Nat.{ℕ, ◌+◌, ◌-◌, ◌≤◌, ◌<◌}
use mathlib.Core.Path.{◌≡◌, refl, sym, ◌∙◌, ap}
use mathlib.Core.Bool.{true, ◌&&◌, and-eq-true_iff}
use mathlib.Core.List.{[], ◌∷◌, ◌++◌, append-nil, append_assoc}
use native.Mathlib.Omega.{arith}
use native.Mathlib.Decide.{dec_le}
use borrow.Author.Tests.{ltb-true, lt-ltb}
use lib.Dec.{ltb}
use lib.ListN.{length, take, drop, length-append, length-drop, take-append-drop, drop_of_length-le}
use lib.Seq.{drop-nil, drop-drop, take-append-le, drop-append_seam}
use Rattle.words.specs.Word.{Word}
use Rattle.rewriting.specs.Standing.{replace_at}
use Rattle.rewriting.specs.Pairs.{agree, place_counts, is_pair, peak, reducts_of}
use Rattle.rewriting.specs.Links.{Rules, between, Replaces}
use Rattle.rewriting.proofs.Chains.{replaces_there}
use Rattle.rewriting.proofs.LetterTests.{letter_says, letter_is}
use Rattle.rewriting.proofs.StandingLaws.{replaced_between}

-- either of two words that agree, with what sticks out of the other
pub agree_joined : (l m : Word) → agree l m ≡ true → l ++ drop (length l) m ≡ m ++ drop (length m) l
unfolding agree
agree_joined [] m h = rw (drop-nil (length m), append-nil)
agree_joined (a ∷ l) [] h = rw append-nil
agree_joined (a ∷ l) (b ∷ m) h =
    let k = letter_says a b (agree l m) h in
    let f = agree_joined l m k.1 in
    cc

-- a word agrees with what it begins with
pub agree_longer : (m g : Word) → agree (m ++ g) m ≡ true
unfolding agree
agree_longer [] [] = refl
agree_longer [] (b ∷ g) = refl
agree_longer (a ∷ m) g = letter_is a (agree (m ++ g) m) (agree_longer m g)

-- and with what begins with it
pub agree_shorter : (f g : Word) → agree f (f ++ g) ≡ true
unfolding agree
agree_shorter [] g = refl
agree_shorter (a ∷ f) g = letter_is a (agree f (f ++ g)) (agree_shorter f g)

-- what a critical pair is
pub pair_says : (n m k : ℕ) (l laid : Word) → is_pair n m k l laid ≡ true → (k < length l) × (agree (drop k l) laid ≡ true) × (place_counts n m k ≡ true)
unfolding is_pair
pair_says n m k l laid h =
    let a = (and-eq-true_iff (ltb k (length l)) (agree (drop k l) laid && place_counts n m k)).0 h in
    let b = (and-eq-true_iff (agree (drop k l) laid) (place_counts n m k)).0 a.1 in
    (ltb-true k (length l) a.0, b.0, b.1)

pub pair_is : (n m k : ℕ) (l laid : Word) → k < length l → agree (drop k l) laid ≡ true → place_counts n m k ≡ true → is_pair n m k l laid ≡ true
unfolding is_pair
pair_is n m k l laid h a p =
    (and-eq-true_iff (ltb k (length l)) (agree (drop k l) laid && place_counts n m k)).1
    (lt-ltb k (length l) h, (and-eq-true_iff (agree (drop k l) laid) (place_counts n m k)).1 (a, p))

module _ (k : ℕ) (l laid : Word) where
  -- the word laid at k stands in the peak at k
  pub peak_between : k ≤ length l → agree (drop k l) laid ≡ true → peak k l laid ≡ between (take k l) (drop (k + length laid) l) laid
  peak_between h a =
      let joins : drop k l ++ drop (length l - k) laid ≡ laid ++ drop (k + length laid) l =
      ap (λ (j : ℕ). drop k l ++ drop j laid) (sym (length-drop k l)) ∙ agree_joined (drop k l) laid a ∙ rw drop-drop in
      ap (λ (x : Word). x ++ drop (length l - k) laid) (sym (take-append-drop k l))
      ∙ append_assoc (take k l) (drop k l) (drop (length l - k) laid)
      ∙ ap (λ (x : Word). take k l ++ x) joins

  -- behind the word laid at k the peak has what the left word has there
  peak_behind : k ≤ length l → drop (k + length laid) (peak k l laid) ≡ drop (k + length laid) l
  peak_behind h = go (dec_le (k + length laid) (length l))
    where
      go : Dec (k + length laid ≤ length l) → drop (k + length laid) (peak k l laid) ≡ drop (k + length laid) l
      go (yes c) = ap (λ (x : Word). drop (k + length laid) (l ++ x)) (drop_of_length-le laid {i = length l - k} (omega arith)) ∙ rw append-nil
      go (no c) =
          let all : length (peak k l laid) ≤ k + length laid = simp (length-append, length-drop) (omega arith) in
          let left : length l ≤ k + length laid = omega arith in
          drop_of_length-le (peak k l laid) all ∙ sym (drop_of_length-le l left)

  module _ (r s : Word) where
    pub first_reduct_lem : (reducts_of k l r laid s).first ≡ r ++ drop (length l - k) laid
    unfolding reducts_of
    first_reduct_lem = replaced_between [] (drop (length l - k) laid) l r

    pub second_reduct_lem : k ≤ length l → (reducts_of k l r laid s).second ≡ between (take k l) (drop (k + length laid) l) s
    unfolding reducts_of
    second_reduct_lem h = rw (take-append-le k l (drop (length l - k) laid), peak_behind h)

    -- each reduct is one replacement from the peak
    pub first_replaces : {R : Rules} → R l r → Replaces R (peak k l laid) (reducts_of k l r laid s).first
    first_replaces h = rw first_reduct_lem (replaces_there [] (drop (length l - k) laid) l r h)

    pub second_replaces : {R : Rules} → k ≤ length l → agree (drop k l) laid ≡ true → R laid s → Replaces R (peak k l laid) (reducts_of k l r laid s).second
    second_replaces h a g = rw (peak_between h a, second_reduct_lem h) (replaces_there (take k l) (drop (k + length laid) l) laid s g)

-- the word laid lies within the left word: nothing sticks out
module _ (e g m : Word) where
  nothing_out : drop (length (between e g m) - length e) m ≡ []
  nothing_out = drop_of_length-le m {i = length (between e g m) - length e} (simp length-append (omega arith))

  pub within_peak : peak (length e) (between e g m) m ≡ between e g m
  within_peak = rw (nothing_out, append-nil)

  pub within_first : (r s : Word) → (reducts_of (length e) (between e g m) r m s).first ≡ r
  within_first r s = first_reduct_lem (length e) (between e g m) m r s ∙ rw (nothing_out, append-nil)

  pub within_second : (r s : Word) → (reducts_of (length e) (between e g m) r m s).second ≡ between e g s
  unfolding reducts_of
  within_second r s = ap (λ (p : Word). replace_at p (length e) (length m) s) within_peak ∙ replaced_between e g m s

  pub within_agree : agree (drop (length e) (between e g m)) m ≡ true
  within_agree = rw (drop-append_seam e (m ++ g)) (agree_longer m g)

-- the left word e f and the word f g laid at the end of e: g sticks out
module _ (e f g : Word) where
  out_behind : drop (length (e ++ f) - length e) (f ++ g) ≡ g
  out_behind =
      let cut : length (e ++ f) - length e ≡ length f = simp length-append (omega arith) in
      rw cut (drop-append_seam f g)

  pub overlap_peak : peak (length e) (e ++ f) (f ++ g) ≡ e ++ f ++ g
  overlap_peak = rw out_behind

  pub overlap_first : (r s : Word) → (reducts_of (length e) (e ++ f) r (f ++ g) s).first ≡ r ++ g
  overlap_first r s = first_reduct_lem (length e) (e ++ f) (f ++ g) r s ∙ rw out_behind

  pub overlap_second : (r s : Word) → (reducts_of (length e) (e ++ f) r (f ++ g) s).second ≡ e ++ s
  unfolding reducts_of
  overlap_second r s =
      let there : peak (length e) (e ++ f) (f ++ g) ≡ between e [] (f ++ g) = overlap_peak ∙ simp (append_assoc, append-nil) in
      ap (λ (p : Word). replace_at p (length e) (length (f ++ g)) s) there ∙ replaced_between e [] (f ++ g) s ∙ rw append-nil

  pub overlap_agree : agree (drop (length e) (e ++ f)) (f ++ g) ≡ true
  overlap_agree = rw (drop-append_seam e f) (agree_shorter f g)

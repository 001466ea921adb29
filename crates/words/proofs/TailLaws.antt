-- The function that compares by first letters and tails: what it finds at each of its answers is one of the rules of the first letters.
use Prim.Native.Nat.{ℕ, suc, ◌-◌, ◌≤◌, ◌<◌}
use mathlib.Core.Path.{◌≡◌, sym, ◌∙◌}
use mathlib.Core.Bool.{Bool, true, false}
use mathlib.Core.Logic.{◌⊎◌, ⊎_elim}
use Rattle.std.specs.Prelude.{◌==◌}
use Rattle.std.specs.Ordering.{nat_cmp, ordering_then}
use Rattle.std.specs.declared.cmp.Ordering.{Ordering as Compared}
use Rattle.std.specs.declared.cmp.Ordering.TheVariants.{Less, Greater}
use Rattle.words.specs.Answer.{ordering_of}
use Rattle.words.proofs.LoopLaws.{number_compared, then_compared}
use mathlib.Core.List.{[], ◌∷◌}
use native.Mathlib.Omega.{arith}
use Rattle.std.proofs.lemmas.Bool.Decides.{nat_tests}
use lib.ListN.{length, get_or, take, drop}
use borrow.Author.Rules.{part_to_end}
use Rattle.words.specs.Word.{Word}
use Rattle.words.specs.Kachinuki.{kachinuki}
use Rattle.words.proofs.CompareLaws.{self_eq, compare_lt, compare_gt}
use Rattle.words.proofs.KachinukiLaws.{kachinuki_orders, nil_below, above_nil, equal_letters, greater_letter, smaller_letter}

-- where a word is empty the lengths decide
pub one_empty : (a b : Word) (o : Compared) → o ≡ nat_cmp (length a) (length b) → (length a ≡ 0) ⊎ (length b ≡ 0) → ordering_of o ≡ kachinuki a b
one_empty [] [] o e h = rw e (sym (self_eq kachinuki_orders []))
one_empty [] (r ∷ u) o e h = rw e (number_compared 0 (suc (length u)) ∙ compare_lt 0 (suc (length u)) (omega arith) ∙ sym (nil_below r u))
one_empty (s ∷ t) [] o e h = rw e (number_compared (suc (length t)) 0 ∙ compare_gt (suc (length t)) 0 (omega arith) ∙ sym (above_nil s t))
one_empty (s ∷ t) (r ∷ u) o e h = absurd (⊎_elim (λ z. omega (arith, z)) (λ z. omega (arith, z)) h)

-- a word that is tried for being empty
pub is_empty : (w : Word) (t : Bool) → t ≡ (length w == 0) → t ≡ true → length w ≡ 0
is_empty w t e h = grind (arith, nat_tests, e, h)

pub not_empty : (w : Word) (t : Bool) → t ≡ (length w == 0) → t ≡ false → length w ≡ 0 → ⊥
not_empty w t e h z = grind (arith, nat_tests, e, h, z)

-- the tail of a word, as a part from its second letter to its end
abbrev pub tail : Word → Word
tail a = take (length a - 1) (drop 1 a)

tail_cons : (s : ℕ) (t : Word) → tail (s ∷ t) ≡ t
tail_cons s t = part_to_end (s ∷ t) 1

-- the first letters decide which tail is compared: both are letters
pub letters_equal : (a b : Word) (o : Compared) (x y : Bool) → x ≡ (length a == 0) → x ≡ false → y ≡ (length b == 0) → y ≡ false
    → get_or a 0 0 ≡ get_or b 0 0 → ordering_of o ≡ kachinuki (tail a) (tail b) → ordering_of o ≡ kachinuki a b
letters_equal [] b o x y e f g h l m = let z : ◌≡◌ {A = ℕ} 0 1 = cc in absurd (omega arith)
letters_equal (s ∷ t) [] o x y e f g h l m = let z : ◌≡◌ {A = ℕ} 0 1 = cc in absurd (omega arith)
letters_equal (s ∷ t) (r ∷ u) o x y e f g h l m = m ∙ rw (tail_cons s t, tail_cons r u) (sym (rw l (equal_letters r t u)))

pub letter_smaller : (a b : Word) (o q : Compared) (x y : Bool) → x ≡ (length a == 0) → x ≡ false → y ≡ (length b == 0) → y ≡ false
    → get_or a 0 0 < get_or b 0 0 → ordering_of q ≡ kachinuki (tail a) b → o ≡ ordering_then q Greater → ordering_of o ≡ kachinuki a b
letter_smaller [] b o q x y e f g h l m n = let z : ◌≡◌ {A = ℕ} 0 1 = cc in absurd (omega arith)
letter_smaller (s ∷ t) [] o q x y e f g h l m n = let z : ◌≡◌ {A = ℕ} 0 1 = cc in absurd (omega arith)
letter_smaller (s ∷ t) (r ∷ u) o q x y e f g h l m n = rw n (then_compared q Greater ∙ rw (m, tail_cons s t) (sym (smaller_letter s r t u l)))

pub letter_greater : (a b : Word) (o q : Compared) (x y : Bool) → x ≡ (length a == 0) → x ≡ false → y ≡ (length b == 0) → y ≡ false
    → (get_or a 0 0 ≡ get_or b 0 0 → ⊥) → get_or b 0 0 ≤ get_or a 0 0 → ordering_of q ≡ kachinuki a (tail b) → o ≡ ordering_then q Less → ordering_of o ≡ kachinuki a b
letter_greater [] b o q x y e f g h k l m n = let z : ◌≡◌ {A = ℕ} 0 1 = cc in absurd (omega arith)
letter_greater (s ∷ t) [] o q x y e f g h k l m n = let z : ◌≡◌ {A = ℕ} 0 1 = cc in absurd (omega arith)
letter_greater (s ∷ t) (r ∷ u) o q x y e f g h k l m n =
    let p : r < s = omega (arith, k, l) in
    rw n (then_compared q Less ∙ rw (m, tail_cons r u) (sym (greater_letter s r t u p)))

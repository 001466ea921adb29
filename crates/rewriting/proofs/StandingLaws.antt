-- Standing and replacing in plain words. A word begins with l exactly if it is l with something behind it, so l stands at p exactly if the
-- word is l between its first p letters and a rest; replacing there keeps what is before and behind.
use Prim.Native.Nat.{ℕ, ◌+◌, ◌≤◌}
use mathlib.Core.Path.{◌≡◌, refl, sym, ◌∙◌, ap}
use mathlib.Core.Bool.{true, and-eq-true_iff}
use mathlib.Core.List.{[], ◌∷◌, ◌++◌}
use native.Mathlib.Omega.{arith}
use borrow.Author.Tests.{leb-true, le-leb}
use lib.Dec.{leb}
use lib.ListN.{length, take, drop, length-append, length-drop, take-append-drop}
use lib.Seq.{take-append_seam, drop-append_seam, drop-append-add, drop-drop}
use Rattle.words.specs.Word.{Word}
use Rattle.rewriting.specs.Standing.{begins, stands_at, replace_at}
use Rattle.rewriting.specs.Links.{Rules, between, Replaces}
use Rattle.rewriting.proofs.LetterTests.{letter_says, letter_is}

pub begins_split : (l w : Word) → begins l w ≡ true → w ≡ l ++ drop (length l) w
unfolding begins
begins_split [] w h = refl
begins_split (a ∷ l) [] h = cc
begins_split (a ∷ l) (b ∷ w) h =
    let k = letter_says a b (begins l w) h in
    let f = begins_split l w k.1 in
    cc

pub begins_append : (l y : Word) → begins l (l ++ y) ≡ true
unfolding begins
begins_append [] y = refl
begins_append (a ∷ l) y = letter_is a (begins l (l ++ y)) (begins_append l y)

-- where l stands at p, the word is l between what is before p and what is behind
pub stands_between : (l w : Word) (p : ℕ) → stands_at l w p ≡ true → w ≡ between (take p w) (drop (p + length l) w) l
unfolding stands_at
stands_between l w p h =
    let k = (and-eq-true_iff (leb p (length w)) (begins l (drop p w))).0 h in
    sym (take-append-drop p w) ∙ ap (λ (x : Word). take p w ++ x) (begins_split l (drop p w) k.1 ∙ ap (λ (x : Word). l ++ x) (drop-drop (length l) p w))

pub stands_fits : (l w : Word) (p : ℕ) → stands_at l w p ≡ true → p + length l ≤ length w
unfolding stands_at
stands_fits l w p h =
    let k = (and-eq-true_iff (leb p (length w)) (begins l (drop p w))).0 h in
    let f = leb-true p (length w) k.0 in
    omega (arith, simp (length-append, length-drop) at (ap length (begins_split l (drop p w) k.1)))

-- and so it stands there
pub between_stands : (x y l : Word) → stands_at l (between x y l) (length x) ≡ true
unfolding stands_at
between_stands x y l =
    (and-eq-true_iff (leb (length x) (length (between x y l))) (begins l (drop (length x) (between x y l)))).1
    (le-leb (length x) (length (between x y l)) (simp length-append (omega arith)), rw (drop-append_seam x (l ++ y)) (begins_append l y))

-- replacing keeps what is before and behind
pub replaced_between : (x y l r : Word) → replace_at (between x y l) (length x) (length l) r ≡ between x y r
replaced_between x y l r = rw (take-append_seam x (l ++ y), drop-append-add x (l ++ y) (length l), drop-append_seam l y)

-- replacing a left word where it stands is a replacement
pub stands_replaces : {R : Rules} (l r w : Word) (p : ℕ) → R l r → stands_at l w p ≡ true → Replaces R w (replace_at w p (length l) r)
stands_replaces l r w p h s = record {
  before = take p w;
  behind = drop (p + length l) w;
  left = l;
  right = r;
  rule = h;
  start = stands_between l w p s;
  end = refl;
}

-- Pieces written one behind the other. What has been written from a place on, and then a piece directly behind it, is both written from that place on;
-- and it is the same whether the first piece is still to come or has been put.
use Prim.Native.Nat.{ℕ, ◌+◌, ◌≤◌}
use mathlib.Core.Path.{◌≡◌, refl, sym, ◌∙◌, ap}
use mathlib.Core.List.{List, [], ◌++◌, append_assoc}
use native.Mathlib.Omega.{arith}
use lib.ListN.{length, take, drop, length-append, length-drop, take-append-drop}
use lib.Seq.{paste, take-length, length-take-le, take_at, drop-append-add, drop-drop, take-append_seam}
use Rattle.buffers.specs.Written.{written}

-- a copy of a whole piece, by its length
pub paste_written : (d x : List ℕ) (at n : ℕ) → length x ≡ n → paste d at x n ≡ written d at x
paste_written d x at n e = rw e

-- what was written, in three parts
pub written_parts : (d x : List ℕ) (at : ℕ) → written d at x ≡ take at d ++ (x ++ drop (at + length x) d)
written_parts d x at = rw (take-length x) (append_assoc (take at d) x (drop (at + length x) d))

pub written_nothing : (b : List ℕ) (at : ℕ) → written b at [] ≡ b
written_nothing b at = let z : at + 0 ≡ at = omega arith in written_parts b [] at ∙ rw z (take-append-drop at b)

-- at the start of a buffer
written_start : (d x : List ℕ) → written d 0 x ≡ x ++ drop (length x) d
written_start d x = let z : 0 + length x ≡ length x = omega arith in written_parts d x 0 ∙ rw z

-- the first piece is put, and the others follow behind it
pub written_behind : (d b x y : List ℕ) (at n : ℕ) → length x ≡ n → at + n ≤ length d → b ≡ paste d at x n → written d at (x ++ y) ≡ written b (at + n) y
written_behind d b x y at n l h e =
    let t : take n x ≡ x = ap (λ (k : ℕ). take k x) (sym l) ∙ take-length x in
    let f : length (take at d ++ x) ≡ at + n = rw (length-append (take at d) x, length-take-le at d (omega arith), l) in
    let p : b ≡ take at d ++ x ++ drop (at + n) d = e ∙ rw t in
    let z : length (x ++ y) ≡ n + length y = rw (length-append x y, l) in
    let q : at + (n + length y) ≡ at + n + length y = omega arith in
    let r : drop (at + n + length y) (take at d ++ x ++ drop (at + n) d) ≡ drop (at + n + length y) d =
    ap (λ (k : ℕ). drop (k + length y) (take at d ++ x ++ drop (at + n) d)) (sym f) ∙ drop-append-add (take at d ++ x) (drop (at + n) d) (length y)
    ∙ drop-drop (length y) (at + n) d in
    written_parts d (x ++ y) at
    ∙ rw (z, q) (sym (written_parts b y (at + n) ∙ rw (p, take_at (take at d ++ x) (drop (at + n) d) (at + n) f, r) (simp append_assoc)))

pub written_two : (d x y : List ℕ) (at n : ℕ) → length x ≡ n → at + n ≤ length d → written (written d at x) (at + n) y ≡ written d at (x ++ y)
written_two d x y at n e h = sym (written_behind d (written d at x) x y at n e h (sym (paste_written d x at n e)))

pub written_none : (d : List ℕ) → d ≡ written d 0 []
written_none d = sym (written_nothing d 0)

pub written_more : (d b c x s : List ℕ) (at : ℕ) → b ≡ written d 0 x → length x ≡ at → c ≡ written b at s → c ≡ written d 0 (x ++ s)
written_more d b c x s at w e p =
    let u : b ≡ x ++ drop (length x) d = w ∙ written_start d x in
    let front : take at b ≡ x = rw u (take_at x (drop (length x) d) at e) in
    let behind : drop (at + length s) b ≡ drop (length (x ++ s)) d =
    rw (u, ← e, drop-append-add x (drop (length x) d) (length s), drop-drop (length s) (length x) d, length-append x s) refl in
    p ∙ written_parts b s at ∙ rw (front, behind) (sym (written_start d (x ++ s) ∙ append_assoc x s (drop (length (x ++ s)) d)))

module _ (d b x : List ℕ) (w : b ≡ written d 0 x) where
  -- what is read at the start again
  pub written_front : (n : ℕ) → n ≡ length x → take n b ≡ x
  written_front n e = rw (w ∙ written_start d x, e) (take-append_seam x (drop (length x) d))

  pub written_long : length x ≤ length d → length b ≡ length d
  written_long h = rw (w ∙ written_start d x) (simp (length-append, length-drop) (omega arith))

-- a word copied to the start of a buffer is read there
pub put_front : (b c s : List ℕ) → c ≡ written b 0 s → take (length s) c ≡ s
put_front b c s p = written_front b c s p (length s) refl

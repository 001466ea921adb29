-- A word with a part replaced has three pieces: what is before the part, the new part, what is behind it.
use Prim.Native.Nat.{ℕ, ◌+◌, ◌-◌, ◌≤◌, ◌<◌}
use mathlib.Core.Path.{◌≡◌, refl, sym, ◌∙◌, ap}
use mathlib.Core.List.{List, [], ◌++◌, append_assoc}
use native.Mathlib.Omega.{arith}
use borrow.Author.Rules.{part_to_end}
use lib.ListN.{length, take, drop, length-append, length-drop, take-append-drop, drop_of_length-le}
use lib.Seq.{paste, take-length, length-take-le, take_at, take-append-le, drop-append-le}
use Rattle.rewriting.specs.Standing.{replace_at}
use Rattle.rewriting.specs.Made.{Made}
use Rattle.buffers.specs.Written.{written}
use Rattle.buffers.proofs.WrittenLaws.{written_more}

-- three pieces, one behind the other
pub joined : (a b c d x y z : List ℕ) → length a + (length b + length c) ≤ length d → x ≡ paste d 0 a (length a)
    → y ≡ paste x (length a) b (length b) → z ≡ paste y (length a + length b) c (length c)
    → Made (a ++ (b ++ c)) d z (length a + length b + length c)
joined a b c d x y z h f g k =
    let second : y ≡ written d 0 (a ++ b) = written_more d x y a b (length a) f refl g in
    record {
      long = simp length-append (omega arith);
      fits = omega arith;
      written =
          written_more d y z (a ++ b) c (length a + length b) second (length-append a b) k
          ∙ ap (λ (w : List ℕ). written d 0 w) (append_assoc a b c);
    }

-- a word with a part replaced: what is before, the new part, what is behind
module _ (w r d : List ℕ) (p n : ℕ) (h : p + n ≤ length w) where
  pub front_counted : p ≡ length (take p w)
  front_counted = sym (length-take-le p w (omega arith))

  pub pieces_fit : length w + length r ≤ length d + n
      → length (take p w) + (length r + length (take (length w - (p + n)) (drop (p + n) w))) ≤ length d
  pieces_fit f = rw part_to_end (simp length-drop (omega (arith, front_counted)))

  pub pieces_made : (b : List ℕ) (m : ℕ) → Made (take p w ++ (r ++ take (length w - (p + n)) (drop (p + n) w))) d b m → Made (replace_at w p n r) d b m
  pieces_made b m e = rw part_to_end at e

  pub replaced_long : p + length r + (length w - (p + n)) ≡ length (replace_at w p n r)
  replaced_long = simp (length-append, length-drop) (omega (arith, front_counted))

-- a word of len letters at the start of a buffer of 128 bytes
pub prefix_counted : (b : List ℕ) (len : ℕ) → length b ≡ 128 → len ≤ 128 → len ≡ length (take len b)
prefix_counted b len e h = sym (length-take-le len b (omega arith))

module _ (b r : List ℕ) (len p n : ℕ) (e : length b ≡ 128) (h : len ≤ 128) (f : p + n ≤ len) where
  pub prefix_part : p + n ≤ length (take len b)
  prefix_part = omega (arith, prefix_counted b len e h)

-- a part written over by one of its own length
module _ (b r : List ℕ) (len p n : ℕ) (e : length b ≡ 128) (h : len ≤ 128) (f : p + n ≤ len) (l : length r ≡ n) where
  pub over_part : len ≡ length (replace_at (take len b) p n r)
  over_part = omega (arith, l, prefix_counted b len e h, replaced_long (take len b) r b p n (prefix_part b r len p n e h f))

  pub put_over : (c : List ℕ) → c ≡ paste b p r (length r) → take len c ≡ replace_at (take len b) p n r
  put_over c k =
      let w = take len b in
      let z = drop len b in
      let q = prefix_counted b len e h in
      let whole : w ++ z ≡ b = take-append-drop len b in
      let front : take p (w ++ z) ≡ take p w = take-append-le p w z (omega (arith, q)) in
      let rest : drop (p + n) (w ++ z) ≡ drop (p + n) w ++ z = drop-append-le (p + n) w z (omega (arith, q)) in
      let all : paste (w ++ z) p r (length r) ≡ replace_at w p n r ++ z =
      rw (front, take-length r, l, rest, append_assoc (take p w) (r ++ drop (p + n) w) z, append_assoc r (drop (p + n) w) z)
      (append_assoc (take p w) r (drop (p + n) w ++ z)) in
      ap (take len) (k ∙ ap (λ (x : List ℕ). paste x p r (length r)) (sym whole) ∙ all) ∙ take_at (replace_at w p n r) z len (sym over_part)

-- it has at most the letters of both words
pub replaced_short : (w r : List ℕ) (p n : ℕ) → p ≤ length w → length (replace_at w p n r) ≤ length w + length r
replaced_short w r p n h = simp (length-append, length-drop) (omega (arith, length-take-le p w h))

-- where the part to replace passes the word's end, all that is there is replaced
over_end : (w r : List ℕ) (p n : ℕ) → p ≤ length w → length w - p < n → replace_at w p (length w - p) r ≡ replace_at w p n r
over_end w r p n h f =
    let all : drop (p + (length w - p)) w ≡ [] = drop_of_length-le w {i = p + (length w - p)} (omega arith) in
    let past : drop (p + n) w ≡ [] = drop_of_length-le w {i = p + n} (omega arith) in
    rw (all, past)

pub over_made : (w r d b : List ℕ) (p n m : ℕ) → p ≤ length w → length w - p < n → Made (replace_at w p (length w - p) r) d b m → Made (replace_at w p n r) d b m
over_made w r d b p n m h f e = rw (over_end w r p n h f) at e

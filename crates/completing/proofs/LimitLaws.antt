-- The limits of a table, part by part. Words joined, cut and replaced keep to the letters; steps joined and turned round keep to their bound; a
-- line that is deleted keeps what the limits ask about, and one that joins has a bound of its own.
use Prim.Native.Nat.{ℕ, zero, suc, ◌+◌, ◌≤◌}
use mathlib.Core.Path.{◌≡◌, refl}
use mathlib.Core.List.{List, [], ◌∷◌, ◌++◌, append_assoc}
use mathlib.Core.Bool.{Bool, true, ◌&&◌}
use native.Mathlib.Omega.{arith}
use borrow.Author.Tests.{leb-true, le-leb}
use lib.Dec.{leb, ltb}
use lib.ListN.{length, take, drop, set, take-append-drop, length-append, length-take, length-drop}
use Rattle.words.specs.Word.{Word, letters_below}
use Rattle.words.proofs.TestLaws.{and_left, and_right}
use Rattle.rewriting.specs.Standing.{replace_at}
use Rattle.rewriting.specs.Sheet.{side_limit, Equation, equation_at, Step, Line, line_at}
use Rattle.writing.specs.Writing.{equation_words, line_words, steps_made}
use Rattle.packing.specs.Limits.{equations_within, steps_within, lines_within}
use Rattle.workspace.specs.Waiting.{fallen}
use Rattle.lineage.specs.Lineage.{turned, backwards, lineage}
use Rattle.lineage.proofs.NotingLaws.{backwards_next}

-- a word of at most k letters, each below n
pub record Plain (n k : ℕ) (w : Word) : Type 0 where
  pub short : length w ≤ k
  pub letters : letters_below n w ≡ true

module _ (n : ℕ) where
  pub letters_joined : (u v : Word) → letters_below n u ≡ true → letters_below n v ≡ true → letters_below n (u ++ v) ≡ true
  unfolding letters_below
  letters_joined [] v e f = f
  letters_joined (a ∷ u) v e f =
      rw (and_left (ltb a n) (letters_below n u) e) (letters_joined u v (and_right (ltb a n) (letters_below n u) e) f)

  letters_parted : (u v : Word) → letters_below n (u ++ v) ≡ true → (letters_below n u ≡ true) × (letters_below n v ≡ true)
  unfolding letters_below
  letters_parted [] v e = (refl, e)
  letters_parted (a ∷ u) v e =
      let h = letters_parted u v (and_right (ltb a n) (letters_below n (u ++ v)) e) in
      (rw (and_left (ltb a n) (letters_below n (u ++ v)) e) h.0, h.1)

  letters_cut : (p : ℕ) (w : Word) → letters_below n w ≡ true → (letters_below n (take p w) ≡ true) × (letters_below n (drop p w) ≡ true)
  letters_cut p w e = letters_parted (take p w) (drop p w) (rw (take-append-drop p w) e)

  pub plain_longer : {a : ℕ} (b : ℕ) {w : Word} → a ≤ b → Plain n a w → Plain n b w
  plain_longer b h x = record { short = omega (arith, x.short); letters = x.letters }

  -- a word with what sticks out of another, and a word with a part replaced
  pub plain_behind : {a b : ℕ} (p : ℕ) {u v : Word} → Plain n a u → Plain n b v → Plain n (a + b) (u ++ drop p v)
  plain_behind p {u} {v} x y = record {
    short = simp (length-append, length-drop) (omega (arith, x.short, y.short));
    letters = letters_joined u (drop p v) x.letters (letters_cut p v y.letters).1;
  }

  pub plain_replaced : {a b : ℕ} (p k : ℕ) {w r : Word} → Plain n a w → Plain n b r → Plain n (a + b) (replace_at w p k r)
  plain_replaced p k {w} {r} x y = record {
    short = simp (length-append, length-drop, length-take) (omega (arith, x.short, y.short));
    letters = letters_joined (take p w) (r ++ drop (p + k) w) (letters_cut p w x.letters).0
        (letters_joined r (drop (p + k) w) y.letters (letters_cut (p + k) w x.letters).1);
  }

  -- the sides of the first of several pairs, and what is left
  first_sides : (l r w : Word) (b : Bool) → leb (length l) side_limit && (leb (length r) side_limit && b) ≡ true → letters_below n (l ++ (r ++ w)) ≡ true
      → Plain n side_limit l × Plain n side_limit r × (b ≡ true) × (letters_below n w ≡ true)
  first_sides l r w b e f =
      let h = and_right (leb (length l) side_limit) (leb (length r) side_limit && b) e in
      let p = letters_parted l (r ++ w) f in
      let q = letters_parted r w p.1 in (
        record { short = leb-true (length l) side_limit (and_left (leb (length l) side_limit) (leb (length r) side_limit && b) e); letters = p.0 },
        record { short = leb-true (length r) side_limit (and_left (leb (length r) side_limit) b h); letters = q.0 },
        and_right (leb (length r) side_limit) b h,
        q.1,
      )

  no_letters : Plain n side_limit []
  unfolding letters_below
  no_letters = record { short = omega arith; letters = refl }

  -- the sides of each equation, and of each line
  pub equation_sides : (es : List Equation) → equations_within es ≡ true → letters_below n (equation_words es) ≡ true → (k : ℕ)
      → Plain n side_limit (equation_at es k).left × Plain n side_limit (equation_at es k).right
  unfolding equations_within equation_words
  equation_sides [] e f k = (no_letters, no_letters)
  equation_sides (x ∷ es) e f zero = let h = first_sides x.left x.right (equation_words es) (equations_within es) e f in (h.0, h.1)
  equation_sides (x ∷ es) e f (suc k) =
      let h = first_sides x.left x.right (equation_words es) (equations_within es) e f in equation_sides es h.2 h.3 k

  pub line_sides_lem : (bound : ℕ) (ts : List Line) → lines_within bound ts ≡ true → letters_below n (line_words ts) ≡ true → (j : ℕ)
      → Plain n side_limit (line_at ts j).left × Plain n side_limit (line_at ts j).right
  unfolding lines_within line_words
  line_sides_lem bound [] e f j = (no_letters, no_letters)
  line_sides_lem bound (t ∷ ts) e f zero =
      let h = first_sides t.left t.right (line_words ts) (steps_within bound t.steps && lines_within (bound + 1) ts) e f in (h.0, h.1)
  line_sides_lem bound (t ∷ ts) e f (suc j) =
      let h = first_sides t.left t.right (line_words ts) (steps_within bound t.steps && lines_within (bound + 1) ts) e f in
      line_sides_lem (bound + 1) ts (and_right (steps_within bound t.steps) (lines_within (bound + 1) ts) h.2) h.3 j

module _ (bound : ℕ) where
  steps_joined : (ss rs : List Step) → steps_within bound ss ≡ true → steps_within bound rs ≡ true → steps_within bound (ss ++ rs) ≡ true
  unfolding steps_within
  steps_joined [] rs e f = f
  steps_joined (s ∷ ss) rs e f =
      let a = ltb s.reference bound in
      let b = leb s.place 128 in
      let h = and_right a (b && steps_within bound ss) e in
      rw (and_left a (b && steps_within bound ss) e, and_left b (steps_within bound ss) h) (steps_joined ss rs (and_right b (steps_within bound ss) h) f)

  pub steps_turned : (ss : List Step) → steps_within bound ss ≡ true → steps_within bound (backwards ss) ≡ true
  unfolding steps_within
  steps_turned [] e = unfold backwards in refl
  steps_turned (s ∷ ss) e =
      let a = ltb s.reference bound in
      let b = leb s.place 128 in
      let h = and_right a (b && steps_within bound ss) e in
      rw (backwards_next s ss) (steps_joined (backwards ss) (turned s ∷ []) (steps_turned ss (and_right b (steps_within bound ss) h))
      (rw (and_left a (b && steps_within bound ss) e, and_left b (steps_within bound ss) h)))

  pub lineage_within : (one middle other : List Step) → steps_within bound one ≡ true → steps_within bound middle ≡ true → steps_within bound other ≡ true
      → steps_within bound (lineage one middle other) ≡ true
  lineage_within one middle other e f g = steps_joined (backwards one) (middle ++ other) (steps_turned one e) (steps_joined middle other f g)

-- a line deleted
pub lines_struck : (bound : ℕ) (ts : List Line) (j : ℕ) → lines_within bound (set ts j (fallen (line_at ts j))) ≡ lines_within bound ts
unfolding lines_within
lines_struck bound [] j = refl
lines_struck bound (t ∷ ts) zero = refl
lines_struck bound (t ∷ ts) (suc j) = rw (lines_struck (bound + 1) ts j)

pub words_struck : (ts : List Line) (j : ℕ) → line_words (set ts j (fallen (line_at ts j))) ≡ line_words ts
unfolding line_words
words_struck [] j = refl
words_struck (t ∷ ts) zero = refl
words_struck (t ∷ ts) (suc j) = rw (words_struck ts j)

pub steps_struck : (ts : List Line) (j : ℕ) → steps_made (set ts j (fallen (line_at ts j))) ≡ steps_made ts
unfolding steps_made
steps_struck [] j = refl
steps_struck (t ∷ ts) zero = refl
steps_struck (t ∷ ts) (suc j) = rw (steps_struck ts j)

-- a line that joins
module _ (t : Line) where
  pub lines_more : (bound k : ℕ) (ts : List Line) → bound + length ts ≡ k → lines_within bound ts ≡ true → length t.left ≤ side_limit → length t.right ≤ side_limit
      → steps_within k t.steps ≡ true → lines_within bound (ts ++ (t ∷ [])) ≡ true
  unfolding lines_within
  lines_more bound k [] q e l r h =
      let z : k ≡ bound = omega arith in
      rw (le-leb (length t.left) side_limit l, le-leb (length t.right) side_limit r, rw z at h)
  lines_more bound k (u ∷ ts) q e l r h =
      let a = leb (length u.left) side_limit in
      let b = leb (length u.right) side_limit in
      let c = steps_within bound u.steps in
      let d = lines_within (bound + 1) ts in
      let f = and_right a (b && (c && d)) e in
      let g = and_right b (c && d) f in
      rw (and_left a (b && (c && d)) e, and_left b (c && d) f, and_left c d g) (lines_more (bound + 1) k ts (omega arith) (and_right c d g) l r h)

  pub words_more : (ts : List Line) → line_words (ts ++ (t ∷ [])) ≡ line_words ts ++ (t.left ++ (t.right ++ []))
  unfolding line_words
  words_more [] = refl
  words_more (u ∷ ts) = rw (words_more ts) (simp append_assoc)

  pub steps_more : (ts : List Line) → steps_made (ts ++ (t ∷ [])) ≡ steps_made ts + length t.steps
  unfolding steps_made
  steps_more [] = omega arith
  steps_more (u ∷ ts) = let h = steps_more ts in omega (arith, h)

-- Lines and equations in slices. Where the first n records lie inside, each of them is placed, so that its sides can be read. The rules of the
-- slices are the rules of the lines that they stand for, as both go through the same records in rising order.
use Prim.Native.Nat.{ℕ, zero, suc, ◌+◌, ◌*◌, ◌-◌, ◌≤◌, ◌<◌}
use mathlib.Core.Path.{◌≡◌, refl, ◌∙◌, ap}
use mathlib.Core.List.{List}
use native.Mathlib.Nat.{min-le_left, le_trans}
use native.Mathlib.Omega.{arith}
use lib.ListN.{length, get_or, take, drop, length-take, get_or-eq_default}
use Rattle.rewriting.specs.Sheet.{side_limit, no_line, line_at, no_equation, equation_at, rules_from, rules_of}
use Rattle.buffers.specs.Bytes.{u16_at}
use Rattle.layout.specs.Header.{table_width}
use Rattle.layout.specs.Sheets.{sides_width}
use Rattle.layout.specs.Slices.{left_at, right_at, Placed, Inside, line_in, list_from, lines_in, rules_in, equation_in, equations_in}

-- each of the records that lie inside is placed
pub placed : (width : ℕ) (recs words : List ℕ) (n j : ℕ) → Inside width recs words n → j < n → Placed width recs words (width * j)
unfolding Inside
placed width recs words n j i h = i j h

-- its sides can be read, and its bytes are there
pub record_there : (width : ℕ) (recs words : List ℕ) (n j : ℕ) → Inside width recs words n → j < n → width * j + width ≤ length recs
record_there width recs words n j i h = (placed width recs words n j i h).there

pub sides_placed : (width : ℕ) (recs words : List ℕ) (n j : ℕ) → Inside width recs words n → j < n → sides_width ≤ width
    → Placed sides_width recs words (width * j)
sides_placed width recs words n j i h k =
    let p = placed width recs words n j i h in
    record { there = omega (arith, p.there); left = p.left; right = p.right; inside = p.inside }

module _ (recs words : List ℕ) (n j : ℕ) where
  pub line_placed : Inside table_width recs words n → j < n → Placed table_width recs words (table_width * j)
  line_placed i h = placed table_width recs words n j i h

-- what a function gives for numbers in rising order
module _ {A : Type 0} (f : ℕ → A) where
  pub list_long : (k n : ℕ) → length (list_from f k n) ≡ n
  unfolding list_from
  list_long k zero = refl
  list_long k (suc n) = ap suc (list_long (k + 1) n)

  pub list_at : (d : A) (k n j : ℕ) → j < n → get_or (list_from f k n) j d ≡ f (k + j)
  unfolding list_from
  list_at d k zero j h = absurd (omega arith)
  list_at d k (suc n) zero h = let e : k + 0 ≡ k = omega arith in rw e
  list_at d k (suc n) (suc j) h = let e : k + 1 + j ≡ k + suc j = omega arith in rw (← e) (list_at d (k + 1) n j (omega arith))

module _ (recs steps words : List ℕ) (n : ℕ) where
  pub lines_long : length (lines_in recs steps words n) ≡ n
  unfolding lines_in
  lines_long = list_long (line_in recs steps words) 0 n

  pub line_at_lem : (j : ℕ) → j < n → line_at (lines_in recs steps words n) j ≡ line_in recs steps words j
  unfolding lines_in
  line_at_lem j h = let e : 0 + j ≡ j = omega arith in list_at (line_in recs steps words) no_line 0 n j h ∙ rw e

  pub line_absent : (j : ℕ) → n ≤ j → line_at (lines_in recs steps words n) j ≡ no_line
  line_absent j h = get_or-eq_default (lines_in recs steps words n) no_line (omega (arith, lines_long))

module _ (recs words : List ℕ) (n : ℕ) where
  pub equations_long : length (equations_in recs words n) ≡ n
  unfolding equations_in
  equations_long = list_long (equation_in recs words) 0 n

  pub equation_at_lem : (j : ℕ) → j < n → equation_at (equations_in recs words n) j ≡ equation_in recs words j
  unfolding equations_in
  equation_at_lem j h = let e : 0 + j ≡ j = omega arith in list_at (equation_in recs words) no_equation 0 n j h ∙ rw e

-- the rules that a search goes through are those of the lines
rules_from_lem : (recs steps words : List ℕ) (k n : ℕ) → rules_in recs words k n ≡ rules_from k (list_from (line_in recs steps words) k n)
unfolding rules_in rules_from list_from line_in
rules_from_lem recs steps words k zero = refl
rules_from_lem recs steps words k (suc n) = rw (rules_from_lem recs steps words (k + 1) n)

pub rules_are : (recs steps words : List ℕ) (n : ℕ) → rules_in recs words 0 n ≡ rules_of (lines_in recs steps words n)
unfolding rules_of lines_in
rules_are recs steps words n = rules_from_lem recs steps words 0 n

-- a part of at most m bytes
part_short : (s l m : ℕ) (words : List ℕ) → l ≤ m → length (take (s + l - s) (drop s words)) ≤ m
part_short s l m words h =
    let q : s + l - s ≡ l = omega arith in
    rw (q, length-take l (drop s words)) (le_trans (min-le_left l (length (drop s words))) h)

module _ (recs words : List ℕ) (p s l : ℕ) (e : s ≡ u16_at recs p) (f : l ≡ get_or recs (p + 2) 0) where
  pub left_read : take (s + l - s) (drop s words) ≡ left_at recs words p
  unfolding left_at
  left_read = let q : s + l - s ≡ l = omega arith in rw (q, e, f)

  pub left_short : get_or recs (p + 2) 0 ≤ side_limit → length (take (s + l - s) (drop s words)) ≤ side_limit
  left_short h = part_short s l side_limit words (rw f h)

  module _ (r : ℕ) (g : r ≡ get_or recs (p + 3) 0) where
    pub right_read : take (s + l + r - (s + l)) (drop (s + l) words) ≡ right_at recs words p
    unfolding right_at
    right_read = let q : s + l + r - (s + l) ≡ r = omega arith in rw (q, e, f, g)

    pub right_short : get_or recs (p + 3) 0 ≤ side_limit → length (take (s + l + r - (s + l)) (drop (s + l) words)) ≤ side_limit
    right_short h = part_short (s + l) r side_limit words (rw g h)

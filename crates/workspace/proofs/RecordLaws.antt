-- Lines in slices before and after a change. A line's words, its lineage and its letters' place are told by the first six bytes of its record, by
-- those of the records before it, and by the letters among which it lies: where these are as they were, so is the line, up to its flag.
use Prim.Native.Nat.{ℕ, zero, suc, ◌+◌, ◌*◌, ◌≤◌, ◌<◌}
use mathlib.Core.Path.{◌≡◌, refl}
use mathlib.Core.List.{List}
use native.Mathlib.Omega.{arith}
use lib.ListN.{length, get_or, take, length-take}
use Rattle.layout.specs.Header.{table_width}
use Rattle.buffers.specs.Bytes.{u16_at}
use Rattle.layout.specs.Slices.{left_at, right_at, Placed, Inside, stands_by, steps_from, lineage_at, line_in, line_left, line_right}
use Rattle.workspace.proofs.PartLaws.{part_front}

-- the first six bytes of the first m records are the same in both
unfoldable pub Heads : List ℕ → List ℕ → ℕ → Type 0
Heads recs news m = (j i : ℕ) → j < m → i < 6 → get_or news (table_width * j + i) 0 ≡ get_or recs (table_width * j + i) 0

module _ (recs news : List ℕ) (m : ℕ) (h : Heads recs news m) where
  same_offset : (j : ℕ) → j < m → u16_at news (table_width * j) ≡ u16_at recs (table_width * j)
  unfolding Heads
  same_offset j l =
      let z : table_width * j + 0 ≡ table_width * j = omega arith in
      let first : get_or news (table_width * j) 0 ≡ get_or recs (table_width * j) 0 = rw z at (h j 0 l (omega arith)) in
      rw (first, h j 1 l (omega arith))

  same_count : (j : ℕ) → j < m → u16_at news (table_width * j + 4) ≡ u16_at recs (table_width * j + 4)
  unfolding Heads
  same_count j l = let z : table_width * j + 5 ≡ table_width * j + 4 + 1 = omega arith in rw (h j 4 l (omega arith), rw z at (h j 5 l (omega arith)))

  same_left : (j : ℕ) → j < m → get_or news (table_width * j + 2) 0 ≡ get_or recs (table_width * j + 2) 0
  unfolding Heads
  same_left j l = h j 2 l (omega arith)

  same_right : (j : ℕ) → j < m → get_or news (table_width * j + 3) 0 ≡ get_or recs (table_width * j + 3) 0
  unfolding Heads
  same_right j l = h j 3 l (omega arith)

  pub steps_same : (k n : ℕ) → k + n ≤ m → steps_from news k n ≡ steps_from recs k n
  unfolding steps_from
  steps_same k zero l = refl
  steps_same k (suc n) l = rw (same_count k (omega arith), steps_same (k + 1) n (omega arith))

-- letters up to u as they were, among which the first m lines lie
module _ (recs news words others steps : List ℕ) (m u : ℕ) (h : Heads recs news m) (e : take u others ≡ take u words)
    (p : Inside table_width recs (take u words) m) where
  placed : (j : ℕ) → j < m → Placed table_width recs (take u words) (table_width * j)
  unfolding Inside
  placed j l = p j l

  -- where line j's letters end
  ends : (j : ℕ) → j < m → u16_at recs (table_width * j) + get_or recs (table_width * j + 2) 0 + get_or recs (table_width * j + 3) 0 ≤ u
  ends j l = omega (arith, (placed j l).inside, length-take u words)

  left_same : (j : ℕ) → j < m → line_left news others j ≡ line_left recs words j
  unfolding left_at
  left_same j l =
      rw (same_offset recs news m h j l, same_left recs news m h j l)
      (part_front (u16_at recs (table_width * j)) (get_or recs (table_width * j + 2) 0) u others words (omega (arith, ends j l)) e)

  right_same : (j : ℕ) → j < m → line_right news others j ≡ line_right recs words j
  unfolding right_at
  right_same j l =
      rw (same_offset recs news m h j l, same_left recs news m h j l, same_right recs news m h j l)
      (part_front (u16_at recs (table_width * j) + get_or recs (table_width * j + 2) 0) (get_or recs (table_width * j + 3) 0) u others words (ends j l) e)

  lineage_same : (j : ℕ) → j < m → lineage_at news steps j ≡ lineage_at recs steps j
  unfolding lineage_at
  lineage_same j l = rw (same_count recs news m h j l, steps_same recs news m h 0 j (omega arith))

  pub line_same : (j : ℕ) → j < m → line_in news steps others j
      ≡ record { left = line_left recs words j; right = line_right recs words j; steps = lineage_at recs steps j; stands = stands_by news j }
  unfolding line_in
  line_same j l = rw (left_same j l, right_same j l, lineage_same j l)

  pub placed_same : (room : List ℕ) → length news ≡ length recs → length (take u words) ≤ length room → (j : ℕ) → j < m → Placed table_width news room (table_width * j)
  placed_same room f g j l =
      let o = placed j l in
      record {
        there = omega (arith, o.there);
        left = rw (same_left recs news m h j l) o.left;
        right = rw (same_right recs news m h j l) o.right;
        inside = rw (same_offset recs news m h j l, same_left recs news m h j l, same_right recs news m h j l) (omega (arith, o.inside));
      }

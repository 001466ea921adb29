-- Steps noted in the work buffer. Steps noted directly behind or before others are one list of steps. All but the steps area is as it was, and so
-- are the steps of the lines made so far where the new ones are noted behind them; there they are read again.
use Prim.Native.Nat.{ℕ, zero, suc, ◌+◌, ◌*◌, ◌≤◌, ◌<◌}
use mathlib.Core.Path.{◌≡◌, refl, sym, ◌∙◌, ap}
use mathlib.Core.List.{List, [], ◌∷◌, ◌++◌, append_assoc}
use native.Mathlib.Omega.{arith}
use lib.ListN.{length, get_or, take, drop}
use lib.Seq.{take-nil, get_or-take}
use Rattle.layout.specs.Header.{table_width, step_width}
use Rattle.rewriting.specs.Sheet.{Step, rules_of}
use Rattle.buffers.specs.Bytes.{u16_at}
use Rattle.buffers.specs.Written.{written}
use Rattle.buffers.proofs.WrittenLaws.{written_nothing, written_two}
use Rattle.layout.specs.Tables.{step_of, read_steps}
use Rattle.layout.specs.Slices.{part, steps_from, lineage_at, line_in, lines_in}
use Rattle.writing.specs.Writing.{step_bytes, steps_bytes}
use Rattle.writing.proofs.StepLaws.{steps_size}
use Rattle.workspace.specs.Areas.{work_room, most_steps, record_room, step_room, letter_room, ring_room, steps_start, letters_start, ring_start, record_area, step_area, letter_area, ring_area}
use Rattle.workspace.specs.Work.{noted, steps_noted, state_of, Good}
use Rattle.workspace.specs.Desk.{Notes}
use Rattle.workspace.specs.declared.Nums.{Nums}
use Rattle.workspace.specs.declared.desk.Desk.{Desk}
use Rattle.workspace.proofs.PartLaws.{part_front, part_part, paste_size, part_below, part_above, drop_above, part_own, written_before}
use Rattle.workspace.proofs.ListLaws.{list_same}
use Rattle.workspace.proofs.StateLaws.{states, good_moved, state_rules}

steps_joined : (ss ts : List Step) → steps_bytes (ss ++ ts) ≡ steps_bytes ss ++ steps_bytes ts
unfolding steps_bytes
steps_joined [] ts = refl
steps_joined (s ∷ ss) ts = rw (steps_joined ss ts, append_assoc (step_bytes s) (steps_bytes ss) (steps_bytes ts))

drop_taken : (a m u : ℕ) (l : List ℕ) → u ≡ a + m → drop a (take u l) ≡ take m (drop a l)
drop_taken zero m u l e = let q : u ≡ m = omega arith in rw q
drop_taken (suc a) m zero l e = absurd (omega arith)
drop_taken (suc a) m (suc u) [] e = sym (take-nil m)
drop_taken (suc a) m (suc u) (x ∷ l) e = drop_taken a m u l (omega arith)

-- k steps are read from step_width * k bytes
read_taken : (k : ℕ) (s : List ℕ) → read_steps k (take (step_width * k) s) ≡ read_steps k s
unfolding read_steps step_of
read_taken zero s = refl
read_taken (suc k) s =
    let byte : (i : ℕ) → i < 4 → get_or (take (step_width * suc k) s) i 0 ≡ get_or s i 0 = λ i h. get_or-take (step_width * suc k) s i 0 (omega arith) in
    let rest = drop_taken 4 (step_width * k) (step_width * suc k) s (omega arith) in
    rw (byte 0 (omega arith), byte 1 (omega arith), byte 2 (omega arith), byte 3 (omega arith), rest, read_taken k (drop 4 s))

read_front : (k a u : ℕ) (s t : List ℕ) → a + step_width * k ≤ u → take u s ≡ take u t → read_steps k (drop a s) ≡ read_steps k (drop a t)
read_front k a u s t h e =
    sym (read_taken k (drop a s)) ∙ ap (λ (l : List ℕ). read_steps k l) (part_front a (step_width * k) u s t h e) ∙ read_taken k (drop a t)

-- a line's steps end before those of all lines
steps_within_lem : (recs : List ℕ) (k n j : ℕ) → j < n → steps_from recs k j + u16_at recs (table_width * (k + j) + 4) ≤ steps_from recs k n
unfolding steps_from
steps_within_lem recs k zero j h = absurd (omega arith)
steps_within_lem recs k (suc n) zero h = let e : k + 0 ≡ k = omega arith in rw e (omega arith)
steps_within_lem recs k (suc n) (suc j) h =
    let e : k + 1 + j ≡ k + suc j = omega arith in
    let ih = steps_within_lem recs (k + 1) n j (omega arith) in
    let f : steps_from recs (k + 1) j + u16_at recs (table_width * (k + suc j) + 4) ≤ steps_from recs (k + 1) n = rw e at ih in
    omega (arith, f)

pub noted_none : (w : List ℕ) (at : ℕ) → w ≡ noted w at []
unfolding noted steps_bytes
noted_none w at = sym (written_nothing w (steps_start + step_width * at))

pub noted_one : (w v : List ℕ) (at : ℕ) (s : Step) → v ≡ written w (steps_start + step_width * at) (step_bytes s) → v ≡ noted w at (s ∷ [])
unfolding noted steps_bytes step_bytes
noted_one w v at s e = e

-- m steps and others directly behind them
module _ (w x v : List ℕ) (at m : ℕ) (ss ts : List Step) (many : length ss ≡ m) (few : at + m + length ts ≤ most_steps) (long : work_room ≤ length w) where
  fits : steps_start + step_width * at + length (steps_bytes ss) + length (steps_bytes ts) ≤ length w
  fits = rw (steps_size ss, steps_size ts, many) (omega arith)

  next : steps_start + step_width * (at + m) ≡ steps_start + step_width * at + length (steps_bytes ss)
  next = rw (steps_size ss, many) (omega arith)

  pub noted_more : x ≡ noted w at ss → v ≡ noted x (at + m) ts → v ≡ noted w at (ss ++ ts)
  unfolding noted
  noted_more e f =
      let both = written_two w (steps_bytes ss) (steps_bytes ts) (steps_start + step_width * at) (length (steps_bytes ss)) refl (omega (arith, fits)) in
      f ∙ rw (next, e, both, steps_joined ss ts)

  pub noted_before : x ≡ noted w (at + m) ts → v ≡ noted x at ss → v ≡ noted w at (ss ++ ts)
  unfolding noted
  noted_before e f =
      let both = written_before w (steps_bytes ss) (steps_bytes ts) (steps_start + step_width * at) fits in
      f ∙ rw (e, next, both, steps_joined ss ts)

-- all but the steps area is as it was
pub record Beside (w v : List ℕ) : Type 0 where
  pub records : record_area v ≡ record_area w
  pub letters : letter_area v ≡ letter_area w
  pub ring : ring_area v ≡ ring_area w
  pub size : length v ≡ length w
  pub past : drop work_room v ≡ drop work_room w

module _ (w v : List ℕ) (at : ℕ) (ss : List Step) (e : v ≡ noted w at ss) (few : at + length ss ≤ most_steps) (long : work_room ≤ length w) where
  pasted : v ≡ written w (steps_start + step_width * at) (steps_bytes ss)
  unfolding noted
  pasted = e

  end : steps_start + step_width * at + length (steps_bytes ss) ≤ letters_start
  end = rw (steps_size ss) (omega arith)

  there : steps_start + step_width * at + length (steps_bytes ss) ≤ length w
  there = omega (arith, end)

  before : (a n : ℕ) → a + n ≤ steps_start + step_width * at → part a n v ≡ part a n w
  before a n h = part_below w v (steps_bytes ss) (steps_start + step_width * at) (length (steps_bytes ss)) pasted refl there a n h

  behind : (a n : ℕ) → letters_start ≤ a → part a n v ≡ part a n w
  behind a n h = part_above w v (steps_bytes ss) (steps_start + step_width * at) (length (steps_bytes ss)) pasted refl there a n (omega (arith, end))

  pub noted_beside : Beside w v
  noted_beside = record {
    records = before 0 record_room (omega arith);
    letters = behind letters_start letter_room (omega arith);
    ring = behind ring_start ring_room (omega arith);
    size = paste_size w v (steps_bytes ss) (steps_start + step_width * at) (length (steps_bytes ss)) pasted refl there;
    past = drop_above w v (steps_bytes ss) (steps_start + step_width * at) (length (steps_bytes ss)) pasted refl there work_room (omega (arith, end));
  }

  pub noted_own : steps_noted v at (length ss) ≡ read_steps (length ss) (steps_bytes ss)
  noted_own =
      let o = part_own w v (steps_bytes ss) (steps_start + step_width * at) (length (steps_bytes ss)) pasted refl there in
      let own : part (step_width * at) (step_width * length ss) (step_area v) ≡ steps_bytes ss =
      part_part (step_width * at) (step_width * length ss) steps_start step_room v (omega arith) ∙ (rw (← steps_size ss) o) in
      sym (read_taken (length ss) (drop (step_width * at) (step_area v))) ∙ ap (λ (l : List ℕ). read_steps (length ss) l) own

  steps_before : take (step_width * at) (step_area v) ≡ take (step_width * at) (step_area w)
  steps_before =
      part_part 0 (step_width * at) steps_start step_room v (omega arith) ∙ before (steps_start + 0) (step_width * at) (omega arith)
      ∙ sym (part_part 0 (step_width * at) steps_start step_room w (omega arith))

module _ (w v : List ℕ) (n : Nums) (b : Beside w v) where
  pub beside_good : Good w n → Good v n
  beside_good g = good_moved w v n n.head n.count g g.head g.count b.size b.records b.letters

  pub beside_rules : rules_of (state_of v n).lines ≡ rules_of (state_of w n).lines
  beside_rules = sym (state_rules v n) ∙ rw (b.records, b.letters) (state_rules w n)

-- steps behind those of the lines leave the state as it is
module _ (w v : List ℕ) (n : Nums) (ss : List Step) (g : Good w n) (e : v ≡ noted w n.steps ss) (few : n.steps + length ss ≤ most_steps) where
  b : Beside w v
  b = noted_beside w v n.steps ss e few g.long

  line_kept : (j : ℕ) → j < n.lines → line_in (record_area v) (step_area v) (letter_area v) j ≡ line_in (record_area w) (step_area w) (letter_area w) j
  unfolding line_in lineage_at
  line_kept j h =
      let q : 0 + j ≡ j = omega arith in
      let f = steps_within_lem (record_area w) 0 n.lines j h in
      let l : steps_from (record_area w) 0 j + u16_at (record_area w) (table_width * j + 4) ≤ n.steps = rw g.made (rw q at f) in
      rw (
        b.records,
        b.letters,
        read_front (u16_at (record_area w) (table_width * j + 4)) (step_width * steps_from (record_area w) 0 j) (step_width * n.steps) (step_area v) (step_area w)
            (omega (arith, l)) (steps_before w v n.steps ss e few g.long),
      )

  pub noted_state : state_of v n ≡ state_of w n
  unfolding state_of lines_in
  noted_state =
      states (list_same (line_in (record_area v) (step_area v) (letter_area v)) (line_in (record_area w) (step_area w) (letter_area w)) 0 0 n.lines
      (λ j h. let q : 0 + j ≡ j = omega arith in rw q (line_kept j h))) (rw b.ring)

-- a step's four bytes, wherever it is noted
pub step_good : (w v : List ℕ) (n : Nums) (at : ℕ) (s : Step) → Good w n → at < most_steps → v ≡ written w (steps_start + step_width * at) (step_bytes s) → Good v n
step_good w v n at s g h e = beside_good w v n (noted_beside w v at (s ∷ []) (noted_one w v at s e) (omega arith) g.long) g

pub noted_step : (d e : Desk) (at : ℕ) (s : Step) → e.work.now ≡ written d.work.now (steps_start + step_width * at) (step_bytes s) → e.nums ≡ d.nums
    → e.work.ghost_name ≡ d.work.ghost_name → Notes d at (s ∷ []) e
noted_step d e at s h q k = record { bytes = noted_one d.work.now e.work.now at s h; nums = q; held = k }

-- steps directly behind others
pub notes_more : (d e h : Desk) (at m : ℕ) (ss ts : List Step) → length ss ≡ m → at + m + length ts ≤ most_steps
    → Notes d at ss e → Notes e (at + m) ts h → Notes d at (ss ++ ts) h
notes_more d e h at m ss ts many few a b = record {
  bytes = noted_more d.work.now e.work.now h.work.now at m ss ts many few d.good.long a.bytes b.bytes;
  nums = b.nums ∙ a.nums;
  held = b.held ∙ a.held;
}

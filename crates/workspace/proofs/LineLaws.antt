-- Making and deleting a line. A new record is written behind the others, its words behind the letters in use; the lines before it keep what they
-- are told by. Deleting a line writes its flag alone.
use Prim.Native.Nat.{ℕ, ◌+◌, ◌*◌, ◌/◌, ◌%◌, ◌≤◌, ◌<◌}
use mathlib.Core.Path.{◌≡◌, refl, sym, ◌∙◌, ap}
use mathlib.Core.List.{List, [], ◌∷◌, ◌++◌}
use mathlib.Core.Bool.{Bool, true, false}
use Rattle.std.specs.Prelude.{Ok}
use native.Mathlib.Omega.{arith}
use lib.ListN.{length, get_or, take, drop, set, length-append, length-take}
use lib.Dec.{ltb}
use borrow.Author.Tests.{ltb-true, ltb-false}
use lib.Seq.{paste, length-take-le, take-take, take-length, take-append_seam, drop-append_seam}
use Rattle.layout.specs.Header.{table_width}
use Rattle.words.specs.Refusal.{answered}
use Rattle.rewriting.specs.Sheet.{side_limit, no_line, line_at}
use Rattle.buffers.specs.Bytes.{u16_at}
use Rattle.buffers.specs.Written.{written}
use Rattle.buffers.proofs.WrittenLaws.{written_two}
use Rattle.layout.specs.Slices.{part, left_at, right_at, Placed, Inside, stands_by, steps_from, lineage_at, line_in, lines_in, line_left, line_right}
use Rattle.writing.specs.Writing.{record_bytes}
use Rattle.layout.proofs.FitsLaws.{steps_more}
use Rattle.workspace.specs.Waiting.{fallen, strike, new_line, with_line}
use Rattle.workspace.specs.Areas.{work_room, most_lines, most_steps, record_room, step_room, letter_room, ring_room, steps_start, letters_start, ring_start, record_area, step_area, letter_area}
use Rattle.workspace.specs.Work.{steps_noted, state_of, Good, Does}
use Rattle.workspace.specs.declared.Nums.{Nums}
use Rattle.workspace.proofs.PartLaws.{paste_size, set_paste, part_below, part_above, part_own, part_part, drop_above, get_or_own, get_or_off, get_or_part, length_part}
use Rattle.workspace.proofs.ListLaws.{list_same, list_set, list_snoc}
use Rattle.workspace.proofs.RecordLaws.{Heads, steps_same, line_same, placed_same}
use Rattle.workspace.proofs.StateLaws.{states}
use Rattle.workspace.proofs.ReadingLaws.{state_line}

-- the words of a line, one behind the other
pub sides_put : (w x v left right : List ℕ) (p : ℕ) → p + length left + length right ≤ length w → x ≡ written w p left → v ≡ written x (p + length left) right
    → v ≡ written w p (left ++ right)
sides_put w x v left right p h e f = f ∙ rw e (written_two w left right p (length left) refl (omega arith))

-- a byte of the records is a byte of the buffer
record_byte : (w : List ℕ) (i : ℕ) → i < record_room → get_or (record_area w) i 0 ≡ get_or w i 0
record_byte w i h = let z : 0 + i ≡ i = omega arith in get_or_part 0 record_room i w h ∙ rw z

records_long : (w : List ℕ) → work_room ≤ length w → length (record_area w) ≡ record_room
records_long w h = length_part 0 record_room w (omega arith)

-- one byte of a line's record, its flag
module _ (w v : List ℕ) (n : Nums) (j flag : ℕ) (g : Good w n) (l : j < n.lines) (f : v ≡ paste w (table_width * j + 6) (flag ∷ []) 1) where
  flag_fits : table_width * j + 6 + 1 ≤ length w
  flag_fits = omega (arith, g.long, g.lines)

  flag_size : length v ≡ length w
  flag_size = paste_size w v (flag ∷ []) (table_width * j + 6) 1 f refl flag_fits

  behind : (a m : ℕ) → steps_start ≤ a → part a m v ≡ part a m w
  behind a m b = part_above w v (flag ∷ []) (table_width * j + 6) 1 f refl flag_fits a m (omega (arith, g.lines))

  other_byte : (i : ℕ) → i < record_room → (i ≡ table_width * j + 6 → ⊥) → get_or (record_area v) i 0 ≡ get_or (record_area w) i 0
  other_byte i b d =
      record_byte v i b ∙ get_or_off w v (flag ∷ []) (table_width * j + 6) 1 f refl flag_fits i (λ a c. d (omega arith)) ∙ sym (record_byte w i b)

  flag_heads : Heads (record_area w) (record_area v) n.lines
  unfolding Heads
  flag_heads = λ k i a b. other_byte (table_width * k + i) (omega (arith, g.lines)) (λ e. omega arith)

  flag_down : flag ≡ 0 → stands_by (record_area v) j ≡ false
  unfolding stands_by
  flag_down nil =
      let z : table_width * j + 6 + 0 ≡ table_width * j + 6 = omega arith in
      let own : get_or v (table_width * j + 6) 0 ≡ flag = rw z at (get_or_own w v (flag ∷ []) (table_width * j + 6) 1 f refl flag_fits 0 (omega arith)) in
      rw (record_byte v (table_width * j + 6) (omega (arith, g.lines)), own, nil)

  flag_kept : (k : ℕ) → k < n.lines → (k ≡ j → ⊥) → stands_by (record_area v) k ≡ stands_by (record_area w) k
  unfolding stands_by
  flag_kept k b d = rw (other_byte (table_width * k + 6) (omega (arith, g.lines)) (λ e. d (omega arith)))

  old : (k : ℕ) → k < n.lines → line_in (record_area v) (step_area w) (letter_area w) k
      ≡ record {
        left = line_left (record_area w) (letter_area w) k;
        right = line_right (record_area w) (letter_area w) k;
        steps = lineage_at (record_area w) (step_area w) k;
        stands = stands_by (record_area v) k;
      }
  old k b = line_same (record_area w) (record_area v) (letter_area w) (letter_area w) (step_area w) n.lines n.letters flag_heads refl g.inside k b

  struck_own : flag ≡ 0 → line_in (record_area v) (step_area w) (letter_area w) j ≡ fallen (line_at (state_of w n).lines j)
  unfolding line_in
  struck_own nil = old j l ∙ rw (flag_down nil) (sym (ap fallen (state_line w n j l)))

  struck_lines : flag ≡ 0 → lines_in (record_area v) (step_area v) (letter_area v) n.lines
      ≡ set (lines_in (record_area w) (step_area w) (letter_area w) n.lines) j (fallen (line_at (state_of w n).lines j))
  unfolding lines_in
  struck_lines nil =
      let others = list_set (line_in (record_area v) (step_area w) (letter_area w)) (line_in (record_area w) (step_area w) (letter_area w)) no_line n.lines j l
      (λ i b d. old i b ∙ (unfold line_in in rw (flag_kept i b d))) in
      rw (behind steps_start step_room (omega arith), behind letters_start letter_room (omega arith)) (others ∙ rw (struck_own nil))

  still_inside : Inside table_width (record_area v) (take n.letters (letter_area v)) n.lines
  unfolding Inside
  still_inside =
      rw (behind letters_start letter_room (omega arith)) (placed_same (record_area w) (record_area v) (letter_area w) (letter_area w) (step_area w) n.lines n.letters flag_heads refl
      g.inside (take n.letters (letter_area w)) (records_long v (omega (arith, g.long, flag_size)) ∙ sym (records_long w (omega (arith, g.long)))) (omega arith))

  -- the numbers fit, whatever the byte is
  pub struck_good : Good v n
  struck_good = record {
    long = omega (arith, g.long, flag_size);
    lines = g.lines;
    letters = g.letters;
    steps = g.steps;
    made = g.made ∙ sym (steps_same (record_area w) (record_area v) n.lines flag_heads 0 n.lines (omega arith));
    head = g.head;
    count = g.count;
    inside = still_inside;
  }

  struck : flag ≡ 0 → Does w n.lines n.steps v (Ok n) (answered (strike j (state_of w n)))
  unfolding strike
  struck nil = record {
    told = unfold state_of in ap answered (states (struck_lines nil) (rw (behind ring_start ring_room (omega arith))));
    good = struck_good;
    many = refl;
    made = refl;
    same = behind steps_start step_room (omega arith);
    size = flag_size;
    past = drop_above w v (flag ∷ []) (table_width * j + 6) 1 f refl flag_fits work_room (omega (arith, g.lines));
  }

pub flag_good : (w : List ℕ) (n : Nums) (j flag : ℕ) → Good w n → j < n.lines → Good (set w (table_width * j + 6) flag) n
flag_good w n j flag g l = struck_good w (set w (table_width * j + 6) flag) n j flag g l (set_paste w (table_width * j + 6) flag (omega (arith, g.long, g.lines)))

pub strike_done : (w : List ℕ) (n : Nums) (j : ℕ) → Good w n → j < n.lines
    → Does w n.lines n.steps (set w (table_width * j + 6) 0) (Ok n) (answered (strike j (state_of w n)))
strike_done w n j g l = struck w (set w (table_width * j + 6) 0) n j 0 g l (set_paste w (table_width * j + 6) 0 (omega (arith, g.long, g.lines))) refl

module _ (w x v left right : List ℕ) (n : Nums) (k : ℕ) (g : Good w n) (few : n.lines < most_lines) (bl : length left ≤ side_limit) (br : length right ≤ side_limit)
    (c : n.steps + k ≤ most_steps) (f₁ : x ≡ written w (table_width * n.lines) (record_bytes n.letters (length left) (length right) k true))
    (f₂ : v ≡ written x (letters_start + n.letters) (left ++ right)) where
  room : n.letters + 64 ≤ letter_room
  room = omega (arith, g.letters)

  fits₁ : table_width * n.lines + 8 ≤ length w
  fits₁ = omega (arith, g.long)

  size₁ : length x ≡ length w
  size₁ = paste_size w x (record_bytes n.letters (length left) (length right) k true) (table_width * n.lines) table_width f₁ refl fits₁

  sides_long : length (left ++ right) ≡ length left + length right
  sides_long = length-append left right

  fits₂ : letters_start + n.letters + length (left ++ right) ≤ length x
  fits₂ = omega (arith, room, g.long, size₁, sides_long)

  size₂ : length v ≡ length w
  size₂ = paste_size x v (left ++ right) (letters_start + n.letters) (length (left ++ right)) f₂ refl fits₂ ∙ size₁

  -- what is before the new letters, what is behind the new record, and what is behind both
  before : (a m : ℕ) → a + m ≤ letters_start + n.letters → part a m v ≡ part a m x
  before a m h = part_below x v (left ++ right) (letters_start + n.letters) (length (left ++ right)) f₂ refl fits₂ a m h

  after_record : (a : ℕ) → steps_start ≤ a → drop a x ≡ drop a w
  after_record a h = drop_above w x (record_bytes n.letters (length left) (length right) k true) (table_width * n.lines) table_width f₁ refl fits₁ a (omega arith)

  far : (a : ℕ) → ring_start ≤ a → drop a v ≡ drop a w
  far a h =
      drop_above x v (left ++ right) (letters_start + n.letters) (length (left ++ right)) f₂ refl fits₂ a (omega (arith, room, sides_long))
      ∙ after_record a (omega arith)

  same_steps : step_area v ≡ step_area w
  same_steps = before steps_start step_room (omega arith) ∙ ap (λ (l : List ℕ). take step_room l) (after_record steps_start (omega arith))

  -- the letters: those in use, then the left word, then the right
  same_letters : take n.letters (letter_area v) ≡ take n.letters (letter_area w)
  same_letters =
      part_part 0 n.letters letters_start letter_room v (omega (arith, room)) ∙ before letters_start n.letters (omega arith)
      ∙ ap (λ (l : List ℕ). take n.letters l) (after_record letters_start (omega arith)) ∙ sym (part_part 0 n.letters letters_start letter_room w (omega (arith, room)))

  new_letters : part n.letters (length left + length right) (letter_area v) ≡ left ++ right
  new_letters =
      part_part n.letters (length left + length right) letters_start letter_room v (omega (arith, room))
      ∙ (rw (← sides_long) (part_own x v (left ++ right) (letters_start + n.letters) (length (left ++ right)) f₂ refl fits₂))

  left_there : part n.letters (length left) (letter_area v) ≡ left
  left_there =
      sym (take-take (length left) (length left + length right) (drop n.letters (letter_area v)) (omega arith))
      ∙ ap (λ (l : List ℕ). take (length left) l) new_letters ∙ take-append_seam left right

  right_there : part (n.letters + length left) (length right) (letter_area v) ≡ right
  right_there =
      sym (part_part (length left) (length right) n.letters (length left + length right) (letter_area v) (omega arith))
      ∙ ap (λ (l : List ℕ). part (length left) (length right) l) new_letters ∙ ap (λ (l : List ℕ). take (length right) l) (drop-append_seam left right)
      ∙ take-length right

  -- the records: those before, then the new one
  old_byte : (i : ℕ) → i < table_width * n.lines → get_or (record_area v) i 0 ≡ get_or (record_area w) i 0
  old_byte i h =
      ap (λ (r : List ℕ). get_or r i 0) (before 0 record_room (omega arith)) ∙ record_byte x i (omega arith)
      ∙ get_or_off w x (record_bytes n.letters (length left) (length right) k true) (table_width * n.lines) table_width f₁ refl fits₁ i (λ a b. omega arith)
      ∙ sym (record_byte w i (omega arith))

  new_byte : (i : ℕ) → i < 8 → get_or (record_area v) (table_width * n.lines + i) 0 ≡ get_or (record_bytes n.letters (length left) (length right) k true) i 0
  new_byte i h =
      ap (λ (r : List ℕ). get_or r (table_width * n.lines + i) 0) (before 0 record_room (omega arith)) ∙ record_byte x (table_width * n.lines + i) (omega arith)
      ∙ get_or_own w x (record_bytes n.letters (length left) (length right) k true) (table_width * n.lines) table_width f₁ refl fits₁ i h

  old_heads : Heads (record_area w) (record_area v) n.lines
  unfolding Heads
  old_heads = λ j i a b. old_byte (table_width * j + i) (omega arith)

  new_offset : u16_at (record_area v) (table_width * n.lines) ≡ n.letters
  new_offset =
      let z : table_width * n.lines + 0 ≡ table_width * n.lines = omega arith in
      let first : get_or (record_area v) (table_width * n.lines) 0 ≡ n.letters % 256 = rw z at (new_byte 0 (omega arith)) in
      rw (first, new_byte 1 (omega arith)) (omega arith)

  new_count : u16_at (record_area v) (table_width * n.lines + 4) ≡ k
  new_count =
      let z : table_width * n.lines + 5 ≡ table_width * n.lines + 4 + 1 = omega arith in
      let next : get_or (record_area v) (table_width * n.lines + 4 + 1) 0 ≡ k / 256 = rw z at (new_byte 5 (omega arith)) in
      rw (new_byte 4 (omega arith), next) (omega arith)

  steps_before : steps_from (record_area v) 0 n.lines ≡ n.steps
  steps_before = steps_same (record_area w) (record_area v) n.lines old_heads 0 n.lines (omega arith) ∙ sym g.made

  new_line_lem : line_in (record_area v) (step_area v) (letter_area v) n.lines ≡ new_line left right (steps_noted w n.steps k)
  unfolding line_in left_at right_at lineage_at stands_by
  new_line_lem =
      rw (new_offset, new_byte 2 (omega arith), new_byte 3 (omega arith), left_there, right_there, new_count, steps_before, same_steps, new_byte 6 (omega arith))

  old_line : (j : ℕ) → j < n.lines → line_in (record_area v) (step_area v) (letter_area v) j ≡ line_in (record_area w) (step_area w) (letter_area w) j
  unfolding line_in stands_by
  old_line j h =
      rw same_steps (line_same (record_area w) (record_area v) (letter_area w) (letter_area v) (step_area w) n.lines n.letters old_heads same_letters g.inside j h
      ∙ rw (old_byte (table_width * j + 6) (omega arith)))

  all_lines : lines_in (record_area v) (step_area v) (letter_area v) (n.lines + 1)
      ≡ lines_in (record_area w) (step_area w) (letter_area w) n.lines ++ (new_line left right (steps_noted w n.steps k) ∷ [])
  unfolding lines_in
  all_lines =
      let z : 0 + n.lines ≡ n.lines = omega arith in
      let olds = list_same (line_in (record_area v) (step_area v) (letter_area v)) (line_in (record_area w) (step_area w) (letter_area w)) 0 0 n.lines
      (λ i h. let q : 0 + i ≡ i = omega arith in rw q (old_line i h)) in
      list_snoc (line_in (record_area v) (step_area v) (letter_area v)) 0 n.lines ∙ rw (z, olds, new_line_lem)

  letters_long : length (take (n.letters + length left + length right) (letter_area v)) ≡ n.letters + length left + length right
  letters_long = length-take-le (n.letters + length left + length right) (letter_area v) (omega (arith, room, length_part letters_start letter_room v (omega (arith, g.long, size₂))))

  new_placed : Placed table_width (record_area v) (take (n.letters + length left + length right) (letter_area v)) (table_width * n.lines)
  new_placed = record {
    there = omega (arith, records_long v (omega (arith, g.long, size₂)));
    left = rw (new_byte 2 (omega arith)) bl;
    right = rw (new_byte 3 (omega arith)) br;
    inside = rw (new_offset, new_byte 2 (omega arith), new_byte 3 (omega arith)) (omega (arith, letters_long));
  }

  all_inside : Inside table_width (record_area v) (take (n.letters + length left + length right) (letter_area v)) (n.lines + 1)
  unfolding Inside
  all_inside = λ j h. one j h (ltb j n.lines) refl
    where
      one : (j : ℕ) → j < n.lines + 1 → (b : Bool) → ltb j n.lines ≡ b → Placed table_width (record_area v) (take (n.letters + length left + length right) (letter_area v)) (table_width * j)
      one j h true e =
          placed_same (record_area w) (record_area v) (letter_area w) (letter_area v) (step_area w) n.lines n.letters old_heads same_letters g.inside
          (take (n.letters + length left + length right) (letter_area v))
          (records_long v (omega (arith, g.long, size₂)) ∙ sym (records_long w (omega (arith, g.long))))
          (omega (arith, letters_long, length-take n.letters (letter_area w))) j (ltb-true j n.lines e)
      one j h false e = let q : j ≡ n.lines = omega (arith, ltb-false j n.lines e) in rw q new_placed

  pub add_done : Does w (n.lines + 1) (n.steps + k) v
      (Ok (record { lines = n.lines + 1; letters = n.letters + length left + length right; steps = n.steps + k; head = n.head; count = n.count }))
      (answered (with_line (new_line left right (steps_noted w n.steps k)) (state_of w n)))
  add_done = record {
    told = unfold state_of in ap answered (states all_lines (rw (ap (λ (l : List ℕ). take ring_room l) (far ring_start (omega arith)))));
    good = record {
      long = omega (arith, g.long, size₂);
      lines = omega arith;
      letters = omega (arith, g.letters);
      steps = c;
      made = sym (steps_more (record_area v) n.lines 0 ∙ (let z : 0 + n.lines ≡ n.lines = omega arith in rw (z, steps_before, new_count)));
      head = g.head;
      count = g.count;
      inside = all_inside;
    };
    many = refl;
    made = refl;
    same = same_steps;
    size = size₂;
    past = far work_room (omega arith);
  }

-- The packer's loops and its parts. Each loop puts one piece behind those before it; the tail that is lent comes back with the words at its start;
-- and with the header before the areas it is the file.
use Prim.Native.Nat.{ℕ, ◌+◌, ◌-◌, ◌*◌, ◌≤◌, ◌<◌}
use native.Mathlib.Omega.{arith}
use mathlib.Core.Path.{◌≡◌, refl, sym, ◌∙◌, ap}
use mathlib.Core.List.{List, [], ◌++◌, append_assoc, append-nil}
use mathlib.Core.Bool.{Bool}
use borrow.Rule.Slice.PartMut.{put_mid}
use lib.ListN.{length, take, drop, length-append, length-drop, drop_of_length-le}
use lib.Seq.{take_all, length-take-le, drop_at, drop-drop}
use Rattle.rewriting.specs.Sheet.{side_limit}
use Rattle.buffers.specs.Written.{written}
use Rattle.buffers.specs.Appended.{Appended}
use Rattle.buffers.proofs.WrittenLaws.{written_parts, written_two}
use Rattle.buffers.proofs.AppendedLaws.{nothing_put, two_pieces}
use Rattle.layout.specs.declared.Header.{Header}
use Rattle.layout.specs.Header.{header_size, table_width, step_width, table_kind, records_at, steps_at, words_at}
use Rattle.layout.specs.Judged.{Within}
use Rattle.layout.specs.Slices.{line_left, line_right, steps_by, stands_by, step_in, steps_from}
use Rattle.writing.specs.Writing.{header_bytes, record_bytes, step_bytes, write_table}
use Rattle.layout.proofs.HeaderLaws.{records_early}
use Rattle.writing.proofs.WritingLaws.{step_long}
use Rattle.packing.specs.Limits.{pair_most}
use Rattle.packing.specs.Packed.{table_room, Packed, packed_table}
use Rattle.packing.specs.Pieces.{joined, pair_piece, words_piece, record_piece, records_piece, step_piece, steps_piece}
use Rattle.packing.proofs.JoinedLaws.{joined_more, joined_long, Joined, joined_start, joined_on, joined_end}
use Rattle.packing.proofs.FileLaws.{letters_more, file_is}

-- a line's record and its letters
pub line_put : (d b recs words l r : List ℕ) (at j o steps : ℕ) (t : Bool) → o ≡ length (words_piece recs words j) → l ≡ line_left recs words j
    → r ≡ line_right recs words j → steps ≡ steps_by recs j → t ≡ stands_by recs j → b ≡ written d at (record_bytes o (length l) (length r) steps t)
    → b ≡ written d at (record_piece recs words j)
unfolding record_piece
line_put d b recs words l r at j o steps t eo el er es et e = rw (← eo, ← el, ← er, ← es, ← et) e

pub line_counted : (recs words l r : List ℕ) (j o : ℕ) → o ≡ length (words_piece recs words j) → l ≡ line_left recs words j → r ≡ line_right recs words j
    → o + length l + length r ≡ length (words_piece recs words (j + 1))
line_counted recs words l r j o eo el er = rw (eo, el, er) (omega (arith, letters_more recs words j))

pub none_counted : (recs words : List ℕ) → 0 ≡ length (words_piece recs words 0)
unfolding joined
none_counted recs words = refl

-- every record has as many bytes
record_long : (recs words : List ℕ) (j : ℕ) → length (record_piece recs words j) ≡ table_width
unfolding record_piece
record_long recs words j = refl

records_long : (recs words : List ℕ) (n : ℕ) → length (records_piece recs words n) ≡ table_width * n
records_long recs words n = joined_long (record_piece recs words) table_width (record_long recs words) n 0

pub records_on : (d recs words b c : List ℕ) (at n j : ℕ) → Joined (record_piece recs words) d at b j → j < n → at + table_width * n ≤ length d
    → c ≡ written b (at + table_width * j) (record_piece recs words j) → Joined (record_piece recs words) d at c (j + 1)
records_on d recs words b c at n j s h l e = joined_on (record_piece recs words) d at b c j (table_width * j) s (records_long recs words j) (omega arith) e

-- what the loop over the records needs
pub ruleset records_put = (none_counted, joined_start, records_on, joined_end)

-- a step
pub step_copied : (d b steps : List ℕ) (at i n p : ℕ) (t : Bool) → n ≡ (step_in steps i).reference → t ≡ (step_in steps i).back → p ≡ (step_in steps i).place
    → b ≡ written d at (step_bytes (record { reference = n; back = t; place = p })) → b ≡ written d at (step_piece steps i)
unfolding step_piece
step_copied d b steps at i n p t en et ep e = rw (en, et, ep) at e

steps_long : (steps : List ℕ) (n : ℕ) → length (steps_piece steps n) ≡ step_width * n
unfolding step_piece
steps_long steps n = joined_long (step_piece steps) step_width (λ i. step_long (step_in steps i)) n 0

pub steps_on : (d steps b c : List ℕ) (at n i : ℕ) → Joined (step_piece steps) d at b i → i < n → at + step_width * n ≤ length d
    → c ≡ written b (at + step_width * i) (step_piece steps i) → Joined (step_piece steps) d at c (i + 1)
steps_on d steps b c at n i s h l e = joined_on (step_piece steps) d at b c i (step_width * i) s (steps_long steps i) (omega arith) e

-- what the loop over the steps needs
pub ruleset steps_put = (joined_start, steps_on, joined_end)

-- a line's letters
pub pair_put : (d b c recs words l r : List ℕ) (at m e j : ℕ) → l ≡ line_left recs words j → r ≡ line_right recs words j → length l ≤ side_limit → length r ≤ side_limit
    → at + pair_most ≤ length d → Appended d b at m (length l) l → Appended b c m e (length r) r → Appended d c at e pair_most (pair_piece recs words j)
unfolding pair_piece
pair_put d b c recs words l r at m e j el er sl sr h p q =
    rw (← el, ← er) (two_pieces d b c l r at m e (length l) (length r) pair_most p q h (omega arith))

pub words_start : (d recs words : List ℕ) → Appended d d 0 0 (pair_most * 0) (words_piece recs words 0)
unfolding joined
words_start d recs words = nothing_put d 0 0

pub words_on : (d b c recs words : List ℕ) (m r j n : ℕ) → Appended d b 0 m (pair_most * j) (words_piece recs words j) → j < n → pair_most * n ≤ length d
    → Appended b c m r pair_most (pair_piece recs words j) → Appended d c 0 r (pair_most * (j + 1)) (words_piece recs words (j + 1))
words_on d b c recs words m r j n p h g q =
    rw (joined_more (pair_piece recs words) j)
    (two_pieces d b c (words_piece recs words j) (pair_piece recs words j) 0 m r (pair_most * j) pair_most (pair_most * (j + 1)) p q (omega arith) (omega arith))

-- a table within the limits has its room
pub table_room_lem : (h : Header) (n : ℕ) → Within table_kind h → table_room ≤ n → words_at table_kind h + pair_most * h.pairs ≤ n
table_room_lem h n w r = omega (arith, records_early table_kind h, w.pairs, w.steps)

pub table_end : (h : Header) (k : ℕ) → Within table_kind h → k ≤ pair_most * h.pairs → words_at table_kind h + k < 65536
table_end h k w l = omega (arith, records_early table_kind h, w.pairs, w.steps)

-- steps behind records
pub front_put : (d b c recs steps words : List ℕ) (h : Header) (n at m : ℕ) → n ≡ h.pairs → words_at table_kind h ≤ length d → at ≡ records_at table_kind h → m ≡ steps_at table_kind h
    → b ≡ written d at (records_piece recs words n) → c ≡ written b m (steps_piece steps h.steps)
    → c ≡ written d (records_at table_kind h) (records_piece recs words n ++ steps_piece steps h.steps)
front_put d b c recs steps words h n at m en room ea em e f =
    let q : steps_at table_kind h ≡ records_at table_kind h + table_width * n = omega (arith, en) in
    f ∙ rw (e, ea, em, q)
    (written_two d (records_piece recs words n) (steps_piece steps h.steps) (records_at table_kind h) (table_width * n)
    (records_long recs words n) (omega (arith, en)))

-- the tail from a on is lent, and comes back with a piece at its start
tail_put : (b y w : List ℕ) (a : ℕ) → a ≤ length b → y ≡ written (take (length b - a) (drop a b)) 0 w
    → put_mid a (length b - a) b y ≡ written b a w
tail_put b y w a h e =
    let t : take (length b - a) (drop a b) ≡ drop a b = take_all (length b - a) (drop a b) (rw (length-drop a b) (omega arith)) in
    let m : length (drop a b) ≤ length b - a = rw (length-drop a b) (omega arith) in
    let n : drop (length b - a) (drop a b) ≡ [] = drop_of_length-le (drop a b) m in
    let z : 0 + length w ≡ length w = omega arith in
    let y-is : y ≡ w ++ drop (length w) (drop a b) = e ∙ written_parts (take (length b - a) (drop a b)) w 0 ∙ rw (t, z) in
    rw (y-is, n, drop-drop (length w) a b) (simp append-nil (sym (written_parts b w a)))

pub areas_put : (d b y recs steps words : List ℕ) (h : Header) (n s k : ℕ) → n ≡ h.pairs → words_at table_kind h + pair_most * h.pairs ≤ length d → s ≡ words_at table_kind h
    → length b ≡ length d → b ≡ written d (records_at table_kind h) (records_piece recs words n ++ steps_piece steps h.steps)
    → Appended (take (length b - s) (drop s b)) y 0 k (pair_most * n) (words_piece recs words n)
    → put_mid s (length b - s) b y
    ≡ written d (records_at table_kind h) (records_piece recs words n ++ steps_piece steps h.steps ++ words_piece recs words n)
areas_put d b y recs steps words h n s k en room es l e p =
    let r = records_piece recs words n in
    let t = steps_piece steps h.steps in
    let a = records_at table_kind h in
    let m = table_width * n + step_width * h.steps in
    let z : length (r ++ t) ≡ m = rw (length-append r t, records_long recs words n, steps_long steps h.steps) in
    let q : s ≡ a + m = omega (arith, es, en) in
    tail_put b y (words_piece recs words n) s (omega arith) p.output
    ∙ rw (e, q) (written_two d (r ++ t) (words_piece recs words n) a m z (omega (arith, en)))

-- the header last, before what stands behind it
header_first : (d b c z x : List ℕ) (n : ℕ) → n ≤ length d → length x ≡ n → b ≡ written d n z → c ≡ written b 0 x → c ≡ written d 0 (x ++ z)
header_first d b c z x n l s e f =
    let v : drop n (take n d ++ (z ++ drop (n + length z) d)) ≡ z ++ drop (n + length z) d =
    drop_at (take n d) (z ++ drop (n + length z) d) n (length-take-le n d l) in
    let q : 0 + length (x ++ z) ≡ n + length z = rw (length-append x z, s) (omega arith) in
    let y : 0 + length x ≡ n = rw s (omega arith) in
    f ∙ written_parts b x 0
    ∙ rw (y, e ∙ written_parts d z n, v) (sym (written_parts d (x ++ z) 0 ∙ rw q (append_assoc x z (drop (n + length z) d))))

header_long : (h : Header) (k : ℕ) → length (header_bytes table_kind h k) ≡ header_size
unfolding header_bytes
header_long h k = refl

records_at_lem : (h : Header) → records_at table_kind h ≡ header_size
unfolding records_at
records_at_lem h = refl

-- so all of it is the file
pub packed : (d b c recs steps words : List ℕ) (h : Header) (n s k : ℕ) → n ≡ h.pairs → table_room ≤ length d → Within table_kind h
    → h.steps ≡ steps_from recs 0 h.pairs → s ≡ words_at table_kind h → k ≡ length (words_piece recs words n) → k ≤ pair_most * h.pairs
    → b ≡ written d (records_at table_kind h) (records_piece recs words n ++ steps_piece steps h.steps ++ words_piece recs words n)
    → c ≡ written b 0 (header_bytes table_kind h k) → Packed d c (s + k) (packed_table h recs steps words)
packed d b c recs steps words h n s k en room w made es ek short e f =
    let x = header_bytes table_kind h k in
    let z = records_piece recs words n ++ steps_piece steps h.steps ++ words_piece recs words n in
    let g : x ++ z ≡ write_table (packed_table h recs steps words) = rw en (file_is h recs steps words made k (rw en at ek)) in
    let all-long : s + k ≡ length (x ++ z) =
    simp (length-append, records_long, steps_long) (omega (arith, es, ek, en, header_long h k, records_at_lem h)) in
    record {
      sized = all-long ∙ ap length g;
      small = omega (arith, es, records_at_lem h, w.pairs, w.steps);
      output = header_first d b c z x header_size (omega arith) (header_long h k) (rw (records_at_lem h) at e) f ∙ ap (written d 0) g;
    }

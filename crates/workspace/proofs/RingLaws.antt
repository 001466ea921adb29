-- The ring of waiting entries. An entry that was written is read again, and writing it leaves the others, as their places differ while fewer than
-- 2,048 wait. Taking the oldest moves the head on; counted round the ring the others keep their places.
use Prim.Native.Nat.{ℕ, zero, suc, ◌+◌, ◌-◌, ◌*◌, ◌%◌, ◌≤◌, ◌<◌}
use mathlib.Core.Path.{◌≡◌, refl, sym, ◌∙◌, ap}
use mathlib.Core.List.{List, [], ◌∷◌, ◌++◌}
use Rattle.std.specs.Prelude.{None, Some, Ok, Err}
use native.Mathlib.Omega.{arith}
use borrow.Author.Tests.{lt-ltb, le-ltb}
use lib.ListN.{length, get_or}
use lib.Seq.{paste}
use Rattle.words.specs.Refusal.{answered}
use Rattle.layout.specs.Slices.{part, list_from}
use Rattle.workspace.specs.Waiting.{append}
use Rattle.workspace.specs.Areas.{work_room, most_waiting, record_room, step_room, letter_room, ring_room, steps_start, letters_start, ring_start, ring_area}
use Rattle.workspace.specs.Work.{entry_bytes, entry_by, entry_at, waiting_at, state_of, Good, Does, Takes}
use Rattle.workspace.specs.declared.Entry.{Entry}
use Rattle.workspace.specs.declared.Entry.TheVariants.{OfEquation, OfDeleted, OfOverlap}
use Rattle.workspace.specs.declared.Nums.{Nums}
use Rattle.words.specs.declared.refusals.Refusal.TheVariants.{ManyWaiting}
use Rattle.workspace.proofs.PartLaws.{paste_size, part_below, drop_above, get_or_own, get_or_off, get_or_part}
use Rattle.workspace.proofs.StateLaws.{states, good_moved, waiting_counted}
use Rattle.workspace.proofs.ListLaws.{list_same, list_cons, list_snoc}

bytes_four : (e : Entry) → length (entry_bytes e) ≡ 4
unfolding entry_bytes
bytes_four (OfEquation k) = refl
bytes_four (OfDeleted j) = refl
bytes_four (OfOverlap o) = refl

-- the entry that the code reads
module _ (s : List ℕ) (p : ℕ) where
  pub read_equation : get_or s p 0 ≡ 0 → OfEquation (get_or s (p + 1) 0) ≡ entry_at s p
  unfolding entry_at
  read_equation h = rw h

  pub read_deleted : get_or s p 0 ≡ 1 → OfDeleted (get_or s (p + 1) 0) ≡ entry_at s p
  unfolding entry_at
  read_deleted h = rw h

  pub read_overlap : (get_or s p 0 ≡ 0 → ⊥) → (get_or s p 0 ≡ 1 → ⊥)
      → OfOverlap (record { n = get_or s (p + 1) 0; m = get_or s (p + 2) 0; place = get_or s (p + 3) 0 }) ≡ entry_at s p
  unfolding entry_at
  read_overlap = by_tag (get_or s p 0)
    where
      by_tag : (t : ℕ) → (t ≡ 0 → ⊥) → (t ≡ 1 → ⊥)
          → OfOverlap (record { n = get_or s (p + 1) 0; m = get_or s (p + 2) 0; place = get_or s (p + 3) 0 })
          ≡ entry_by t (get_or s (p + 1) 0) (get_or s (p + 2) 0) (get_or s (p + 3) 0)
      by_tag zero f g = absurd (f refl)
      by_tag (suc zero) f g = absurd (g refl)
      by_tag (suc (suc k)) f g = refl

-- four bytes decide on the entry
entry_like : (s t : List ℕ) (p q : ℕ) → ((i : ℕ) → i < 4 → get_or s (p + i) 0 ≡ get_or t (q + i) 0) → entry_at s p ≡ entry_at t q
unfolding entry_at
entry_like s t p q h =
    let a : p + 0 ≡ p = omega arith in
    let b : q + 0 ≡ q = omega arith in
    let z : get_or s p 0 ≡ get_or t q 0 = rw (a, b) at (h 0 (omega arith)) in
    rw (z, h 1 (omega arith), h 2 (omega arith), h 3 (omega arith))

bytes_read : (e : Entry) → entry_at (entry_bytes e) 0 ≡ e
unfolding entry_at entry_bytes
bytes_read (OfEquation k) = refl
bytes_read (OfDeleted j) = refl
bytes_read (OfOverlap o) = refl

module _ (w v : List ℕ) (e : Entry) (p : ℕ) (h : v ≡ paste w p (entry_bytes e) 4) (l : p + 4 ≤ length w) where
  entry_own : entry_at v p ≡ e
  entry_own =
      entry_like v (entry_bytes e) p 0 (λ i g. let z : 0 + i ≡ i = omega arith in rw z (get_or_own w v (entry_bytes e) p 4 h (bytes_four e) l i g)) ∙ bytes_read e

  entry_off : (q : ℕ) → (q < p + 4 → p < q + 4 → ⊥) → entry_at v q ≡ entry_at w q
  entry_off q g = entry_like v w q q (λ i b. get_or_off w v (entry_bytes e) p 4 h (bytes_four e) l (q + i) (λ c d. g (omega arith) (omega arith)))

-- the ring in the whole buffer
ring_entry : (w : List ℕ) (k : ℕ) → waiting_at (ring_area w) k ≡ entry_at w (ring_start + 4 * (k % most_waiting))
unfolding waiting_at
ring_entry w k =
    entry_like (ring_area w) w (4 * (k % most_waiting)) (ring_start + 4 * (k % most_waiting)) (λ i b.
    let q : ring_start + (4 * (k % most_waiting) + i) ≡ ring_start + 4 * (k % most_waiting) + i = omega arith in
    rw (← q) (get_or_part ring_start ring_room (4 * (k % most_waiting) + i) w (omega arith)))

pub push_full : (w : List ℕ) (n : Nums) (e : Entry) → Good w n → most_waiting ≤ n.count
    → Does w n.lines n.steps w (Err ManyWaiting) (append e (state_of w n))
unfolding append
push_full w n e g h = record { told = rw (waiting_counted w n, le-ltb n.count most_waiting h); good = tt; many = tt; made = tt; same = refl; size = refl; past = refl }

module _ (w v : List ℕ) (n : Nums) (e : Entry) (g : Good w n) (h : n.count < most_waiting)
    (f : v ≡ paste w (ring_start + 4 * ((n.head + n.count) % most_waiting)) (entry_bytes e) 4) where
  ring_fits : ring_start + 4 * ((n.head + n.count) % most_waiting) + 4 ≤ length w
  ring_fits = omega (arith, g.long)

  -- an area in front of the ring is as it was
  front : (a m : ℕ) → a + m ≤ ring_start → part a m v ≡ part a m w
  front a m b = part_below w v (entry_bytes e) (ring_start + 4 * ((n.head + n.count) % most_waiting)) 4 f (bytes_four e) ring_fits a m (omega arith)

  ring_on : list_from (waiting_at (ring_area v)) n.head (n.count + 1) ≡ list_from (waiting_at (ring_area w)) n.head n.count ++ (e ∷ [])
  ring_on =
      let own : waiting_at (ring_area v) (n.head + n.count) ≡ e =
      ring_entry v (n.head + n.count) ∙ entry_own w v e (ring_start + 4 * ((n.head + n.count) % most_waiting)) f ring_fits in
      let others = list_same (waiting_at (ring_area v)) (waiting_at (ring_area w)) n.head n.head n.count (λ i b.
      ring_entry v (n.head + i)
      ∙ entry_off w v e (ring_start + 4 * ((n.head + n.count) % most_waiting)) f ring_fits (ring_start + 4 * ((n.head + i) % most_waiting)) (λ c d. omega (arith, g.head))
      ∙ sym (ring_entry w (n.head + i))) in
      list_snoc (waiting_at (ring_area v)) n.head n.count ∙ rw (own, others)

  pub push_on : Does w n.lines n.steps v (Ok (record { lines = n.lines; letters = n.letters; steps = n.steps; head = n.head; count = n.count + 1 })) (append e (state_of w n))
  unfolding append
  push_on = record {
    told = rw (waiting_counted w n, lt-ltb n.count most_waiting h) (unfold state_of in ap answered (states (rw (front 0 record_room (omega arith), front steps_start step_room (omega arith), front letters_start letter_room (omega arith))) ring_on));
    good = good_moved w v n n.head (n.count + 1) g g.head (omega arith) size (front 0 record_room (omega arith)) (front letters_start letter_room (omega arith));
    many = refl;
    made = refl;
    same = front steps_start step_room (omega arith);
    size = size;
    past = drop_above w v (entry_bytes e) (ring_start + 4 * ((n.head + n.count) % most_waiting)) 4 f (bytes_four e) ring_fits work_room (omega arith);
  }
    where
      size : length v ≡ length w
      size = paste_size w v (entry_bytes e) (ring_start + 4 * ((n.head + n.count) % most_waiting)) 4 f (bytes_four e) ring_fits

pub pop_none : (w : List ℕ) (n : Nums) → n.count ≡ 0 → Takes w n None
unfolding state_of list_from
pop_none w n h = record { told = states refl (rw h); good = tt }

pub pop_took : (w : List ℕ) (n : Nums) (e : Entry) → Good w n → (n.count ≡ 0 → ⊥) → e ≡ entry_at w (ring_start + 4 * n.head)
    → Takes w n (Some (e, record { lines = n.lines; letters = n.letters; steps = n.steps; head = (n.head + 1) % most_waiting; count = n.count - 1 }))
unfolding state_of
pop_took w n e g h f = record {
  told = states refl (rest ∙ ring);
  good = good_moved w w n ((n.head + 1) % most_waiting) (n.count - 1) g (omega arith) (omega (arith, g.count)) refl refl refl;
}
  where
    at : ℕ → Entry
    at = waiting_at (ring_area w)

    first : at n.head ≡ e
    first = let q : n.head % most_waiting ≡ n.head = omega (arith, g.head) in ring_entry w n.head ∙ rw q (sym f)

    rest : e ∷ list_from at ((n.head + 1) % most_waiting) (n.count - 1) ≡ e ∷ list_from at (n.head + 1) (n.count - 1)
    rest = ap (λ (l : List Entry). e ∷ l) (list_same at at ((n.head + 1) % most_waiting) (n.head + 1) (n.count - 1) (λ i b.
        let q : ((n.head + 1) % most_waiting + i) % most_waiting ≡ (n.head + 1 + i) % most_waiting = omega arith in
        ring_entry w ((n.head + 1) % most_waiting + i) ∙ rw q (sym (ring_entry w (n.head + 1 + i)))))

    ring : e ∷ list_from at (n.head + 1) (n.count - 1) ≡ list_from at n.head n.count
    ring = rw (← first) (sym (list_cons at n.head n.count h))

-- The three parts of a lineage, noted one behind the other: the steps down to one normal word backwards, the middle, the steps down to the other.
-- The rules stay as they are while steps are noted, so the second word is reduced as it was before.
use Prim.Native.Nat.{ℕ, ◌+◌, ◌≤◌, ◌<◌}
use mathlib.Core.Path.{◌≡◌, refl, ◌∙◌}
use mathlib.Core.List.{List, [], ◌∷◌, ◌++◌, append_assoc, append-nil}
use mathlib.Core.Bool.{Bool, true, false}
use native.Mathlib.Omega.{arith}
use lib.ListN.{length, length-append}
use Rattle.words.specs.Word.{Word}
use Rattle.rewriting.specs.Search.{Rule}
use Rattle.rewriting.specs.Sheet.{Step, rules_of}
use Rattle.writing.proofs.StepLaws.{steps_read}
use Rattle.workspace.specs.Areas.{most_steps}
use Rattle.workspace.specs.Work.{noted, Good}
use Rattle.workspace.specs.Desk.{state, Notes}
use Rattle.workspace.specs.declared.Entry.{Entry}
use Rattle.workspace.specs.declared.Entry.TheVariants.{OfEquation, OfDeleted, OfOverlap}
use Rattle.workspace.specs.declared.Overlap.{Overlap}
use Rattle.workspace.specs.declared.Nums.{Nums}
use Rattle.workspace.specs.declared.desk.Desk.{Desk}
use Rattle.workspace.proofs.StepLaws.{noted_beside, beside_good, noted_own, noted_state, notes_more}
use Rattle.lineage.specs.Lineage.{steps_down, backwards, either_way, across, lineage}
use Rattle.lineage.specs.Noting.{middle, Replays, Traced, Traces}
use Rattle.lineage.proofs.NotingLaws.{backwards_long, notes_rules}
use Rattle.lineage.proofs.ReplayLaws.{down_long}

-- the middle, step by step
pub two_steps : (d e h : Desk) (at : ℕ) (s t : Step) → at + 2 ≤ most_steps → Notes d at (s ∷ []) e → Notes e (at + 1) (t ∷ []) h → Notes d at (s ∷ t ∷ []) h
two_steps d e h at s t few f g = notes_more d e h at 1 (s ∷ []) (t ∷ []) refl (omega arith) f g

module _ (d h : Desk) (at cited : ℕ) (o : Overlap) (back : Bool) (a b : ℕ) (n : a ≡ o.n) (m : b ≡ o.m) where
  pub peak_over : back ≡ false
      → Notes d at (record { reference = cited + a; back = true; place = 0 } ∷ record { reference = cited + b; back = false; place = o.place } ∷ []) h
      → Notes d at (middle back cited (OfOverlap o)) h
  unfolding across
  peak_over q f = rw (q, ← n, ← m) f

  pub peak_back : back ≡ true
      → Notes d at (record { reference = cited + b; back = true; place = o.place } ∷ record { reference = cited + a; back = false; place = 0 } ∷ []) h
      → Notes d at (middle back cited (OfOverlap o)) h
  unfolding across backwards
  peak_back q f = rw (q, ← n, ← m) f

-- a single step at 0, one way or the other
single : (k : ℕ) (back : Bool) → either_way back (record { reference = k; back = false; place = 0 } ∷ []) ≡ record { reference = k; back = back; place = 0 } ∷ []
unfolding backwards
single k true = refl
single k false = refl

module _ (d h : Desk) (at cited : ℕ) (e : Entry) (back : Bool) where
  pub across_equation : (k a : ℕ) → e ≡ OfEquation k → a ≡ k → Notes d at (record { reference = a; back = back; place = 0 } ∷ []) h
      → Notes d at (middle back cited e) h
  unfolding across
  across_equation k a p q f = rw (p, single k back, ← q) f

  pub across_deleted : (j a : ℕ) → e ≡ OfDeleted j → a ≡ j → Notes d at (record { reference = cited + a; back = back; place = 0 } ∷ []) h
      → Notes d at (middle back cited e) h
  unfolding across
  across_deleted j a p q f = rw (p, single (cited + j) back, ← q) f

  pub across_overlap : (o : Overlap) → e ≡ OfOverlap o → Notes d at (middle back cited (OfOverlap o)) h → Notes d at (middle back cited e) h
  across_overlap o p f = rw p f

-- how many steps the middle has
module _ (e : Entry) where
  pub one_equation : (k : ℕ) → e ≡ OfEquation k → 1 ≡ length (across 0 e)
  unfolding across
  one_equation k h = rw h

  pub one_deleted : (j : ℕ) → e ≡ OfDeleted j → 1 ≡ length (across 0 e)
  unfolding across
  one_deleted j h = rw h

  pub two_overlap : (o : Overlap) → e ≡ OfOverlap o → 2 ≡ length (across 0 e)
  unfolding across
  two_overlap o h = rw h

middle_long : (back : Bool) (cited : ℕ) (e : Entry) → length (middle back cited e) ≡ length (across 0 e)
unfolding across backwards
middle_long true cited (OfEquation k) = refl
middle_long true cited (OfDeleted j) = refl
middle_long true cited (OfOverlap o) = refl
middle_long false cited (OfEquation k) = refl
middle_long false cited (OfDeleted j) = refl
middle_long false cited (OfOverlap o) = refl

across_some : (e : Entry) → 1 ≤ length (across 0 e)
unfolding across
across_some (OfEquation k) = omega arith
across_some (OfDeleted j) = omega arith
across_some (OfOverlap o) = omega arith

-- the steps across have room
pub room_for_one : (e : Entry) (at : ℕ) → at + length (across 0 e) ≤ most_steps → at < most_steps
room_for_one e at h = omega (arith, across_some e)

pub room_for_two : (e : Entry) (o : Overlap) (at : ℕ) → at + length (across 0 e) ≤ most_steps → e ≡ OfOverlap o → at + 2 ≤ most_steps
room_for_two e o at h q = omega (arith, two_overlap e o q)

-- how many steps a lineage has
pub lineage_long : (rs : List Rule) (cited : ℕ) (e : Entry) (back : Bool) (one : Word) (up : ℕ) (other : Word) (down : ℕ) → Replays rs up one → Replays rs down other
    → length (lineage (steps_down cited rs up one) (middle back cited e) (steps_down cited rs down other)) ≡ up + (length (across 0 e) + down)
lineage_long rs cited e back one up other down r d =
    length-append (backwards (steps_down cited rs up one)) (middle back cited e ++ steps_down cited rs down other)
    ∙ (rw (
      backwards_long (steps_down cited rs up one),
      down_long cited rs up one r,
      length-append (middle back cited e) (steps_down cited rs down other),
      middle_long back cited e,
      down_long cited rs down other d,
    ))

-- steps noted behind those of the lines are the next line's, and all else is as it was
traced : (w v : List ℕ) (n : Nums) (ss : List Step) → Good w n → v ≡ noted w n.steps ss → n.steps + length ss ≤ most_steps → Traced w v n ss
traced w v n ss g e few =
    let b = noted_beside w v n.steps ss e few g.long in
    record {
      good = beside_good w v n b g;
      state = noted_state w v n ss g e few;
      read = noted_own w v n.steps ss e few g.long ∙ (rw append-nil at (steps_read ss []));
      size = b.size;
      past = b.past;
    }

traces : (d e : Desk) (ss : List Step) → Notes d d.nums.steps ss e → d.nums.steps + length ss ≤ most_steps → Traces d e ss
traces d e ss h few = record { traced = traced d.work.now e.work.now d.nums ss d.good h.bytes few; nums = h.nums; held = h.held }

-- up from one normal word and across
module _ (d f : Desk) (cited : ℕ) (e : Entry) (back : Bool) (one : Word) (up : ℕ) (r : Replays (rules_of (state d).lines) up one) where
  abbrev rs : List Rule
  rs = rules_of (state d).lines

  abbrev ups : List Step
  ups = backwards (steps_down cited rs up one)

  ups_long : length ups ≡ up
  ups_long = backwards_long (steps_down cited rs up one) ∙ down_long cited rs up one r

  pub traced_up : (h : Desk) → d.nums.steps + (up + length (across 0 e)) ≤ most_steps → Notes d d.nums.steps ups f → Notes f (d.nums.steps + up) (middle back cited e) h
      → Notes d d.nums.steps (ups ++ middle back cited e) h
  traced_up h few = notes_more d f h d.nums.steps up ups (middle back cited e) ups_long (omega (arith, middle_long back cited e))

  module _ (other : Word) (down m : ℕ) (few : d.nums.steps + (up + (length (across 0 e) + down)) ≤ most_steps) (long : m ≡ length (across 0 e))
      (n : Notes d d.nums.steps (ups ++ middle back cited e) f) where
    front_long : length (ups ++ middle back cited e) ≡ up + m
    front_long = length-append ups (middle back cited e) ∙ (rw (ups_long, middle_long back cited e, long))

    same_rules : rules_of (state f).lines ≡ rs
    same_rules = notes_rules d f d.nums.steps (ups ++ middle back cited e) n (omega (arith, front_long))

    pub trace_replays : Replays rs down other → Replays (rules_of (state f).lines) down other
    trace_replays k = rw same_rules k

    pub trace_done : (h : Desk) → Replays rs down other → Notes f (d.nums.steps + up + m) (steps_down cited (rules_of (state f).lines) down other) h
        → Traces d h (lineage (steps_down cited rs up one) (middle back cited e) (steps_down cited rs down other))
    trace_done h k g =
        let downs = steps_down cited rs down other in
        let downs-long = down_long cited rs down other k in
        let q : d.nums.steps + up + m ≡ d.nums.steps + (up + m) = omega arith in
        let last : Notes f (d.nums.steps + (up + m)) downs h = rw (same_rules, q) at g in
        let all = notes_more d f h d.nums.steps (up + m) (ups ++ middle back cited e) downs front_long (omega (arith, downs-long, long)) n last in
        let whole : Notes d d.nums.steps (ups ++ (middle back cited e ++ downs)) h = rw (append_assoc ups (middle back cited e) downs) at all in
        traces d h (ups ++ (middle back cited e ++ downs)) whole (omega (arith, lineage_long rs cited e back one up other down r k, long))

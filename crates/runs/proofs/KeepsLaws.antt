-- What completion keeps. A turn leaves the state as it was, or makes one line: it deletes lines, each of which then waits, the line joins, and overlaps
-- of it are appended. So a property of states that each of these keeps holds after the turn, and after all turns. The line's sides are the normal words
-- of the entry's two words, its lineage leads through the entry, and it is within the limits.
use Prim.Native.Nat.{ℕ, zero, suc, ◌+◌, ◌≤◌, ◌<◌, Ordering}
use mathlib.Core.Path.{◌≡◌, refl, ◌∙◌, subst}
use mathlib.Core.Logic.{⊎_elim}
use mathlib.Core.List.{List, [], ◌∷◌, ◌++◌}
use mathlib.Core.Bool.{Bool, true, false, cond, ◌&&◌, ◌||◌}
use native.Mathlib.Omega.{arith}
use lib.Dec.{leb, ltb}
use borrow.Author.Tests.{ltb-true, leb-true}
use lib.ListN.{length, drop, length-append, length-set}
use Rattle.words.specs.Word.{Word}
use Rattle.words.specs.Refusal.{Result, answered, refused, on_answer}
use Rattle.words.specs.Counting.{in_turn}
use Rattle.words.specs.Order.{order_by}
use Rattle.words.proofs.TestLaws.{and_left, and_right}
use Rattle.rewriting.specs.Search.{Rule}
use Rattle.rewriting.specs.Normal.{Counted, normal_of, own_allowance}
use Rattle.rewriting.specs.Pairs.{Reducts, agree, place_counts, is_pair}
use Rattle.rewriting.specs.Sheet.{side_limit, Sheet, Line, line_at, Table, rules_of}
use Rattle.rewriting.specs.Standing.{stands_in}
use Rattle.rewriting.specs.Steps.{same_word}
use Rattle.rewriting.proofs.BoundedLaws.{refused_runs}
use Rattle.rewriting.proofs.StandingLines.{standing_listed}
use Rattle.writing.specs.Writing.{steps_made}
use Rattle.workspace.specs.Areas.{most_lines, most_steps, most_waiting}
use Rattle.workspace.specs.Waiting.{State, two_words, append, strike, fallen, new_line, with_line}
use Rattle.workspace.specs.declared.Entry.{Entry}
use Rattle.workspace.specs.declared.Entry.TheVariants.{OfDeleted, OfOverlap}
use Rattle.workspace.specs.declared.Overlap.{Overlap}
use Rattle.new_lines.specs.NewLine.{reducible_by, delete_by, overlap_at, overlaps_of, overlaps_with, overlaps_of_new, grow, make_line}
use Rattle.lineage.specs.Lineage.{steps_down, backwards, across, lineage}
use Rattle.turns.specs.Turn.{orient_by, orient, settle, treat, Turned, over, going, take_oldest, turn_of}
use Rattle.runs.specs.Completion.{close, Run, ends, stops, goes}

-- the entry e waits behind the others
abbrev pub behind : Entry → State → State
behind e d = record { lines = d.lines; waiting = d.waiting ++ (e ∷ []) }

-- a property of states of k lines that deleting a line and appending an overlap keep
pub record Stable (k : ℕ) (P : State → Type 0) : Type 0 where
  pub lines : (d : State) → P d → length d.lines ≡ k
  pub deleted : (j : ℕ) (d : State) → P d → j < k → length d.waiting < most_waiting → P (behind (OfDeleted j) (strike j d))
  pub overlap : (o : Overlap) (d : State) → P d → o.n < k → o.m < k → o.place < length (line_at d.lines o.n).left → length d.waiting < most_waiting
      → P (behind (OfOverlap o) d)

-- so many lines: deletions and overlaps make none, a line that joins makes one
abbrev pub Long : ℕ → State → Type 0
Long k d = length d.lines ≡ k

pub long_stable : (k : ℕ) → Stable k (Long k)
unfolding strike
long_stable k = record {
  lines = λ d h. h;
  deleted = λ j d h l f. length-set d.lines j (fallen (line_at d.lines j)) ∙ h;
  overlap = λ o d h n m p f. h;
}

pub long_joined : (k : ℕ) (t : Line) (d : State) → Long k d → Long (k + 1) (with_line t d)
long_joined k t d h = length-append d.lines (t ∷ []) ∙ rw h

-- a line that stands is there
stands_there : (ts : List Line) (j : ℕ) → (line_at ts j).stands ≡ true → j < length ts
stands_there ts j h = standing_listed ts j (line_at ts j).left (line_at ts j).right (record { stands = h; left = refl; right = refl })

-- the line between the normal words x and y of an entry's two words, the greater on the left
pub data Between (cited : ℕ) (d : State) (e : Entry) (w : Reducts) (x y : Counted) : Line → Type 0 where
  first_greater : Between cited d e w x y (new_line x.word y.word (lineage (steps_down cited (rules_of d.lines) x.count w.first)
      (across cited e) (steps_down cited (rules_of d.lines) y.count w.second)))
  second_greater : Between cited d e w x y (new_line y.word x.word (lineage (steps_down cited (rules_of d.lines) y.count w.second)
      (backwards (across cited e)) (steps_down cited (rules_of d.lines) x.count w.first)))

-- the line that an entry makes, within the limits
pub record Makes (s : Sheet) (d : State) (e : Entry) (t : Line) : Type 0 where
  pub x : Counted
  pub y : Counted
  pub first : normal_of (rules_of d.lines) own_allowance (two_words s.equations d.lines e).first ≡ answered x
  pub second : normal_of (rules_of d.lines) own_allowance (two_words s.equations d.lines e).second ≡ answered y
  pub between : Between (length s.equations) d e (two_words s.equations d.lines e) x y t
  pub left : length t.left ≤ side_limit
  pub right : length t.right ≤ side_limit
  pub lines : length d.lines < most_lines
  pub steps : steps_made d.lines + length t.steps ≤ most_steps

-- no number of a refusal is ruled out
abbrev pub AnyRefusal : ℕ → Type 0
AnyRefusal n = Unit {0}

module _ (R : ℕ → Type 0) where
  -- an answer has the property P; a refusal's number has the property R
  abbrev pub Keeps : {A : Type 0} → (A → Type 0) → Result A → Type 0
  Keeps P (answered a) = P a
  Keeps P (refused n p) = R n

  pub keeps_on : {A B : Type 0} (P : A → Type 0) (Q : B → Type 0) (x : Result A) (f : A → Result B) → Keeps P x → ((a : A) → P a → Keeps Q (f a))
      → Keeps Q (on_answer x f)
  keeps_on P Q (answered a) f h g = g a h
  keeps_on P Q (refused n p) f h g = h

  pub keeps_weaker : {A : Type 0} (P Q : A → Type 0) (x : Result A) → ((a : A) → P a → Q a) → Keeps P x → Keeps Q x
  keeps_weaker P Q (answered a) f h = f a h
  keeps_weaker P Q (refused n p) f h = h

  pub keeps_said : {A : Type 0} (x : Result A) → ((n p : ℕ) → x ≡ refused n p → R n) → Keeps (λ (a : A). x ≡ answered a) x
  keeps_said (answered a) g = refl
  keeps_said (refused n p) g = g n p refl

  pub keeps_either : {A : Type 0} (P : A → Type 0) (b : Bool) (x y : Result A) → (b ≡ true → Keeps P x) → (b ≡ false → Keeps P y) → Keeps P (cond b x y)
  keeps_either P true x y g h = g refl
  keeps_either P false x y g h = h refl

  pub keeps_turns : {A : Type 0} (P : A → Type 0) (f : ℕ → A → Result A) → ((j : ℕ) (d : A) → P d → Keeps P (f j d))
      → (n j : ℕ) (d : A) → P d → Keeps P (in_turn f j n d)
  unfolding in_turn
  keeps_turns P f g zero j d h = h
  keeps_turns P f g (suc n) j d h = keeps_on P P (f j d) (λ t. in_turn f (j + 1) n t) (g j d h) (λ t i. keeps_turns P f g n (j + 1) t i)

  -- the refusals of a turn are 5 and up
  module _ (refuses : (n : ℕ) → 5 ≤ n → R n) where
    pub keeps_normal : (rs : List Rule) (a : ℕ) (w : Word) → Keeps (λ x. normal_of rs a w ≡ answered x) (normal_of rs a w)
    keeps_normal rs a w = keeps_said (normal_of rs a w) (λ n p e.
        ⊎_elim (λ h. refuses n (omega (arith, h.0))) (λ h. refuses n (omega (arith, h.0))) (refused_runs rs a w n p e).1)

    keeps_append : (P : State → Type 0) (e : Entry) (d : State) → (length d.waiting < most_waiting → P (behind e d)) → Keeps P (append e d)
    unfolding append
    keeps_append P e d h =
        keeps_either P (ltb (length d.waiting) most_waiting) (answered (behind e d)) (refused 10 0) (λ f. h (ltb-true (length d.waiting) most_waiting f))
        (λ f. refuses 10 (omega arith))

    module _ (k : ℕ) (P : State → Type 0) (s : Stable k P) where
      keeps_delete : (left : Word) (j : ℕ) (d : State) → P d → Keeps P (delete_by left j d)
      unfolding delete_by reducible_by strike
      keeps_delete left j d h =
          let t = line_at d.lines j in
          let b = stands_in left t.left || stands_in left t.right in
          keeps_either P (t.stands && b) (append (OfDeleted j) (strike j d)) (answered d)
          (λ e. keeps_append P (OfDeleted j) (strike j d) (λ few.
          s.deleted j d h (rw (← s.lines d h) (stands_there d.lines j (and_left t.stands b e))) few)) (λ e. h)

      module _ (n m : ℕ) (there : n < k) (other : m < k) where
        keeps_overlap : (j : ℕ) (d : State) → P d → Keeps P (overlap_at n m j d)
        unfolding overlap_at is_pair
        keeps_overlap j d h =
            let l = (line_at d.lines n).left in
            let o : Overlap = record { n = n; m = m; place = j } in
            let b = agree (drop j l) (line_at d.lines m).left && place_counts n m j in
            keeps_either P (ltb j (length l) && b) (append (OfOverlap o) d) (answered d)
            (λ e. keeps_append P (OfOverlap o) d (λ few. s.overlap o d h there other (ltb-true j (length l) (and_left (ltb j (length l)) b e)) few)) (λ e. h)

        keeps_overlaps : (d : State) → P d → Keeps P (overlaps_of n m d)
        unfolding overlaps_of
        keeps_overlaps d h = keeps_turns P (overlap_at n m) keeps_overlap (length (line_at d.lines n).left) 0 d h

      module _ (new : ℕ) (there : new < k) where
        keeps_with : (m : ℕ) (d : State) → P d → Keeps P (overlaps_with new m d)
        unfolding overlaps_with
        keeps_with m d h =
            keeps_either P (line_at d.lines m).stands (on_answer (overlaps_of new m d) (λ e. overlaps_of m new e)) (answered d) (λ e.
            let other : m < k = rw (← s.lines d h) (stands_there d.lines m e) in
            keeps_on P P (overlaps_of new m d) (λ e. overlaps_of m new e) (keeps_overlaps new m there other d h) (λ e i. keeps_overlaps m new other there e i))
            (λ e. h)

        keeps_new : (d : State) → P d → Keeps P (overlaps_of_new new d)
        unfolding overlaps_of_new
        keeps_new d h =
            keeps_on P P (in_turn (overlaps_with new) 0 new d) (λ e. overlaps_of new new e) (keeps_turns P (overlaps_with new) keeps_with new 0 d h)
            (λ e i. keeps_overlaps new new there there e i)

    -- a line joins: a property of states with one line less becomes one of states with it
    pub keeps_grown : (k : ℕ) (P Q : State → Type 0) → Stable k P → Stable (k + 1) Q → (t : Line) → ((e : State) → P e → Q (with_line t e))
        → (d : State) → P d → Keeps Q (grow t d)
    unfolding grow
    keeps_grown k P Q s r t joins d h =
        keeps_on P Q (in_turn (delete_by t.left) 0 (length d.lines) d) (λ e. overlaps_of_new (length d.lines) (with_line t e))
        (keeps_turns P (delete_by t.left) (λ j e i. keeps_delete k P s t.left j e i) (length d.lines) 0 d h)
        (λ e i. keeps_new (k + 1) Q r (length d.lines) (rw (s.lines d h) (omega arith)) (with_line t e) (joins e i))

    -- an entry is treated: the state stays, or its line joins
    module _ (s : Sheet) (d : State) (e : Entry) (Q : State → Type 0) (stays : Q d) (makes : (t : Line) → Makes s d e t → Keeps Q (grow t d)) where
      abbrev w : Reducts
      w = two_words s.equations d.lines e

      abbrev Reached : Word → Counted → Type 0
      Reached u x = normal_of (rules_of d.lines) own_allowance u ≡ answered x

      module _ (x y : Counted) (f : Reached w.first x) (g : Reached w.second y) where
        keeps_made : (t : Line) → Between (length s.equations) d e w x y t → Keeps Q (make_line t d)
        unfolding make_line
        keeps_made t b =
            let l = leb (length t.left) side_limit in
            let r = leb (length t.right) side_limit in
            let n = ltb (length d.lines) most_lines in
            let m = leb (steps_made d.lines + length t.steps) most_steps in
            keeps_either Q (l && r) (cond n (cond m (grow t d) (refused 9 0)) (refused 8 0)) (refused 7 0) (λ short.
            keeps_either Q n (cond m (grow t d) (refused 9 0)) (refused 8 0) (λ few.
            keeps_either Q m (grow t d) (refused 9 0) (λ light.
            makes t (record {
              x = x;
              y = y;
              first = f;
              second = g;
              between = b;
              left = leb-true (length t.left) side_limit (and_left l r short);
              right = leb-true (length t.right) side_limit (and_right l r short);
              lines = ltb-true (length d.lines) most_lines few;
              steps = leb-true (steps_made d.lines + length t.steps) most_steps light;
            })) (λ no. refuses 9 (omega arith))) (λ no. refuses 8 (omega arith))) (λ no. refuses 7 (omega arith))

        keeps_oriented : (c : Ordering) → Keeps Q (orient_by c (length s.equations) d e w x y)
        keeps_oriented Ordering.lt = keeps_made _ second_greater
        keeps_oriented Ordering.eq = refuses 11 (omega arith)
        keeps_oriented Ordering.gt = keeps_made _ first_greater

      pub keeps_treated : Keeps Q (treat s d e)
      unfolding treat settle orient
      keeps_treated =
          let n = length s.equations in
          let rs = rules_of d.lines in
          keeps_on (Reached w.first) Q (normal_of rs own_allowance w.first)
          (λ x. on_answer (normal_of rs own_allowance w.second) (λ y. orient s.order n d e w x y)) (keeps_normal rs own_allowance w.first) (λ x f.
          keeps_on (Reached w.second) Q (normal_of rs own_allowance w.second) (λ y. orient s.order n d e w x y)
          (keeps_normal rs own_allowance w.second) (λ y g.
          keeps_either Q (same_word x.word y.word) (answered d) (orient_by (order_by s.order x.word y.word) n d e w x y) (λ same. stays)
          (λ differ. keeps_oriented x y f g (order_by s.order x.word y.word))))

    -- the run: what treating the oldest entry keeps holds at the end, where the closing check makes it a property of the table
    module _ (s : Sheet) (P : State → Type 0) (Q : Table → Type 0) (closes : (d : State) → P d → Keeps Q (close s d))
        (treats : (d : State) (e : Entry) → P (record { lines = d.lines; waiting = e ∷ d.waiting }) → Keeps P (treat s d e)) where
      abbrev Onward : Turned → Type 0
      Onward over = Unit {0}
      Onward (going d) = P d

      keeps_oldest : (ts : List Line) (es : List Entry) → P (record { lines = ts; waiting = es }) → Keeps Onward (take_oldest s ts es)
      keeps_oldest ts [] h = tt
      keeps_oldest ts (e ∷ es) h =
          let d : State = record { lines = ts; waiting = es } in keeps_on P Onward (treat s d e) (λ f. answered (going f)) (treats d e h) (λ f i. i)

      pub keeps_run : {d : State} {a : Result Table} → Run s d a → P d → Keeps Q a
      unfolding turn_of
      keeps_run {d} (ends e) h = closes d h
      keeps_run {d} (stops n p e) h = subst (Keeps Onward) e (keeps_oldest d.lines d.waiting h)
      keeps_run {d} (goes f e r) h = keeps_run r (subst (Keeps Onward) e (keeps_oldest d.lines d.waiting h))

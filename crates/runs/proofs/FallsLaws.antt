-- Every turn lowers (256 - lines made) * 2,049 + waiting. A turn that makes no line takes one entry away. One that makes a line makes just one, as
-- deleting and appending make none, and it leaves at most 2,048 entries, as an append with 2,048 waiting is refused.
use Prim.Native.Nat.{ℕ, ◌+◌, ◌-◌, ◌*◌, ◌≤◌, ◌<◌}
use mathlib.Core.Path.{◌≡◌, refl, ap}
use mathlib.Core.Logic.{◌⊎◌, inl, inr}
use mathlib.Core.List.{List, [], ◌∷◌, ◌++◌}
use native.Mathlib.Omega.{arith}
use lib.ListN.{length, length-append}
use Rattle.words.specs.Refusal.{Result, answered, refused, on_answer}
use Rattle.rewriting.specs.Sheet.{Sheet, Line}
use Rattle.workspace.specs.Areas.{most_lines, most_waiting}
use Rattle.workspace.specs.Waiting.{State, strike}
use Rattle.workspace.specs.declared.Entry.{Entry}
use Rattle.workspace.specs.declared.Entry.TheVariants.{OfDeleted, OfOverlap}
use Rattle.new_lines.specs.NewLine.{grow}
use Rattle.turns.specs.Turn.{treat, Turned, over, going, take_oldest, turn_of}
use Rattle.runs.proofs.KeepsLaws.{AnyRefusal, Keeps, keeps_weaker, Stable, Long, long_stable, long_joined, keeps_grown, keeps_treated}

-- so many lines, and no more than 2,048 wait
abbrev Few : ℕ → State → Type 0
Few k d = Long k d × (length d.waiting ≤ most_waiting)

one_more : (e : Entry) (es : List Entry) → length es < most_waiting → length (es ++ (e ∷ [])) ≤ most_waiting
one_more e es h = rw (length-append es (e ∷ [])) (omega arith)

few_stable : (k : ℕ) → Stable k (Few k)
unfolding strike
few_stable k = record {
  lines = λ d h. h.0;
  deleted = λ j d h l f. ((long_stable k).deleted j d h.0 l f, one_more (OfDeleted j) d.waiting f);
  overlap = λ o d h n m p f. (h.0, one_more (OfOverlap o) d.waiting f);
}

-- what an entry that was treated leaves: the state as it was, or one line more
abbrev Lowers : State → State → Type 0
Lowers d e = (e ≡ d) ⊎ ((length d.lines < most_lines) × Few (length d.lines + 1) e)

lowers_treated : (s : Sheet) (d : State) (e : Entry) → length d.waiting ≤ most_waiting → Keeps AnyRefusal (Lowers d) (treat s d e)
lowers_treated s d e few =
    let k = length d.lines in
    keeps_treated AnyRefusal (λ n h. tt) s d e (Lowers d) (inl refl) (λ t m.
    keeps_weaker AnyRefusal (Few (k + 1)) (Lowers d) (grow t d) (λ f h. inr (m.lines, h))
    (keeps_grown AnyRefusal (λ n h. tt) k (Few k) (Few (k + 1)) (few_stable k) (few_stable (k + 1)) t
    (λ f h. (long_joined k t f h.0, h.1)) d (refl, few)))

-- what every turn lowers
unfoldable pub weight : State → ℕ
weight d = (most_lines - length d.lines) * (most_waiting + 1) + length d.waiting

-- a turn that goes on leaves a lighter state, with no more than 2,048 entries
abbrev pub Falls : State → Result Turned → Type 0
Falls d (answered over) = Unit {0}
Falls d (answered (going e)) = (weight e < weight d) × (length e.waiting ≤ most_waiting)
Falls d (refused n p) = Unit {0}

module _ (s : Sheet) (ts : List Line) where
  taken_falls : (e : Entry) (es : List Entry) (x : Result State) → length (e ∷ es) ≤ most_waiting → Keeps AnyRefusal (Lowers (record { lines = ts; waiting = es })) x
      → Falls (record { lines = ts; waiting = e ∷ es }) (on_answer x (λ d. answered (going d)))
  unfolding weight
  taken_falls e es (answered d) h (inl q) =
      let l : length d.lines ≡ length ts = ap (λ (x : State). length x.lines) q in
      let m : length d.waiting ≡ length es = ap (λ (x : State). length x.waiting) q in
      (rw (l, m) (omega arith), omega arith)
  taken_falls e es (answered d) h (inr (a, b)) = (rw b.0 (omega arith), b.1)
  taken_falls e es (refused n p) h l = tt

  oldest_falls : (es : List Entry) → length es ≤ most_waiting → Falls (record { lines = ts; waiting = es }) (take_oldest s ts es)
  oldest_falls [] h = tt
  oldest_falls (e ∷ es) h =
      taken_falls e es (treat s (record { lines = ts; waiting = es }) e) h (lowers_treated s (record { lines = ts; waiting = es }) e (omega arith))

pub turn_falls : (s : Sheet) (d : State) → length d.waiting ≤ most_waiting → Falls d (turn_of s d)
unfolding turn_of
turn_falls s d h = oldest_falls s d.lines d.waiting h

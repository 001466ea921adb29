-- The new line: the limits in the definition's order, with the numbers that the state has; then the lineage is noted, which leaves the state as it is,
-- and the line that joins has it.
use Prim.Native.Nat.{ℕ, ◌+◌, ◌≤◌, ◌<◌}
use Rattle.std.specs.Prelude.{Err}
use Rattle.std.specs.Prelude.{Result as Outcome}
use Rattle.words.specs.declared.refusals.Refusal.{Refusal}
use Rattle.words.specs.declared.refusals.Refusal.TheVariants.{LongSide, ManyLines, ManySteps}
use mathlib.Core.Path.{◌≡◌, refl, sym, ◌∙◌}
use mathlib.Core.List.{List}
use mathlib.Core.Bool.{Bool}
use borrow.Author.Tests.{le-leb, lt-leb, lt-ltb, le-ltb}
use lib.ListN.{length}
use Rattle.words.specs.Word.{Word}
use Rattle.rewriting.specs.Search.{Rule}
use Rattle.rewriting.specs.Normal.{own_allowance}
use Rattle.rewriting.specs.Sheet.{side_limit, Step, rules_of}
use Rattle.rewriting.proofs.BoundedLaws.{answered_runs}
use Rattle.workspace.specs.Waiting.{new_line}
use Rattle.workspace.specs.Areas.{most_lines, most_steps}
use Rattle.workspace.specs.Work.{steps_noted}
use Rattle.workspace.specs.Desk.{state, Makes}
use Rattle.workspace.specs.declared.Entry.{Entry}
use Rattle.workspace.specs.declared.desk.Desk.{Desk}
use Rattle.workspace.proofs.StateLaws.{lines_counted, steps_counted}
use Rattle.new_lines.specs.NewLine.{grow, make_line}
use Rattle.lineage.specs.Lineage.{across, steps_down, lineage}
use Rattle.lineage.specs.Noting.{middle, Replays, Traces}
use Rattle.lineage.proofs.ReplayLaws.{normal_replays}
use Rattle.lineage.proofs.TraceLaws.{lineage_long}
use Rattle.turns.specs.Outcomes.{Settled, Reaches, counted, chain}
use Rattle.turns.specs.declared.Reduced.{Reduced}

-- the replacements that led to a normal word can be made again, and they are few
module _ (rs : List Rule) (x : Reduced) (r : Reaches rs x) where
  pub reaches_few : x.count ≤ 4096
  reaches_few = (answered_runs rs own_allowance x.word.now (counted x) r).2

  pub reaches_replays : Replays rs x.count x.word.now
  reaches_replays = normal_replays rs own_allowance x.word.now x.normal.now x.count r

  pub replays_there : (one : Word) (i : ℕ) → one ≡ x.word.now → i ≡ x.count → Replays rs i one
  replays_there one i eo ei = rw (eo, ei) reaches_replays

-- a line that joins with the steps that were noted
joined_with : (d h e : Desk) (left right : Word) (k l s : ℕ) (ss : List Step) (r : Outcome (Unit {0}) Refusal) → Traces d h ss → length ss ≡ k
    → Makes h l s e r (grow (new_line left right (steps_noted h.work.now h.nums.steps k)) (state h))
    → Settled d e r (grow (new_line left right ss) (state d))
joined_with d h e left right k l s ss r t q o =
    let steps : steps_noted h.work.now h.nums.steps k ≡ ss = rw (← q, t.nums) t.traced.read in
    record {
      told = o.does.told ∙ rw (steps, t.nums, t.traced.state);
      size = o.does.size ∙ t.traced.size;
      past = o.does.past ∙ t.traced.past;
      held = o.held ∙ t.held;
    }

module _ (d : Desk) (cited : ℕ) (e : Entry) (back : Bool) (x y : Reduced) where
  abbrev steps : List Step
  steps = chain cited (rules_of (state d).lines) e back x y

  module _ (a : Reaches (rules_of (state d).lines) x) (b : Reaches (rules_of (state d).lines) y) where
    chain_long : length steps ≡ x.count + (length (across 0 e) + y.count)
    chain_long = lineage_long (rules_of (state d).lines) cited e back x.word.now x.count y.word.now y.count
        (reaches_replays (rules_of (state d).lines) x a) (reaches_replays (rules_of (state d).lines) y b)

    pub joined_traced : (h z : Desk) (one other u v : Word) (i j k : ℕ) (r : Outcome (Unit {0}) Refusal) → one ≡ x.word.now → other ≡ y.word.now
        → u ≡ x.normal.now → v ≡ y.normal.now → i ≡ x.count → j ≡ y.count → k ≡ x.count + (length (across 0 e) + y.count)
        → Traces d h (lineage (steps_down cited (rules_of (state d).lines) i one) (middle back cited e) (steps_down cited (rules_of (state d).lines) j other))
        → Makes h (h.nums.lines + 1) (h.nums.steps + k) z r (grow (new_line u v (steps_noted h.work.now h.nums.steps k)) (state h))
        → Settled d z r (grow (new_line x.normal.now y.normal.now steps) (state d))
    joined_traced h z one other u v i j k r eo et eu ev ei ej q t o =
        joined_with d h z x.normal.now y.normal.now k (h.nums.lines + 1) (h.nums.steps + k) steps r (rw (eo, et, ei, ej) at t) (chain_long ∙ sym q) (rw (eu, ev) at o)

    -- within the limits
    module _ (m i j : ℕ) (q : m ≡ length (across 0 e)) (ei : i ≡ x.count) (ej : j ≡ y.count) (a₁ a₂ : ℕ) (e₁ : a₁ ≡ length x.normal.now)
        (e₂ : a₂ ≡ length y.normal.now) (l₁ : a₁ ≤ side_limit) (s₁ : a₂ ≤ side_limit) (h : d.nums.lines < most_lines) where
      l : length x.normal.now ≤ side_limit
      l = rw (← e₁) l₁

      s : length y.normal.now ≤ side_limit
      s = rw (← e₂) s₁

      pub too_many_steps : most_steps < d.nums.steps + (i + (m + j)) → Settled d d (Err ManySteps) (make_line (new_line x.normal.now y.normal.now steps) (state d))
      unfolding make_line
      too_many_steps f = record {
        told = rw (
          le-leb (length x.normal.now) side_limit l,
          le-leb (length y.normal.now) side_limit s,
          lines_counted d.work.now d.nums,
          lt-ltb d.nums.lines most_lines h,
          steps_counted d.work.now d.nums d.good,
          chain_long,
          lt-leb (d.nums.steps + (x.count + (length (across 0 e) + y.count))) most_steps (rw (← q, ← ei, ← ej) f),
        );
        size = refl;
        past = refl;
        held = refl;
      }

      pub line_made : (z : Desk) (r : Outcome (Unit {0}) Refusal) → d.nums.steps + (i + (m + j)) ≤ most_steps
          → Settled d z r (grow (new_line x.normal.now y.normal.now steps) (state d))
          → Settled d z r (make_line (new_line x.normal.now y.normal.now steps) (state d))
      unfolding make_line
      line_made z r f o = rw (
        le-leb (length x.normal.now) side_limit l,
        le-leb (length y.normal.now) side_limit s,
        lines_counted d.work.now d.nums,
        lt-ltb d.nums.lines most_lines h,
        steps_counted d.work.now d.nums d.good,
        chain_long,
        le-leb (d.nums.steps + (x.count + (length (across 0 e) + y.count))) most_steps (rw (← q, ← ei, ← ej) f),
      ) o

  -- beyond the limits
  module _ (a : ℕ) (ea : a ≡ length x.normal.now) where
    pub left_over : side_limit < a → Settled d d (Err LongSide) (make_line (new_line x.normal.now y.normal.now steps) (state d))
    unfolding make_line
    left_over h = record { told = rw (lt-leb (length x.normal.now) side_limit (rw (← ea) h)); size = refl; past = refl; held = refl }

    module _ (b : ℕ) (eb : b ≡ length y.normal.now) (l : a ≤ side_limit) where
      within : length x.normal.now ≤ side_limit
      within = rw (← ea) l

      pub right_over : side_limit < b → Settled d d (Err LongSide) (make_line (new_line x.normal.now y.normal.now steps) (state d))
      unfolding make_line
      right_over h = record {
        told = rw (le-leb (length x.normal.now) side_limit within, lt-leb (length y.normal.now) side_limit (rw (← eb) h));
        size = refl;
        past = refl;
        held = refl;
      }

      pub too_many_lines : b ≤ side_limit → most_lines ≤ d.nums.lines
          → Settled d d (Err ManyLines) (make_line (new_line x.normal.now y.normal.now steps) (state d))
      unfolding make_line
      too_many_lines s h = record {
        told = rw (
          le-leb (length x.normal.now) side_limit within,
          le-leb (length y.normal.now) side_limit (rw (← eb) s),
          lines_counted d.work.now d.nums,
          le-ltb d.nums.lines most_lines h,
        );
        size = refl;
        past = refl;
        held = refl;
      }

-- Overlaps join those that wait, place by place and line by line, as the definitions say.
use Prim.Native.Nat.{ℕ}
use Rattle.std.specs.Prelude.{Ok, Err}
use Rattle.std.specs.Prelude.{Result as Outcome}
use Rattle.words.specs.declared.refusals.Refusal.{Refusal}
use mathlib.Core.Path.{◌≡◌}
use mathlib.Core.Bool.{Bool, true, false}
use lib.ListN.{length}
use Rattle.words.specs.Counting.{in_turn}
use Rattle.words.specs.Word.{Word}
use Rattle.rewriting.specs.Pairs.{is_pair}
use Rattle.rewriting.specs.Sheet.{line_at}
use Rattle.workspace.specs.Waiting.{append}
use Rattle.workspace.specs.Desk.{state, Leaves}
use Rattle.workspace.specs.declared.Entry.TheVariants.{OfOverlap}
use Rattle.workspace.specs.declared.desk.Desk.{Desk}
use Rattle.workspace.proofs.DeskLaws.{makes_nothing, makes_same, makes_refused}
use Rattle.new_lines.specs.NewLine.{overlap_at, overlaps_of, overlaps_with, overlaps_of_new}

module _ (d : Desk) (n m k : ℕ) (t : Bool) where
  pub overlap_none : t ≡ is_pair n m k (line_at (state d).lines n).left (line_at (state d).lines m).left → t ≡ false
      → Leaves d d (Ok tt) (overlap_at n m k (state d))
  unfolding overlap_at
  overlap_none e f = rw (← e, f) (makes_nothing d)

  pub overlap_one : (e : Desk) (r : Outcome (Unit {0}) Refusal) → t ≡ is_pair n m k (line_at (state d).lines n).left (line_at (state d).lines m).left → t ≡ true
      → Leaves d e r (append (OfOverlap (record { n = n; m = m; place = k })) (state d))
      → Leaves d e r (overlap_at n m k (state d))
  unfolding overlap_at
  overlap_one e r q f o = rw (← q, f) o

pub overlaps_all : (d e : Desk) (n m : ℕ) (l : Word) (r : Outcome (Unit {0}) Refusal) → l ≡ (line_at (state d).lines n).left
    → Leaves d e r (in_turn (overlap_at n m) 0 (length l) (state d)) → Leaves d e r (overlaps_of n m (state d))
unfolding overlaps_of
overlaps_all d e n m l r q o = rw (← q) o

module _ (d : Desk) (new m : ℕ) (s : Bool) where
  pub with_none : s ≡ (line_at (state d).lines m).stands → s ≡ false → Leaves d d (Ok tt) (overlaps_with new m (state d))
  unfolding overlaps_with
  with_none e f = rw (← e, f) (makes_nothing d)

  pub with_both : (e h : Desk) (r : Outcome (Unit {0}) Refusal) → s ≡ (line_at (state d).lines m).stands → s ≡ true
      → Leaves d e (Ok tt) (overlaps_of new m (state d)) → Leaves e h r (overlaps_of m new (state e))
      → Leaves d h r (overlaps_with new m (state d))
  unfolding overlaps_with
  with_both e h r q f o p = rw (← q, f)
      (makes_same d e h d.nums.lines d.nums.steps r (overlaps_of new m (state d)) (overlaps_of m new) o p)

  pub with_refused : (e : Desk) (a : Refusal) → s ≡ (line_at (state d).lines m).stands → s ≡ true
      → Leaves d e (Err a) (overlaps_of new m (state d)) → Leaves d e (Err a) (overlaps_with new m (state d))
  unfolding overlaps_with
  with_refused e a q f o = rw (← q, f)
      (makes_refused d e d.nums.lines d.nums.steps d.nums.lines d.nums.steps a (overlaps_of new m (state d)) (overlaps_of m new) o)

module _ (d e : Desk) (new : ℕ) where
  pub new_all : (h : Desk) (r : Outcome (Unit {0}) Refusal) → Leaves d e (Ok tt) (in_turn (overlaps_with new) 0 new (state d))
      → Leaves e h r (overlaps_of new new (state e)) → Leaves d h r (overlaps_of_new new (state d))
  unfolding overlaps_of_new
  new_all h r o q = makes_same d e h d.nums.lines d.nums.steps r (in_turn (overlaps_with new) 0 new (state d)) (overlaps_of new new) o q

  pub new_refused : (a : Refusal) → Leaves d e (Err a) (in_turn (overlaps_with new) 0 new (state d))
      → Leaves d e (Err a) (overlaps_of_new new (state d))
  unfolding overlaps_of_new
  new_refused a o = makes_refused d e d.nums.lines d.nums.steps d.nums.lines d.nums.steps a (in_turn (overlaps_with new) 0 new (state d)) (overlaps_of new new) o

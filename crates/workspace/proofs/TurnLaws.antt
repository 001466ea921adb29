-- Functions that change the state, one after the other. A loop over numbers keeps that the rest of the numbers, from the state as it is, give what
-- all of them give from the state as it was; a refusal ends it. What one function leaves, the next one starts from.
use Prim.Native.Nat.{ℕ, suc, ◌+◌, ◌-◌, ◌≤◌, ◌<◌}
use mathlib.Core.Path.{◌≡◌, refl, sym, ◌∙◌, ap}
use mathlib.Core.List.{List}
use Rattle.std.specs.Prelude.{Ok, Err}
use Rattle.std.specs.Prelude.{Result as Outcome}
use native.Mathlib.Omega.{arith}
use lib.ListN.{length, drop}
use Rattle.words.specs.Refusal.{Result, answered, on_answer}
use Rattle.words.specs.Counting.{in_turn}
use Rattle.words.specs.declared.refusals.Refusal.{Refusal}
use Rattle.workspace.specs.Waiting.{State}
use Rattle.workspace.specs.Areas.{work_room, step_area}
use Rattle.workspace.specs.Work.{state_of, Good, Does}
use Rattle.workspace.specs.declared.Nums.{Nums}

pub does_nothing : (w : List ℕ) (n : Nums) → Good w n → Does w n.lines n.steps w (Ok n) (answered (state_of w n))
does_nothing w n g = record { told = refl; good = g; many = refl; made = refl; same = refl; size = refl; past = refl }

-- one function after the other
pub then_on : (w v u : List ℕ) (k s l t : ℕ) (r : Outcome Nums Refusal) (n : Nums) (x : Result State) (g : State → Result State)
    → Does w k s v (Ok n) x → Does v l t u r (g (state_of v n)) → Does w l t u r (on_answer x g)
then_on w v u k s l t r n x g o f = record {
  told = f.told ∙ ap (λ (y : Result State). on_answer y g) o.told;
  good = f.good;
  many = f.many;
  made = f.made;
  same = f.same ∙ o.same;
  size = f.size ∙ o.size;
  past = f.past ∙ o.past;
}

-- where neither makes a line
pub then_same : (w v u : List ℕ) (k s : ℕ) (r : Outcome Nums Refusal) (n : Nums) (x : Result State) (g : State → Result State)
    → Does w k s v (Ok n) x → Does v n.lines n.steps u r (g (state_of v n)) → Does w k s u r (on_answer x g)
then_same w v u k s r n x g o f = rw (o.many, o.made) at (then_on w v u k s n.lines n.steps r n x g o f)

pub then_refused : (w v : List ℕ) (k s l t : ℕ) (f : Refusal) (x : Result State) (g : State → Result State) → Does w k s v (Err f) x
    → Does w l t v (Err f) (on_answer x g)
then_refused w v k s l t f x g o = record {
  told = ap (λ (y : Result State). on_answer y g) o.told;
  good = tt;
  many = tt;
  made = tt;
  same = o.same;
  size = o.size;
  past = o.past;
}

-- from the buffer u with the numbers m, the numbers before j are gone through
pub record Through (f : ℕ → State → Result State) (u : List ℕ) (m : Nums) (n : ℕ) (w : List ℕ) (at : Nums) (j : ℕ) : Type 0 where
  pub within : j ≤ n
  pub good : Good w at
  pub many : at.lines ≡ m.lines
  pub made : at.steps ≡ m.steps
  pub same : step_area w ≡ step_area u
  pub size : length w ≡ length u
  pub past : drop work_room w ≡ drop work_room u
  pub told : in_turn f 0 n (state_of u m) ≡ in_turn f j (n - j) (state_of w at)

module _ (f : ℕ → State → Result State) (u : List ℕ) (m : Nums) (n : ℕ) where
  pub through_start : Good u m → Through f u m n u m 0
  through_start g = record {
    within = omega arith;
    good = g;
    many = refl;
    made = refl;
    same = refl;
    size = refl;
    past = refl;
    told = let e : n - 0 ≡ n = omega arith in rw e;
  }

  -- what is left, with the number j first
  here : (w : List ℕ) (at : Nums) (j : ℕ) → Through f u m n w at j → j < n
      → in_turn f 0 n (state_of u m) ≡ on_answer (f j (state_of w at)) (λ t. in_turn f (j + 1) (n - (j + 1)) t)
  unfolding in_turn
  here w at j i l = let e : n - j ≡ suc (n - (j + 1)) = omega arith in i.told ∙ rw e

  pub through_next : (w v : List ℕ) (at next : Nums) (j : ℕ) → Through f u m n w at j → j < n
      → Does w at.lines at.steps v (Ok next) (f j (state_of w at)) → Through f u m n v next (j + 1)
  through_next w v at next j i l o = record {
    within = omega arith;
    good = o.good;
    many = o.many ∙ i.many;
    made = o.made ∙ i.made;
    same = o.same ∙ i.same;
    size = o.size ∙ i.size;
    past = o.past ∙ i.past;
    told = here w at j i l ∙ rw (← o.told);
  }

  pub through_refused : (w v : List ℕ) (at : Nums) (j : ℕ) (x : Refusal) → Through f u m n w at j → j < n
      → Does w at.lines at.steps v (Err x) (f j (state_of w at)) → Does u m.lines m.steps v (Err x) (in_turn f 0 n (state_of u m))
  through_refused w v at j x i l o = record {
    told = sym (here w at j i l ∙ rw (← o.told));
    good = tt;
    many = tt;
    made = tt;
    same = o.same ∙ i.same;
    size = o.size ∙ i.size;
    past = o.past ∙ i.past;
  }

  pub through_end : (w : List ℕ) (at : Nums) (j : ℕ) → Through f u m n w at j → n ≤ j → Does u m.lines m.steps w (Ok at) (in_turn f 0 n (state_of u m))
  unfolding in_turn
  through_end w at j i l = record {
    told = let e : n - j ≡ 0 = omega arith in sym (i.told ∙ rw e);
    good = i.good;
    many = i.many;
    made = i.made;
    same = i.same;
    size = i.size;
    past = i.past;
  }

-- The two normal words, then the comparison. A refusal passes on; a normal word goes on with its count.
use Prim.Native.Nat.{ℕ, Ordering}
use Rattle.std.specs.Prelude.{Ok, Err}
use Rattle.std.specs.Prelude.{Result as Outcome}
use Rattle.words.specs.declared.refusals.Refusal.{Refusal}
use Rattle.words.specs.declared.refusals.Refusal.TheVariants.{Unordered}
use mathlib.Core.Path.{◌≡◌, refl, sym}
use mathlib.Core.List.{List}
use mathlib.Core.Bool.{Bool, true, false}
use Rattle.words.specs.Word.{Word}
use Rattle.words.specs.Refusal.{Result, answered}
use Rattle.words.specs.Order.{order_by}
use Rattle.words.specs.declared.Order.{Order}
use Rattle.rewriting.specs.Search.{Rule}
use Rattle.rewriting.specs.Normal.{normal_of, own_allowance}
use Rattle.rewriting.specs.Sheet.{rules_of}
use Rattle.rewriting.specs.Steps.{same_word}
use Rattle.workspace.specs.Waiting.{State, new_line}
use Rattle.workspace.specs.Desk.{state}
use Rattle.workspace.specs.declared.Entry.{Entry}
use Rattle.workspace.specs.declared.desk.Desk.{Desk}
use Rattle.new_lines.specs.NewLine.{make_line}
use Rattle.turns.specs.Turn.{orient, settle}
use Rattle.turns.specs.Outcomes.{Settled, counted, chain}
use Rattle.reducing.specs.Answers.{reached_as}
use Rattle.turns.specs.declared.Reduced.{Reduced}

-- by the comparison
module _ (d : Desk) (order : Order) (cited : ℕ) (e : Entry) (x y : Reduced) (u v : Word) (eu : u ≡ x.normal.now)
    (ev : v ≡ y.normal.now) (t : Bool) (q : t ≡ same_word u v) where
  abbrev oriented : Result State
  oriented = orient order cited (state d) e (record { first = x.word.now; second = y.word.now }) (counted x) (counted y)

  same : same_word x.normal.now y.normal.now ≡ t
  same = rw (← eu, ← ev) (sym q)

  ordered : (o : Ordering) → o ≡ order_by order u v → order_by order x.normal.now y.normal.now ≡ o
  ordered o p = rw (← eu, ← ev) (sym p)

  pub orient_same : t ≡ true → Settled d d (Ok tt) oriented
  unfolding orient
  orient_same h = rw (same, h) (record { told = refl; size = refl; past = refl; held = refl })

  module _ (f : t ≡ false) where
    pub orient_less : (z : Desk) (r : Outcome (Unit {0}) Refusal) → Ordering.lt ≡ order_by order u v
        → Settled d z r (make_line (new_line y.normal.now x.normal.now (chain cited (rules_of (state d).lines) e true y x)) (state d))
        → Settled d z r oriented
    unfolding orient
    orient_less z r o s = rw (same, f, ordered Ordering.lt o) s

    pub orient_none : Ordering.eq ≡ order_by order u v → Settled d d (Err Unordered) oriented
    unfolding orient
    orient_none o = record { told = rw (same, f, ordered Ordering.eq o); size = refl; past = refl; held = refl }

    pub orient_greater : (z : Desk) (r : Outcome (Unit {0}) Refusal) → Ordering.gt ≡ order_by order u v
        → Settled d z r (make_line (new_line x.normal.now y.normal.now (chain cited (rules_of (state d).lines) e false x y)) (state d))
        → Settled d z r oriented
    unfolding orient
    orient_greater z r o s = rw (same, f, ordered Ordering.gt o) s

-- a word that was reduced
pub reaches : (rs : List Rule) (u : Word) (k : ℕ) (v : Word) → reached_as (Ok k) v ≡ normal_of rs own_allowance u
    → normal_of rs own_allowance u ≡ answered (record { word = v; count = k })
reaches rs u k v h = sym h

-- the two normal words
module _ (d : Desk) (order : Order) (cited : ℕ) (e : Entry) (first second : Word) where
  abbrev all : Result State
  all = settle order cited (state d) e (record { first = first; second = second })

  pub first_refused : (f : Refusal) (x : Word) → reached_as (Err f) x ≡ normal_of (rules_of (state d).lines) own_allowance first → Settled d d (Err f) all
  unfolding settle
  first_refused f x l = record { told = rw (← l); size = refl; past = refl; held = refl }

  module _ (i : ℕ) (x : Word) (l : reached_as (Ok i) x ≡ normal_of (rules_of (state d).lines) own_allowance first) where
    pub second_refused : (f : Refusal) (y : Word) → reached_as (Err f) y ≡ normal_of (rules_of (state d).lines) own_allowance second → Settled d d (Err f) all
    unfolding settle
    second_refused f y m = record { told = rw (← l, ← m); size = refl; past = refl; held = refl }

    pub both_reached : (j : ℕ) (y : Word) (z : Desk) (r : Outcome (Unit {0}) Refusal) → reached_as (Ok j) y ≡ normal_of (rules_of (state d).lines) own_allowance second
        → Settled d z r (orient order cited (state d) e (record { first = first; second = second })
        (record { word = x; count = i }) (record { word = y; count = j }))
        → Settled d z r all
    unfolding settle
    both_reached j y z r m o = rw (← l, ← m) o

-- The oldest entry is taken and treated: its two words are settled on the state without it.
use Prim.Native.Nat.{ℕ}
use Rattle.std.specs.Prelude.{None, Some, Ok, Err}
use Rattle.std.specs.Prelude.{Result as Outcome}
use Rattle.words.specs.declared.refusals.Refusal.{Refusal}
use mathlib.Core.Path.{◌≡◌, refl, sym, ◌∙◌, ap}
use mathlib.Core.List.{List}
use mathlib.Core.Bool.{true, false}
use lib.ListN.{length, drop}
use Rattle.words.specs.Word.{Word}
use Rattle.words.specs.Refusal.{Result, answered, on_answer}
use Rattle.words.specs.declared.Order.{Order}
use Rattle.rewriting.specs.Sheet.{Equation}
use Rattle.workspace.specs.Areas.{work_room}
use Rattle.workspace.specs.Waiting.{State, two_words}
use Rattle.workspace.specs.Desk.{state, Pops, done_as}
use Rattle.workspace.specs.declared.Entry.{Entry}
use Rattle.workspace.specs.declared.desk.Desk.{Desk}
use Rattle.turns.specs.Turn.{going, settle, treat, turn_of}
use Rattle.turns.specs.Outcomes.{sheet_in, Settled, TurnMade}

pub treated : (d e : Desk) (order : Order) (es : List Equation) (k : ℕ) (x : Entry) (b c : Word) (r : Outcome (Unit {0}) Refusal)
    → b ≡ (two_words es (state d).lines x).first → c ≡ (two_words es (state d).lines x).second
    → Settled d e r (settle order k (state d) x (record { first = b; second = c }))
    → Settled d e r (settle order k (state d) x (two_words es (state d).lines x))
treated d e order es k x b c r f g s = rw (f, g) at s

module _ (d h : Desk) (order : Order) (es : List Equation) where
  same_past : h.work.now ≡ d.work.now → drop work_room h.work.now ≡ drop work_room d.work.now
  same_past b = ap (λ (w : List ℕ). drop work_room w) b

  pub turn_over : Pops d h None → TurnMade order es d h (Ok false)
  unfolding turn_of
  turn_over t = record {
    told = λ letters. rw (← t.takes.told);
    keeps = λ q. t.stays refl;
    size = ap length t.bytes;
    past = same_past t.bytes;
    held = t.held;
  }

  module _ (x : Entry) (k : ℕ) (ek : length es ≡ k) (t : Pops d h (Some x)) (e : Desk) where
    treated_turn : (r : Outcome (Unit {0}) Refusal) → Settled h e r (settle order k (state h) x (two_words es (state h).lines x))
        → (letters : ℕ) → turn_of (sheet_in order letters es) (state d) ≡ on_answer (done_as r e) (λ s. answered (going s))
    unfolding turn_of treat
    treated_turn r o letters = rw (← t.takes.told, ← t.bytes, ek) (ap (λ (y : Result State). on_answer y (λ s. answered (going s))) (sym o.told))

    pub turn_going : Settled h e (Ok tt) (settle order k (state h) x (two_words es (state h).lines x)) → TurnMade order es d e (Ok true)
    turn_going o = record {
      told = λ letters. sym (treated_turn (Ok tt) o letters);
      keeps = λ q. absurd (cc q);
      size = o.size ∙ ap length t.bytes;
      past = o.past ∙ same_past t.bytes;
      held = o.held ∙ t.held;
    }

    pub turn_refused : (f : Refusal) → Settled h e (Err f) (settle order k (state h) x (two_words es (state h).lines x)) → TurnMade order es d e (Err f)
    turn_refused f o = record {
      told = λ letters. sym (treated_turn (Err f) o letters);
      keeps = λ q. absurd (cc q);
      size = o.size ∙ ap length t.bytes;
      past = o.past ∙ same_past t.bytes;
      held = o.held ∙ t.held;
    }

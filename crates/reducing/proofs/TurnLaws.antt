-- One turn, and the turns one after the other. Whatever the turns before were, the answer is that of the word that they left, with the allowance
-- that is left.
use Prim.Native.Nat.{ℕ, suc, ◌+◌, ◌-◌, ◌≤◌, ◌<◌}
use mathlib.Core.Path.{◌≡◌, refl, sym, ◌∙◌}
use mathlib.Core.Bool.{Bool, true, false, cond, true≢false}
use mathlib.Core.List.{List}
use native.Mathlib.Omega.{arith}
use native.Mathlib.Decide.{dec_lt}
use Rattle.std.proofs.Common.{Option, None, Some, Ok, Err}
use Rattle.std.proofs.Common.{Result as Outcome}
use borrow.Author.Tests.{lt-ltb, le-ltb, ltb-true, lt-leb, le-leb}
use mir.Syntax.{w16}
use mir.Val.{Fits}
use mir.Facts.{Fits-le}
use lib.Dec.{ltb}
use lib.ListN.{length}
use Rattle.words.specs.Word.{Word}
use Rattle.words.specs.Refusal.{Result, answered, refused, on_answer}
use Rattle.words.specs.Answer.{refused_by}
use Rattle.words.specs.declared.refusals.Refusal.{Refusal}
use Rattle.words.specs.declared.refusals.Refusal.TheVariants.{Spent, Long}
use Rattle.rewriting.specs.Search.{Rule, Due, nothing, due, search}
use Rattle.rewriting.specs.Normal.{WordTurn, irreducible, spent, long, next, word_turn_by, word_turn, on_word_turn, normal_from, normal_of, Counted}
use Rattle.rewriting.specs.Standing.{replace_at}
use Rattle.rewriting.specs.Search.{after}
use Rattle.rewriting.proofs.ReplacingLaws.{replaced_long}
use Rattle.reducing.proofs.SearchingLaws.{found_inside}
use Rattle.layout.specs.Slices.{rules_in, rule_by, line_left, line_right}
use Rattle.reducing.specs.Answers.{due_as, turn_result, word_turn_as, WordTurnMade}
use Rattle.rewriting.specs.declared.Found.{Found}

-- a turn goes by what the search finds
module _ (recs words : List ℕ) (n : ℕ) (w : Word) (spare : Bool) where
  pub turn_none : due_as recs words None ≡ search (rules_in recs words 0 n) w → WordTurnMade (word_turn (rules_in recs words 0 n) spare w) (Ok false) w w
  unfolding word_turn
  turn_none e = record { told = rw (← e); keeps = λ _. refl }

  module _ (f : Found) (e : due_as recs words (Some f) ≡ search (rules_in recs words 0 n) w) where
    pub turn_spent : spare ≡ false → WordTurnMade (word_turn (rules_in recs words 0 n) spare w) (Err Spent) w w
    unfolding word_turn
    turn_spent h = record { told = rw (← e, h); keeps = λ _. refl }

    module _ (l r : Word) (el : l ≡ line_left recs words f.line) (er : r ≡ line_right recs words f.line) where
      pub turn_inside : f.place + length l ≤ length w
      turn_inside = rw el (found_inside recs words n w f.place f.line e)

      -- the new word's length, before it is made
      new_long : length (after w f.place (rule_by recs words f.line)) ≡ length w - length l + length r
      new_long = rw (← el, ← er) (omega (arith, replaced_long w r w f.place (length l) turn_inside, turn_inside))

      module _ (h : spare ≡ true) where
        pub turn_long : 128 < length w - length l + length r → WordTurnMade (word_turn (rules_in recs words 0 n) spare w) (Err Long) w w
        unfolding word_turn
        turn_long k = record { told = rw (← e, h, new_long, lt-leb (length w - length l + length r) 128 k); keeps = λ _. refl }

        pub turn_replaced : (v : Word) → length w - length l + length r ≤ 128 → v ≡ replace_at w f.place (length l) r
            → WordTurnMade (word_turn (rules_in recs words 0 n) spare w) (Ok true) w v
        unfolding word_turn
        turn_replaced v k q = record { told = rw (← e, h, new_long, le-leb (length w - length l + length r) 128 k, q, el, er); keeps = λ z. absurd (true≢false (cc)) }

-- the turns after k replacements, from the word v on
unfoldable pub Onward : List Rule → ℕ → Word → ℕ → Word → Type 0
Onward rs a w k v = normal_of rs a w ≡ normal_from rs (a - k) k v

pub onward_start : (rs : List Rule) (a : ℕ) (w : Word) → Onward rs a w 0 w
unfolding Onward normal_of
onward_start rs a w = let e : a - 0 ≡ a = omega arith in rw e

-- a turn with no allowance left replaces nothing
spent_stays : (rs : List Rule) (v x : Word) (s : Bool) → answered (Some x) ≡ turn_result (word_turn rs s v) → s ≡ true
unfolding word_turn
spent_stays rs v x true e = refl
spent_stays rs v x false e = go (search rs v) e
  where
    go : (d : Due) → answered (Some x) ≡ turn_result (word_turn_by d false v) → false ≡ true
    go nothing f = cc
    go (due p r) f = cc

-- the definition at a turn
turn_next_from : (rs : List Rule) (a k : ℕ) (v : Word) → k ≤ a
    → normal_from rs (a - k) k v
    ≡ on_word_turn (word_turn rs (ltb k a) v) (answered (record { word = v; count = k })) (λ x. cond (ltb k a) (normal_from rs (a - (k + 1)) (k + 1) x) (refused 5 0))
unfolding normal_from
turn_next_from rs a k v h = go (dec_lt k a)
  where
    go : Dec (k < a)
        → normal_from rs (a - k) k v
        ≡ on_word_turn (word_turn rs (ltb k a) v) (answered (record { word = v; count = k })) (λ x. cond (ltb k a) (normal_from rs (a - (k + 1)) (k + 1) x) (refused 5 0))
    go (yes l) = let e : a - k ≡ suc (a - (k + 1)) = omega arith in rw (e, lt-ltb k a l)
    go (no l) = let e : a - k ≡ 0 = omega arith in rw (e, le-ltb k a (omega arith))

-- what follows a turn, by its answer
onward_by : {A : Type 0} → Result A → (Word → Result A) → Option Word → Result A
onward_by still on None = still
onward_by still on (Some v) = on v

turn_answered : {A : Type 0} (x : WordTurn) (still : Result A) (on : Word → Result A) → on_word_turn x still on ≡ on_answer (turn_result x) (onward_by still on)
unfolding onward_by
turn_answered irreducible still on = refl
turn_answered spent still on = refl
turn_answered long still on = refl
turn_answered (next v) still on = refl

module _ (rs : List Rule) (a : ℕ) (w : Word) (k : ℕ) (u v : Word) (s : Onward rs a w k u) (few : k ≤ a) where
  after_turn : Word → Result Counted
  after_turn x = cond (ltb k a) (normal_from rs (a - (k + 1)) (k + 1) x) (refused 5 0)

  onward_next : (made : Outcome Bool Refusal) → WordTurnMade (word_turn rs (ltb k a) u) made u v
      → normal_of rs a w ≡ on_answer (word_turn_as made v) (onward_by (answered (record { word = u; count = k })) after_turn)
  unfolding Onward after_turn
  onward_next made t =
      s ∙ turn_next_from rs a k u few ∙ rw t.told (turn_answered (word_turn rs (ltb k a) u) (answered (record { word = u; count = k })) after_turn)

  pub normal_reached : WordTurnMade (word_turn rs (ltb k a) u) (Ok false) u v → answered (record { word = v; count = k }) ≡ normal_of rs a w
  unfolding onward_by
  normal_reached t = let same : v ≡ u = t.keeps refl in rw same (sym (onward_next (Ok false) t))

  pub normal_refused : (f : Refusal) → WordTurnMade (word_turn rs (ltb k a) u) (Err f) u v → refused_by f ≡ normal_of rs a w
  normal_refused f t = sym (onward_next (Err f) t)

  module _ (t : WordTurnMade (word_turn rs (ltb k a) u) (Ok true) u v) where
    spare_left : ltb k a ≡ true
    spare_left = spent_stays rs u v (ltb k a) t.told

    pub allowance_left : k + 1 ≤ a
    allowance_left = omega (arith, ltb-true k a spare_left)

    pub allowance_falls : a - (k + 1) < a - k
    allowance_falls = omega (arith, allowance_left)

    pub count_fits : Fits w16 a → Fits w16 (k + 1)
    count_fits f = Fits-le allowance_left f

    pub onward_on : Onward rs a w (k + 1) v
    unfolding Onward onward_by after_turn
    onward_on = onward_next (Ok true) t ∙ rw spare_left

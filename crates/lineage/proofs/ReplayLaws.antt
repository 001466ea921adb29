-- A word reduced once more. The search in the desk's lines is the search by the standing lines of its state, and what a run to the normal word
-- replaced is due again, within 128 letters; so the steps down are as many as the replacements.
use Prim.Native.Nat.{ℕ, zero, suc, ◌+◌, ◌≤◌, ◌<◌}
use Rattle.std.proofs.Common.{Option, None, Some, IsSome}
use mathlib.Core.Path.{◌≡◌, refl, sym, ap, subst}
use mathlib.Core.List.{List, [], ◌∷◌}
use mathlib.Core.Bool.{Bool, false}
use native.Mathlib.Omega.{arith}
use lib.ListN.{length}
use Rattle.words.specs.Word.{Word}
use Rattle.words.specs.Refusal.{answered}
use Rattle.rewriting.specs.Standing.{replace_at}
use Rattle.rewriting.specs.Search.{Rule, Due, nothing, due, search, after}
use Rattle.rewriting.specs.Normal.{normal_of, Runs, halt, turn, Short}
use Rattle.rewriting.specs.Sheet.{rules_of}
use Rattle.rewriting.proofs.BoundedLaws.{answered_runs}
use Rattle.rewriting.proofs.ReplacingLaws.{replaced_long}
use Rattle.layout.specs.Slices.{rules_in, rule_by, line_left, line_right}
use Rattle.reducing.specs.Answers.{due_as}
use Rattle.rewriting.specs.declared.Found.{Found}
use Rattle.reducing.proofs.SearchingLaws.{found_line, found_inside}
use Rattle.workspace.specs.Desk.{state, Notes}
use Rattle.workspace.specs.declared.desk.Desk.{Desk}
use Rattle.lineage.specs.Lineage.{on_due, steps_down}
use Rattle.lineage.specs.Noting.{Followed, Replays, Replayed, DueNoted}

-- replacements that are due, one after the other
module _ (rs : List Rule) (w : Word) where
  pub replays_one : (k : ℕ) → Replays rs k w → 0 < k → Replays rs 1 w
  unfolding Replays
  replays_one zero h l = absurd (omega arith)
  replays_one (suc k) h l = go (search rs w) h
    where
      go : (d : Due) → Followed d (λ p r. (length (after w p r) ≤ 128) × Replays rs k (after w p r))
          → Followed d (λ p r. (length (after w p r) ≤ 128) × Unit {0})
      go nothing f = f
      go (due p r) f = (f.0, tt)

  replays_some : search rs w ≡ nothing → Replays rs 1 w → ⊥
  unfolding Replays
  replays_some e h = subst (λ (d : Due). Followed d (λ p r. (length (after w p r) ≤ 128) × Unit {0})) e h

  module _ (p : ℕ) (r : Rule) (e : search rs w ≡ due p r) where
    pub replays_next : (k m : ℕ) → k ≡ suc m → Replays rs k w → Replays rs m (after w p r)
    unfolding Replays
    replays_next k m q h =
        let f : Replays rs (suc m) w = rw q at h in
        (subst (λ (d : Due). Followed d (λ q r. (length (after w q r) ≤ 128) × Replays rs m (after w q r))) e f).1

    pub down_next : (cited k m : ℕ) → k ≡ suc m
        → steps_down cited rs k w ≡ record { reference = cited + r.line; back = false; place = p } ∷ steps_down cited rs m (after w p r)
    unfolding steps_down
    down_next cited k m q = rw (q, e)

pub down_long : (cited : ℕ) (rs : List Rule) (c : ℕ) (w : Word) → Replays rs c w → length (steps_down cited rs c w) ≡ c
unfolding steps_down Replays
down_long cited rs zero w h = refl
down_long cited rs (suc c) w h = go (search rs w) h (λ v g. down_long cited rs c v g)
  where
    go : (d : Due) → Followed d (λ p r. (length (after w p r) ≤ 128) × Replays rs c (after w p r))
        → ((v : Word) → Replays rs c v → length (steps_down cited rs c v) ≡ c)
        → length (on_due d [] (λ p r. record { reference = cited + r.line; back = false; place = p } ∷ steps_down cited rs c (after w p r))) ≡ suc c
    go nothing f later = absurd f
    go (due p r) f later = ap suc (later (after w p r) f.1)

-- a run to a normal word can be made again
run_replays : (rs : List Rule) (w z : Word) (c : ℕ) (t : Runs rs w z c) → Short t → Replays rs c w
unfolding Replays
run_replays rs w _ _ (halt e) s = tt
run_replays rs w z _ (turn {c = c} p r e t) s = rw e (s.0, run_replays rs (after w p r) z c t s.1)

pub normal_replays : (rs : List Rule) (a : ℕ) (w z : Word) (c : ℕ) → normal_of rs a w ≡ answered (record { word = z; count = c }) → Replays rs c w
normal_replays rs a w z c e =
    let t = answered_runs rs a w (record { word = z; count = c }) e in
    run_replays rs w z c t.0 t.1

-- the replacement due is made
module _ (recs words w : List ℕ) (n : ℕ) (f : Option Found) (e : due_as recs words f ≡ search (rules_in recs words 0 n) w) where
  -- where a replacement can be made one is found
  pub due_some : Replays (rules_in recs words 0 n) 1 w → IsSome f
  due_some h = go f e
    where
      go : (g : Option Found) → due_as recs words g ≡ search (rules_in recs words 0 n) w → IsSome g
      go None q = absurd (replays_some (rules_in recs words 0 n) w (sym q) h)
      go (Some d) q = refl

  module _ (d : Found) (g : f ≡ Some d) where
    due_found : due d.place (rule_by recs words d.line) ≡ search (rules_in recs words 0 n) w
    due_found = rw g at e

    pub due_line : d.line < n
    due_line = found_line recs words n w d.place d.line due_found

    pub due_inside : (l : Word) → l ≡ line_left recs words d.line → d.place + length l ≤ length w
    due_inside l q = rw q (found_inside recs words n w d.place d.line due_found)

    due_short : Replays (rules_in recs words 0 n) 1 w → length (after w d.place (rule_by recs words d.line)) ≤ 128
    unfolding Replays
    due_short h = (subst (λ (x : Due). Followed x (λ q r. (length (after w q r) ≤ 128) × Unit {0})) (sym due_found) h).0

    -- the words read are those of the line
    module _ (l r : Word) (el : l ≡ line_left recs words d.line) (er : r ≡ line_right recs words d.line) where
      pub due_room : Replays (rules_in recs words 0 n) 1 w → length w + length r ≤ 128 + length l
      due_room h =
          let s : length (replace_at w d.place (length l) r) ≤ 128 = rw (el, er) (due_short h) in
          omega (arith, s, due_inside l el, replaced_long w r w d.place (length l) (due_inside l el))

      pub due_made : (v : Word) → length w ≤ 128 → v ≡ replace_at w d.place (length l) r → Replayed (rules_in recs words 0 n) n w v d
      due_made v few h = record {
        rule = rule_by recs words d.line;
        found = sym due_found;
        line = refl;
        below = due_line;
        place = omega (arith, due_inside l el, few);
        word = rw (el, er) at h;
      }

-- the replacement made is noted
pub due_noted : (d e : Desk) (rs : List Rule) (n : ℕ) (w v : Word) (f : Found) (cited at : ℕ) (back : Bool) → rs ≡ rules_of (state d).lines → Replayed rs n w v f
    → Notes d at (record { reference = cited + f.line; back = back; place = f.place } ∷ []) e → DueNoted (rules_of (state d).lines) cited back at d e w v
due_noted d e rs n w v f cited at back q r h = record {
  place = f.place;
  rule = r.rule;
  found = rw q at r.found;
  step = rw r.line h;
  word = r.word;
}

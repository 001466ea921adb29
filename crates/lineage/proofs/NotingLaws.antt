-- The steps down, noted one by one. Forwards, what is still to be noted goes behind what is; backwards it goes before it. Either way the buffer as
-- it will be, told from here, is the buffer as it was to be, so that with nothing left it is the one there is.
use Prim.Native.Nat.{ℕ, suc, ◌+◌, ◌-◌, ◌≤◌, ◌<◌}
use mathlib.Core.Path.{◌≡◌, refl, sym, ◌∙◌, ap}
use mathlib.Core.List.{List, [], ◌∷◌, ◌++◌, map, reverse, reverse_aux-eq}
use mathlib.Core.Bool.{Bool, true, false, cond}
use native.Mathlib.Omega.{arith}
use lib.ListN.{length, length-append}
use Rattle.words.specs.Word.{Word}
use Rattle.rewriting.specs.Search.{Rule, due, search}
use Rattle.rewriting.specs.Sheet.{Step, rules_of}
use Rattle.workspace.specs.Areas.{most_steps}
use Rattle.workspace.specs.Work.{noted}
use Rattle.workspace.specs.Desk.{state, Notes}
use Rattle.workspace.specs.declared.desk.Desk.{Desk}
use Rattle.workspace.proofs.StepLaws.{noted_none, noted_more, noted_before, noted_beside, beside_rules}
use Rattle.lineage.specs.Lineage.{steps_down, turned, backwards, either_way}
use Rattle.lineage.specs.Noting.{number_of, Replays, DueNoted}
use Rattle.lineage.proofs.ReplayLaws.{replays_one, replays_next, down_next, down_long}

-- steps the other way
map_joined : (ss ts : List Step) → map turned (ss ++ ts) ≡ map turned ss ++ map turned ts
map_joined [] ts = refl
map_joined (s ∷ ss) ts = ap (λ (l : List Step). turned s ∷ l) (map_joined ss ts)

pub backwards_next : (s : Step) (ss : List Step) → backwards (s ∷ ss) ≡ backwards ss ++ (turned s ∷ [])
unfolding backwards
backwards_next s ss = ap (λ (l : List Step). map turned l) (reverse_aux-eq ss (s ∷ [])) ∙ map_joined (reverse ss) (s ∷ [])

pub backwards_long : (ss : List Step) → length (backwards ss) ≡ length ss
backwards_long [] = unfold backwards in refl
backwards_long (s ∷ ss) =
    ap length (backwards_next s ss) ∙ length-append (backwards ss) (turned s ∷ [])
    ∙ (let q : length (backwards ss) + 1 ≡ suc (length ss) = omega (arith, backwards_long ss) in q)

-- steps that are noted leave the rules as they are
pub notes_rules : (d e : Desk) (at : ℕ) (ss : List Step) → Notes d at ss e → at + length ss ≤ most_steps → rules_of (state e).lines ≡ rules_of (state d).lines
notes_rules d e at ss h few =
    let b = beside_rules d.work.now e.work.now d.nums (noted_beside d.work.now e.work.now at ss h.bytes few d.good.long) in
    rw h.nums b

-- the word can be reduced k times more, by the rules that there were
pub record Replaying (d e : Desk) (w : Word) (k : ℕ) : Type 0 where
  pub nums : e.nums ≡ d.nums
  pub held : e.work.ghost_name ≡ d.work.ghost_name
  pub rules : rules_of (state e).lines ≡ rules_of (state d).lines
  pub replays : Replays (rules_of (state d).lines) k w

module _ (d e h : Desk) (w v : Word) (cited at : ℕ) (back : Bool) (k : ℕ) (i : Replaying d e w (suc k)) (few : at < most_steps)
    (o : DueNoted (rules_of (state e).lines) cited back at e h w v) where
  abbrev rs : List Rule
  rs = rules_of (state d).lines

  found : search rs w ≡ due o.place o.rule
  found = rw (← i.rules) o.found

  replaying_next : Replaying d h v k
  replaying_next = record {
    nums = o.step.nums ∙ i.nums;
    held = o.step.held ∙ i.held;
    rules = notes_rules e h at (record { reference = cited + o.rule.line; back = back; place = o.place } ∷ []) o.step (omega arith) ∙ i.rules;
    replays = rw o.word (replays_next rs w o.place o.rule found (suc k) k refl i.replays);
  }

  -- the steps that are left, with the one noted first
  next_steps : steps_down cited rs (suc k) w ≡ record { reference = cited + o.rule.line; back = false; place = o.place } ∷ steps_down cited rs k v
  next_steps = rw o.word (down_next rs w o.place o.rule found cited (suc k) k refl)

  rest_long : length (steps_down cited rs k v) ≡ k
  rest_long = down_long cited rs k v replaying_next.replays

  -- behind those that were noted, if these are noted forwards
  down_on : back ≡ false → at + 1 + k ≤ most_steps
      → noted e.work.now at (steps_down cited rs (suc k) w) ≡ noted h.work.now (at + 1) (steps_down cited rs k v)
  down_on f room =
      let s : Step = record { reference = cited + o.rule.line; back = false; place = o.place } in
      let rest = steps_down cited rs k v in
      let first : h.work.now ≡ noted e.work.now at (s ∷ []) = rw (← f) o.step.bytes in
      sym (noted_more e.work.now h.work.now (noted h.work.now (at + 1) rest) at 1 (s ∷ []) rest refl (rw rest_long room) e.good.long first refl ∙ rw next_steps)

  -- before them, if they are noted backwards
  back_on : (base : ℕ) → at ≡ base + k → back ≡ true → base + k + 1 ≤ most_steps
      → noted e.work.now base (backwards (steps_down cited rs (suc k) w)) ≡ noted h.work.now base (backwards (steps_down cited rs k v))
  back_on base q f room =
      let s : Step = record { reference = cited + o.rule.line; back = false; place = o.place } in
      let rest = steps_down cited rs k v in
      let last : h.work.now ≡ noted e.work.now (base + k) (turned s ∷ []) = rw (← f, ← q) o.step.bytes in
      sym (noted_before e.work.now h.work.now (noted h.work.now base (backwards rest)) base k (backwards rest) (turned s ∷ []) (backwards_long rest ∙ rest_long) room
      e.good.long last refl ∙ rw (next_steps, backwards_next s rest))

-- one way or the other: k steps are noted
unfoldable pub Noting : Desk → ℕ → ℕ → Bool → ℕ → Word → Desk → Word → ℕ → Type 0
Noting d cited at back c u e w k =
    noted d.work.now at (either_way back (steps_down cited (rules_of (state d).lines) c u))
    ≡ noted e.work.now (cond back at (at + k)) (either_way back (steps_down cited (rules_of (state d).lines) (c - k) w))

module _ (d : Desk) (cited at c : ℕ) (u : Word) where
  pub noting_start : (back : Bool) (w : Word) → w ≡ u → Noting d cited at back c u d w 0
  unfolding Noting
  noting_start true w q = let e : c - 0 ≡ c = omega arith in rw (q, e)
  noting_start false w q = let a : at + 0 ≡ at = omega arith in let e : c - 0 ≡ c = omega arith in rw (q, a, e)

  pub replaying_start : (w : Word) → w ≡ u → Replays (rules_of (state d).lines) c u → Replaying d d w (c - 0)
  replaying_start w q h = let e : c - 0 ≡ c = omega arith in record { nums = refl; held = refl; rules = refl; replays = rw (q, e) h }

  module _ (e : Desk) (w : Word) (k : ℕ) (i : Replaying d e w (c - k)) (l : k < c) where
    pub replaying_one : Replays (rules_of (state e).lines) 1 w
    replaying_one = rw i.rules (replays_one (rules_of (state d).lines) w (c - k) i.replays (omega arith))

    one_more : Replaying d e w (suc (c - (k + 1)))
    one_more = let q : c - k ≡ suc (c - (k + 1)) = omega arith in rw q at i

    module _ (h : Desk) (v : Word) (j : ℕ) (few : at + c ≤ most_steps) where
      pub noting_left : (back : Bool) → j < most_steps → DueNoted (rules_of (state e).lines) cited back j e h w v → Replaying d h v (c - (k + 1))
      noting_left back low o = replaying_next d e h w v cited j back (c - (k + 1)) one_more low o

      pub noting_on : (back : Bool) → j ≡ number_of at c k back → DueNoted (rules_of (state e).lines) cited back j e h w v
          → Noting d cited at back c u e w k → Noting d cited at back c u h v (k + 1)
      unfolding Noting
      noting_on true q o f =
          let p : c - k ≡ suc (c - (k + 1)) = omega arith in
          f ∙ rw p (back_on d e h w v cited j true (c - (k + 1)) one_more (omega arith) o at q refl (omega arith))
      noting_on false q o f =
          let p : c - k ≡ suc (c - (k + 1)) = omega arith in
          let a : at + (k + 1) ≡ j + 1 = omega arith in
          f ∙ rw (p, a, ← q) (down_on d e h w v cited j false (c - (k + 1)) one_more (omega arith) o refl (omega arith))

  all_noted : (back : Bool) (e : Desk) (w : Word) (k : ℕ) → Noting d cited at back c u e w k → c ≤ k
      → e.work.now ≡ noted d.work.now at (either_way back (steps_down cited (rules_of (state d).lines) c u))
  unfolding Noting steps_down backwards
  all_noted true e w k f h = let q : c - k ≡ 0 = omega arith in noted_none e.work.now at ∙ sym (f ∙ rw q)
  all_noted false e w k f h = let q : c - k ≡ 0 = omega arith in noted_none e.work.now (at + k) ∙ sym (f ∙ rw q)

  pub noting_end : (back : Bool) (e : Desk) (w : Word) (k : ℕ) → Replaying d e w (c - k) → Noting d cited at back c u e w k → c ≤ k
      → Notes d at (either_way back (steps_down cited (rules_of (state d).lines) c u)) e
  noting_end back e w k i f h = record { bytes = all_noted back e w k f h; nums = i.nums; held = i.held }

-- Completion keeps to the limits. Each waiting entry names what is there. A new line's sides are normal words, of words over the sheet's letters by
-- rules over them; its steps name standing lines and what the entry names, at places inside words of at most 128 letters. So the lines stay within
-- the limits through deletions, overlaps and new lines, from the start of a run to its end, where the closing check has accepted them.
use Prim.Native.Nat.{ℕ, zero, suc, ◌+◌, ◌-◌, ◌≤◌, ◌<◌}
use mathlib.Core.Path.{◌≡◌, refl, sym, ◌∙◌, subst}
use mathlib.Core.Logic.{⊎_elim}
use mathlib.Core.List.Memᴰ
use mathlib.Core.List.{List, [], ◌∷◌, ◌++◌, Memᴰ}
use mathlib.Core.Bool.{true, ◌&&◌}
use native.Mathlib.Omega.{arith}
use borrow.Author.Tests.{leb-true, le-leb, lt-ltb}
use lib.Dec.{leb}
use lib.ListN.{length, set, length-append, length-set}
use Rattle.words.specs.Word.{Word, letters_below}
use Rattle.words.specs.Refusal.{answered}
use Rattle.words.specs.Comparing.{order_known}
use Rattle.words.proofs.TestLaws.{and_left, and_right}
use Rattle.rewriting.specs.Normal.{Counted, normal_of, own_allowance, Runs, halt, turn, Short}
use Rattle.rewriting.specs.Pairs.{Reducts, reducts_of}
use Rattle.rewriting.specs.Sheet.{side_limit, Sheet, Line, line_at, Table, rules_of}
use Rattle.rewriting.proofs.BoundedLaws.{answered_runs}
use Rattle.rewriting.proofs.RulesLaws.{rule_stands}
use Rattle.rewriting.proofs.SearchLaws.{found_listed, found_fits}
use Rattle.rewriting.proofs.StandingLines.{standing_listed}
use Rattle.writing.specs.Writing.{equation_words, line_words, steps_made}
use Rattle.packing.specs.Limits.{equations_within, sheet_within, steps_within, lines_within, table_within}
use Rattle.chains.specs.Verdict.{met}
use Rattle.checking.specs.Check.{check_verdict}
use Rattle.workspace.specs.Areas.{most_lines, most_steps, most_waiting}
use Rattle.workspace.specs.Waiting.{State, equations_from, start_state, two_words, strike, fallen, with_line}
use Rattle.workspace.specs.declared.Entry.{Entry}
use Rattle.workspace.specs.declared.Entry.TheVariants.{OfEquation, OfDeleted, OfOverlap}
use Rattle.new_lines.specs.NewLine.{grow}
use Rattle.lineage.specs.Lineage.{steps_down, across}
use Rattle.turns.specs.Turn.{treat}
use Rattle.runs.specs.Completion.{state_table, close, complete}
use Rattle.runs.proofs.KeepsLaws.{AnyRefusal, Keeps, keeps_on, keeps_weaker, keeps_said, Stable, keeps_grown, Between, first_greater, second_greater, Makes, keeps_treated, keeps_run}
use Rattle.runs.proofs.RunLaws.{complete_ends}
use Rattle.completing.proofs.LimitLaws.{Plain, letters_joined, plain_longer, plain_behind, plain_replaced, equation_sides, line_sides_lem, steps_turned, lineage_within, lines_struck, words_struck, steps_struck, lines_more, words_more, steps_more}

-- of so many equations and lines, what the entry names is there
abbrev Named : ℕ → ℕ → Entry → Type 0
Named cited k (OfEquation n) = n < cited
Named cited k (OfDeleted j) = j < k
Named cited k (OfOverlap o) = (o.n < k) × (o.m < k) × (o.place ≤ 128)

-- lines made later change nothing about that
named_later : (cited k : ℕ) (e : Entry) → Named cited k e → Named cited (k + 1) e
named_later cited k (OfEquation n) h = h
named_later cited k (OfDeleted j) h = omega arith
named_later cited k (OfOverlap o) h = (omega (arith, h.0), omega (arith, h.1), h.2)

across_within : (cited k : ℕ) (e : Entry) → Named cited k e → steps_within (cited + k) (across cited e) ≡ true
unfolding across steps_within
across_within cited k (OfEquation n) h = rw (lt-ltb n (cited + k) (omega arith))
across_within cited k (OfDeleted j) h = rw (lt-ltb (cited + j) (cited + k) (omega arith))
across_within cited k (OfOverlap o) h =
    rw (
      lt-ltb (cited + o.n) (cited + k) (omega (arith, h.0)),
      lt-ltb (cited + o.m) (cited + k) (omega (arith, h.1)),
      le-leb o.place 128 h.2,
    )

-- one more waits
behind_others : (P : Entry → Type 0) (e : Entry) (es : List Entry) → ((x : Entry) → Memᴰ x es → P x) → P e
    → (x : Entry) → Memᴰ x (es ++ (e ∷ [])) → P x
behind_others P e es h p x m = ⊎_elim (λ n. h x n) (λ n. subst P (sym (Memᴰ.eq_of_singleton n)) p) (Memᴰ.append_cases es m)

-- k lines with m steps, within the limits of a table of the sheet
record Lines (s : Sheet) (k m : ℕ) (ts : List Line) : Type 0 where
  size : length ts ≡ k
  made : steps_made ts ≡ m
  few : k ≤ most_lines
  light : m ≤ most_steps
  within : lines_within (length s.equations) ts ≡ true
  letters : letters_below s.letters (line_words ts) ≡ true

-- the state has these, and what waits is there
record Kept (s : Sheet) (k m : ℕ) (d : State) : Type 0 where
  table : Lines s k m d.lines
  named : (e : Entry) → Memᴰ e d.waiting → Named (length s.equations) k e

-- a line that may join them
record Joins (s : Sheet) (k m : ℕ) (t : Line) : Type 0 where
  few : k < most_lines
  light : m + length t.steps ≤ most_steps
  left : Plain s.letters side_limit t.left
  right : Plain s.letters side_limit t.right
  steps : steps_within (length s.equations + k) t.steps ≡ true

module _ (s : Sheet) (k m : ℕ) where
  abbrev cited : ℕ
  cited = length s.equations

  module _ (ts : List Line) (h : Lines s k m ts) where
    struck : (j : ℕ) → Lines s k m (set ts j (fallen (line_at ts j)))
    struck j = record {
      size = length-set ts j (fallen (line_at ts j)) ∙ h.size;
      made = steps_struck ts j ∙ h.made;
      few = h.few;
      light = h.light;
      within = lines_struck cited ts j ∙ h.within;
      letters = rw (words_struck ts j) h.letters;
    }

    joined : (t : Line) → Joins s k m t → Lines s (k + 1) (m + length t.steps) (ts ++ (t ∷ []))
    unfolding letters_below
    joined t g = record {
      size = length-append ts (t ∷ []) ∙ (rw h.size);
      made = steps_more t ts ∙ (rw h.made);
      few = omega (arith, g.few);
      light = g.light;
      within = lines_more t cited (cited + k) ts (rw h.size) h.within g.left.short g.right.short g.steps;
      letters = rw (words_more t ts) (letters_joined s.letters (line_words ts) (t.left ++ (t.right ++ [])) h.letters
          (letters_joined s.letters t.left (t.right ++ []) g.left.letters (letters_joined s.letters t.right [] g.right.letters refl)));
    }

    sides : (j : ℕ) → Plain s.letters side_limit (line_at ts j).left × Plain s.letters side_limit (line_at ts j).right
    sides j = line_sides_lem s.letters cited ts h.within h.letters j

    -- a run from a word of at most 128 letters: the word it ends with, and its steps
    run_within : {u z : Word} {c : ℕ} (t : Runs (rules_of ts) u z c) → Short t → Plain s.letters 128 u
        → (letters_below s.letters z ≡ true) × (steps_within (cited + k) (steps_down cited (rules_of ts) c u) ≡ true)
    unfolding steps_down steps_within
    run_within (halt e) short w = (w.letters, refl)
    run_within (turn {u} p r e t) short w =
        let stands = rule_stands ts r (found_listed (rules_of ts) u p r e) in
        let there : cited + r.line < cited + k = omega (arith, standing_listed ts r.line r.left r.right stands, h.size) in
        let place : p ≤ 128 = omega (arith, found_fits (rules_of ts) u p r e, w.short) in
        let right : Plain s.letters side_limit r.right = rw stands.right (sides r.line).1 in
        let next = plain_replaced s.letters p (length r.left) w right in
        let rest = run_within t short.1 (record { short = short.0; letters = next.letters }) in
        (rest.0, rw (e, lt-ltb (cited + r.line) (cited + k) there, le-leb p 128 place) rest.1)

    -- the two words of an entry
    words_plain : equations_within s.equations ≡ true → letters_below s.letters (equation_words s.equations) ≡ true → (e : Entry)
        → Plain s.letters 128 (two_words s.equations ts e).first × Plain s.letters 128 (two_words s.equations ts e).second
    unfolding two_words reducts_of
    words_plain f g (OfEquation n) =
        let x = equation_sides s.letters s.equations f g n in
        (plain_longer s.letters 128 (omega arith) x.0, plain_longer s.letters 128 (omega arith) x.1)
    words_plain f g (OfDeleted j) = (plain_longer s.letters 128 (omega arith) (sides j).0, plain_longer s.letters 128 (omega arith) (sides j).1)
    words_plain f g (OfOverlap o) =
        let x = sides o.n in
        let y = sides o.m in
        let l = (line_at ts o.n).left in
        let top = plain_behind s.letters (length l - o.place) x.0 y.0 in (
          plain_longer s.letters 128 (omega arith) (plain_replaced s.letters 0 (length l) top x.1),
          plain_longer s.letters 128 (omega arith) (plain_replaced s.letters o.place (length (line_at ts o.m).left) top y.1),
        )

  kept_stable : Stable k (Kept s k m)
  unfolding strike
  kept_stable = record {
    lines = λ d h. h.table.size;
    deleted = λ j d h l f. record {
      table = struck d.lines h.table j;
      named = behind_others (Named cited k) (OfDeleted j) d.waiting h.named l;
    };
    overlap = λ o d h a b p f. record {
      table = h.table;
      named = behind_others (Named cited k) (OfOverlap o) d.waiting h.named (a, b, omega (arith, (sides d.lines h.table o.n).0.short));
    };
  }

  kept_joined : (t : Line) → Joins s k m t → (d : State) → Kept s k m d → Kept s (k + 1) (m + length t.steps) (with_line t d)
  kept_joined t g d h = record { table = joined d.lines h.table t g; named = λ e n. named_later cited k e (h.named e n) }

-- of a sheet within the limits
module _ (s : Sheet) (small : sheet_within s ≡ true) where
  sheet_parts : (order_known s.order s.letters ≡ true) × (leb (length s.equations) 64 ≡ true) × (equations_within s.equations ≡ true)
      × (letters_below s.letters (equation_words s.equations) ≡ true)
  unfolding sheet_within
  sheet_parts =
      let a = order_known s.order s.letters in
      let b = leb (length s.equations) 64 in
      let c = equations_within s.equations in
      let d = letters_below s.letters (equation_words s.equations) in
      let p = and_right a (b && (c && d)) small in
      let q = and_right b (c && d) p in
      (and_left a (b && (c && d)) small, and_left b (c && d) p, and_left c d q, and_right c d q)

  pub few_equations : length s.equations ≤ most_waiting
  few_equations = omega (arith, leb-true (length s.equations) 64 sheet_parts.1)

  module _ (k m : ℕ) (d : State) (h : Kept s k m d) (e : Entry) (name : Named (length s.equations) k e) where
    abbrev Reached : Word → Counted → Type 0
    Reached u x = (letters_below s.letters x.word ≡ true)
        × (steps_within (length s.equations + k) (steps_down (length s.equations) (rules_of d.lines) x.count u) ≡ true)

    reached : (u : Word) (x : Counted) → Plain s.letters 128 u → normal_of (rules_of d.lines) own_allowance u ≡ answered x → Reached u x
    reached u x w f = let t = answered_runs (rules_of d.lines) own_allowance u x f in run_within s k m d.lines h.table t.0 t.1 w

    -- the line that the entry makes may join
    between_joins : (w : Reducts) (x y : Counted) (t : Line) → Reached w.first x → Reached w.second y → Between (length s.equations) d e w x y t
        → k < most_lines → m + length t.steps ≤ most_steps → length t.left ≤ side_limit → length t.right ≤ side_limit → Joins s k m t
    between_joins w x y _ a b first_greater few light l r = record {
      few = few;
      light = light;
      left = record { short = l; letters = a.0 };
      right = record { short = r; letters = b.0 };
      steps = lineage_within (length s.equations + k) _ _ _ a.1 (across_within (length s.equations) k e name) b.1;
    }
    between_joins w x y _ a b second_greater few light l r = record {
      few = few;
      light = light;
      left = record { short = l; letters = b.0 };
      right = record { short = r; letters = a.0 };
      steps = lineage_within (length s.equations + k) _ _ _ b.1
          (steps_turned (length s.equations + k) (across (length s.equations) e) (across_within (length s.equations) k e name)) a.1;
    }

    made_joins : (t : Line) → Makes s d e t → Joins s k m t
    made_joins t g =
        let w = two_words s.equations d.lines e in
        let plain = words_plain s k m d.lines h.table sheet_parts.2 sheet_parts.3 e in
        between_joins w g.x g.y t (reached w.first g.x plain.0 g.first) (reached w.second g.y plain.1 g.second) g.between
        (rw h.table.size at g.lines) (rw h.table.made at g.steps) g.left g.right

  abbrev Keeping : State → Type 0
  Keeping d = (k : ℕ) × (m : ℕ) × Kept s k m d

  kept_treated : (d : State) (e : Entry) → Keeping (record { lines = d.lines; waiting = e ∷ d.waiting }) → Keeps AnyRefusal Keeping (treat s d e)
  kept_treated d e (k, m, w) =
      let h : Kept s k m d = record { table = w.table; named = λ x n. w.named x (Memᴰ.tail n) } in
      keeps_treated AnyRefusal (λ n r. tt) s d e Keeping (k, m, h) (λ t g.
      let n = m + length t.steps in
      keeps_weaker AnyRefusal (Kept s (k + 1) n) Keeping (grow t d) (λ f i. (k + 1, n, i))
      (keeps_grown AnyRefusal (λ n r. tt) k (Kept s k m) (Kept s (k + 1) n) (kept_stable s k m) (kept_stable s (k + 1) n) t
      (kept_joined s k m t (made_joins k m d h e (w.named e (Memᴰ.head refl)) t g)) d h))

  -- a table that the closing check accepts and that is within the limits
  abbrev Passes : Table → Type 0
  Passes t = (check_verdict s t ≡ met) × (table_within t ≡ true)

  state_within : (k m : ℕ) (d : State) → Kept s k m d → table_within (state_table s d) ≡ true
  unfolding table_within
  state_within k m d h =
      let few : leb (length d.lines) most_lines ≡ true = le-leb (length d.lines) most_lines (rw h.table.size h.table.few) in
      let light : leb (steps_made d.lines) most_steps ≡ true = le-leb (steps_made d.lines) most_steps (rw h.table.made h.table.light) in
      rw (sheet_parts.0, few, sheet_parts.1, light, h.table.within) h.table.letters

  kept_closed : (d : State) → Keeping d → Keeps AnyRefusal Passes (close s d)
  unfolding close
  kept_closed d (k, m, h) =
      keeps_on AnyRefusal (λ u. check_verdict s (state_table s d) ≡ answered u) Passes (check_verdict s (state_table s d)) (λ u. answered (state_table s d))
      (keeps_said AnyRefusal (check_verdict s (state_table s d)) (λ n p e. tt)) (λ u e. (e, state_within k m d h))

  equations_named : (k n : ℕ) → k + n ≤ length s.equations → (e : Entry) → Memᴰ e (equations_from k n) → Named (length s.equations) 0 e
  equations_named k zero h e i = absurd (Memᴰ.not-nil i)
  equations_named k (suc n) h e i =
      ⊎_elim (λ q. subst (Named (length s.equations) 0) (sym q) (omega arith)) (λ j. equations_named (k + 1) n (omega arith) e j) (Memᴰ.cases_cons i)

  start_kept : Kept s 0 0 (start_state s)
  unfolding start_state steps_made lines_within line_words letters_below
  start_kept = record {
    table = record { size = refl; made = refl; few = omega arith; light = omega arith; within = refl; letters = refl };
    named = equations_named 0 (length s.equations) (omega arith);
  }

  -- the table of a completion is accepted and within the limits
  pub complete_passes : (t : Table) → complete s ≡ answered t → (check_verdict s t ≡ met) × (table_within t ≡ true)
  complete_passes t e =
      subst (Keeps AnyRefusal Passes) e (keeps_run AnyRefusal (λ n r. tt) s Keeping Passes kept_closed kept_treated (complete_ends s few_equations) (0, 0, start_kept))

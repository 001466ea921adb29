-- The check accepts exactly the tables that meet the six conditions. Each part of the verdict goes through lines, equations or places and is met exactly
-- if each of them passes; what a test of one of them says is said in plain words by the laws of that test; and the parts follow each other, so
-- that the whole is met exactly if all parts are.
use Prim.Native.Nat.{ℕ, ◌<◌, Ordering}
use native.Mathlib.Omega.{arith}
use native.Mathlib.Decide.{ℕ_discrete}
use mathlib.Core.Path.{◌≡◌, refl, sym}
use mathlib.Core.Logic.Iff
use mathlib.Core.Logic.{◌↔◌}
use mathlib.Core.List.{List}
use mathlib.Core.Bool.{true, true≢false}
use lib.ListN.{length}
use Rattle.words.specs.Word.{Word}
use Rattle.words.specs.Order.{Below, order_by}
use Rattle.words.specs.Refusal.{Result, answered, refused, on_answer}
use Rattle.words.specs.declared.Order.{Order}
use Rattle.words.proofs.OrderLaws.{above}
use Rattle.words.proofs.BothOrders.{order_by_order}
use Rattle.rewriting.specs.Normal.{Counted, normal_of, own_allowance}
use Rattle.rewriting.specs.Pairs.{is_pair}
use Rattle.rewriting.specs.Search.{Rule}
use Rattle.rewriting.specs.Sheet.{Equation, equation_at, Sheet, Line, line_at, Table, rules_of}
use Rattle.rewriting.specs.Steps.{to, leads, same_word, chain_holds}
use Rattle.rewriting.specs.Links.{between, StandingLine}
use Rattle.rewriting.proofs.LineageLaws.{same_word_lem, word_same, holds_leads}
use Rattle.rewriting.proofs.StandingLines.{standing_listed}
use Rattle.rewriting.proofs.PairLaws.{pair_says}
use Rattle.layout.specs.Sheets.{sheet_fits, sheet_of}
use Rattle.layout.specs.Tables.{table_fits, table_of}
use Rattle.reducing.specs.SameFare.{same_normal, same_fare}
use Rattle.chains.specs.Verdict.{met, unless}
use Rattle.chains.specs.Chains.{is_greater, chain_verdict, direction_verdict}
use Rattle.chains.proofs.EachLaws.{unless_met}
use Rattle.checking.specs.Reduced.{holds, holds_one, reduced_verdict}
use Rattle.checking.specs.OneNormal.{same_or, equations_verdict, reducts_at, pair_verdict, places_verdict, two_lines, others_verdict, of_line, pairs_verdict}
use Rattle.checking.specs.Check.{headers_agree, lines_verdict, check_verdict, check_result}
use Rattle.meaning.specs.Conditions.{SameHeaders, LineagesLead, LinesGoDown, LinesReduced, ShareNormal, SidesShare, ReductsShare, LinesMeet, PartsExactly, AcceptsExactly}
use Rattle.meaning.proofs.ExactLaws.{equal_exactly, and_exactly, not_exactly, any_exactly, stands_exactly, unless_exactly, then_exactly, where_exactly, only_exactly, each_exactly}

-- 2
headers_exactly : (s : Sheet) (t : Table) → (headers_agree s t ≡ true) ↔ SameHeaders s t
unfolding headers_agree
headers_exactly s t =
    let all = and_exactly _ _ (equal_exactly s.order.code t.order.code)
    (and_exactly _ _ (equal_exactly s.letters t.letters) (equal_exactly (length s.equations) t.cited)) in
    (λ e. let h = all.0 e in record { order = h.0; letters = h.1.0; equations = h.1.1 }, λ h. all.1 (h.order, (h.letters, h.equations)))

-- 3
pub chain_exactly : (es : List Equation) (ts : List Line) (t : Line) → (chain_holds es ts t ≡ true) ↔ (leads es ts t.steps t.left ≡ to t.right)
unfolding chain_holds
chain_exactly es ts t = (holds_leads es ts t, λ e. rw e (word_same t.right))

lineages_exactly : (es : List Equation) (ts : List Line) → (chain_verdict es ts ≡ met) ↔ LineagesLead es ts
unfolding chain_verdict
lineages_exactly es ts = each_exactly _ _ (λ j. unless_exactly _ _ _ (chain_exactly es ts (line_at ts j)))

greater_exactly : (o : Order) (u v : Word) → (is_greater (order_by o u v) ≡ true) ↔ Below (order_by o) v u
greater_exactly o u v = (says (order_by o u v) refl, λ h. rw ((order_by_order o).flips v u, h))
  where
    says : (r : Ordering) → order_by o u v ≡ r → is_greater r ≡ true → Below (order_by o) v u
    says Ordering.lt q e = absurd (true≢false (sym e))
    says Ordering.eq q e = absurd (true≢false (sym e))
    says Ordering.gt q e = above (order_by_order o) u v q

directions_exactly : (o : Order) (ts : List Line) → (direction_verdict o ts ≡ met) ↔ LinesGoDown o ts
unfolding direction_verdict
directions_exactly o ts = each_exactly _ _ (λ j. unless_exactly _ _ _ (greater_exactly o (line_at ts j).left (line_at ts j).right))

-- 4
module _ (ts : List Line) where
  -- the standing line m is another than n, and its left word is in that of n
  abbrev Holds : ℕ → ℕ → Type 0
  Holds n m = ((line_at ts m).stands ≡ true) × ((n ≡ m → ⊥) × ((x : Word) × (y : Word) × ((line_at ts n).left ≡ between x y (line_at ts m).left)))

  holds_exactly : (n m : ℕ) → (holds ts n m ≡ true) ↔ Holds n m
  unfolding holds
  holds_exactly n m =
      and_exactly _ _ Iff.rfl (and_exactly _ _ (not_exactly _ (equal_exactly n m)) (stands_exactly (line_at ts m).left (line_at ts n).left))

  one_exactly : (n : ℕ) → (holds_one ts n ≡ true) ↔ ((line_at ts n).stands ≡ true) × ((m : ℕ) × (m < length ts) × Holds n m)
  unfolding holds_one
  one_exactly n = and_exactly _ _ Iff.rfl (any_exactly _ _ (holds_exactly n))

  none_exactly : (reduced_verdict ts ≡ met)
      ↔ ((n : ℕ) → n < length ts → ((line_at ts n).stands ≡ true) × ((m : ℕ) × (m < length ts) × Holds n m) → ⊥)
  unfolding reduced_verdict
  none_exactly = each_exactly _ _ (λ n. unless_exactly _ _ _ (not_exactly _ (one_exactly n)))

  -- the standing line n, by its own words
  itself : (n : ℕ) → (line_at ts n).stands ≡ true → StandingLine ts n (line_at ts n).left (line_at ts n).right
  itself n h = record { stands = h; left = refl; right = refl }

  reduced_exactly : (reduced_verdict ts ≡ met) ↔ LinesReduced ts
  reduced_exactly = (says, is)
    where
      says : reduced_verdict ts ≡ met → LinesReduced ts
      says e n m left right within other x y h g q = go (ℕ_discrete n m)
        where
          go : Dec (n ≡ m) → n ≡ m
          go (yes i) = i
          go (no d) =
              let there : (line_at ts n).left ≡ between x y (line_at ts m).left = rw (← h.left, ← g.left) q in
              absurd (none_exactly.0 e n (standing_listed ts n left right h)
              (h.stands, (m, standing_listed ts m within other g, (g.stands, (d, (x, y, there))))))

      is : LinesReduced ts → reduced_verdict ts ≡ met
      is h = none_exactly.1 (λ n l (s, (m, k, (r, (d, (x, y, q))))). d (h n m _ _ _ _ x y (itself n s) (itself m r) q))

-- 5 and 6
module _ (ts : List Line) where
  share_exactly : (n p : ℕ) (u v : Word) → (same_or (rules_of ts) n p u v ≡ met) ↔ ShareNormal ts u v
  unfolding same_or same_fare same_normal
  share_exactly n p u v = (says (normal_of rs own_allowance u) refl (normal_of rs own_allowance v) refl, λ h. rw (h.first, h.second, word_same h.normal))
    where
      rs : List Rule
      rs = rules_of ts

      says : (a : Result Counted) → normal_of rs own_allowance u ≡ a → (b : Result Counted) → normal_of rs own_allowance v ≡ b
          → on_answer (on_answer a (λ x. on_answer b (λ y. answered (same_word x.word y.word)))) (λ same. unless same n p) ≡ met → ShareNormal ts u v
      says (refused m q) f b g h = let z : ◌≡◌ {A = ℕ} 0 1 = cc in absurd (omega arith)
      says (answered x) f (refused m q) g h = let z : ◌≡◌ {A = ℕ} 0 1 = cc in absurd (omega arith)
      says (answered x) f (answered y) g h =
          let e = same_word_lem x.word y.word (unless_met (same_word x.word y.word) n p h) in
          record { normal = x.word; first_count = x.count; second_count = y.count; first = f; second = rw e g }

  equations_exactly : (es : List Equation) → (equations_verdict (rules_of ts) es ≡ met) ↔ SidesShare es ts
  unfolding equations_verdict
  equations_exactly es = each_exactly _ _ (λ k. share_exactly _ _ (equation_at es k).left (equation_at es k).right)

  -- the lines n and m, wherever they make a pair
  abbrev TwoShare : ℕ → ℕ → Type 0
  TwoShare n m = (k : ℕ) → k < length (line_at ts n).left → is_pair n m k (line_at ts n).left (line_at ts m).left ≡ true
      → ShareNormal ts (reducts_at ts n m k).first (reducts_at ts n m k).second

  two_exactly : (n m : ℕ) → (two_lines (rules_of ts) ts n m ≡ met) ↔ ((line_at ts m).stands ≡ true → TwoShare n m)
  unfolding two_lines places_verdict pair_verdict
  two_exactly n m = where_exactly _ _ (each_exactly _ _ (λ k. where_exactly _ _ (share_exactly _ _ (reducts_at ts n m k).first (reducts_at ts n m k).second)))

  -- every two standing lines
  abbrev AllShare : Type 0
  AllShare = (n : ℕ) → n < length ts → (line_at ts n).stands ≡ true → (m : ℕ) → m < length ts → (line_at ts m).stands ≡ true → TwoShare n m

  all_exactly : (pairs_verdict (rules_of ts) ts ≡ met) ↔ AllShare
  unfolding pairs_verdict of_line others_verdict
  all_exactly = each_exactly _ _ (λ n. where_exactly _ _ (each_exactly _ _ (λ m. two_exactly n m)))

  pairs_exactly : (pairs_verdict (rules_of ts) ts ≡ met) ↔ ReductsShare ts
  pairs_exactly = (says, λ h. all_exactly.1 (λ n l s m k r i o p. h n m i _ _ _ _ (itself ts n s) (itself ts m r) p))
    where
      says : pairs_verdict (rules_of ts) ts ≡ met → ReductsShare ts
      says e n m k left right laid other h g p =
          let q : is_pair n m k (line_at ts n).left (line_at ts m).left ≡ true = rw (h.left, g.left) at p in
          let inside = (pair_says n m k (line_at ts n).left (line_at ts m).left q).0 in
          rw (h.left, h.right, g.left, g.right)
          (all_exactly.0 e n (standing_listed ts n left right h) h.stands m (standing_listed ts m laid other g) g.stands k inside q)

pub parts_exactly : PartsExactly
parts_exactly = record {
  headers = headers_exactly;
  lineages = lineages_exactly;
  directions = directions_exactly;
  reduced = reduced_exactly;
  equations = λ es ts. equations_exactly ts es;
  pairs = pairs_exactly;
}

-- 3 to 6
lines_exactly : (o : Order) (es : List Equation) (ts : List Line) → (lines_verdict o es ts ≡ met) ↔ LinesMeet o es ts
unfolding lines_verdict
lines_exactly o es ts =
    let all = then_exactly _ _ (lineages_exactly es ts) (then_exactly _ _ (directions_exactly o ts) (then_exactly _ _ (reduced_exactly ts)
    (then_exactly _ _ (equations_exactly ts es) (pairs_exactly ts)))) in (
      λ e. let h = all.0 e in record { lineages = h.0; directions = h.1.0; reduced = h.1.1.0; equations = h.1.1.1.0; pairs = h.1.1.1.1 },
      λ h. all.1 (h.lineages, (h.directions, (h.reduced, (h.equations, h.pairs)))),
    )

-- all six
pub accepts_exactly : AcceptsExactly
unfolding check_result check_verdict
accepts_exactly sheet table =
    let s = sheet_of sheet in
    let t = table_of table in
    let all = only_exactly (sheet_fits sheet) _ _ _ Iff.rfl (only_exactly (table_fits table) _ _ _ Iff.rfl
    (only_exactly _ _ _ _ (headers_exactly s t) (lines_exactly t.order s.equations t.lines))) in (
      λ e. let h = all.0 e in record { layout = record { is_sheet = h.0; is_table = h.1.0 }; headers = h.1.1.0; lines = h.1.1.1 },
      λ h. all.1 (h.layout.is_sheet, (h.layout.is_table, (h.headers, h.lines))),
    )

-- Acceptance means the same fare. The six conditions give every line's lineage, and with the layout's verdict on references the sheet links
-- each line's sides; directions, equations and critical pairs are conditions too, and the critical pair theorem does the rest, for both
-- orders by the one record of what an order must satisfy. The yes-or-no call compares two answered normal words, and an answered normal word is
-- the normal word.
use Prim.Native.Nat.{ℕ, ◌+◌, ◌<◌}
use native.Mathlib.Omega.{arith}
use mathlib.Core.Path.{◌≡◌, refl, sym, ◌∙◌}
use mathlib.Core.Logic.{◌↔◌}
use mathlib.Core.List.{List, Memᴰ}
use mathlib.Core.Bool.{Bool, true, false, cond}
use lib.ListN.{length}
use Rattle.words.specs.Word.{Word}
use Rattle.words.specs.Order.{order_by}
use Rattle.words.specs.Comparing.{query_word}
use Rattle.words.specs.Refusal.{Result, answered, refused, on_answer}
use Rattle.words.specs.declared.Order.{Order}
use Rattle.words.proofs.BothOrders.{order_by_order}
use Rattle.rewriting.specs.RightFor.{RightFor, Decides}
use Rattle.rewriting.specs.Links.{Linked, OneNormal, OfSheet, OfLines}
use Rattle.rewriting.specs.Normal.{Counted, normal_of, own_allowance}
use Rattle.rewriting.specs.Search.{Rule}
use Rattle.rewriting.specs.Sheet.{Step, Equation, Line, line_at, Table, rules_of}
use Rattle.rewriting.specs.Steps.{same_word}
use Rattle.rewriting.proofs.RightForLaws.{checked_right, right_decides, runs_decide, answers_decide}
use Rattle.rewriting.proofs.LineageLaws.{same_word_lem, word_same}
use Rattle.rewriting.proofs.StandingLines.{answered_one, lines_run}
use Rattle.layout.specs.Sheets.{sheet_of}
use Rattle.layout.specs.Tables.{table_fits, table_of}
use Rattle.layout.proofs.ReferenceLaws.{table_earlier}
use Rattle.queries.specs.Queries.{same_result}
use Rattle.reducing.specs.SameFare.{same_fare, same_normal}
use Rattle.meaning.specs.Conditions.{ShareNormal, LinesMeet, SixConditions}
use Rattle.meaning.specs.SameFare.{SameFare, AcceptanceMeans}
use Rattle.meaning.proofs.Conditions.{chain_exactly, accepts_exactly}

-- words that share a normal word within the check's limits have one without them
share_one : (ts : List Line) (u v : Word) → ShareNormal ts u v → OneNormal (OfLines ts) u v
share_one ts u v h = answered_one ts own_allowance own_allowance u v _ _ h.first h.second refl

-- of lines that meet conditions 3 to 6, with lineages that cite equations and earlier lines
module _ (o : Order) (es : List Equation) (ts : List Line) (meet : LinesMeet o es ts)
    (earlier : (j : ℕ) → j < length ts → (x : Step) → Memᴰ x (line_at ts j).steps → x.reference < length es + j) where
  pub lines_right : RightFor (order_by o) es ts
  lines_right = checked_right (order_by_order o) es ts
      (λ j l. record { holds = (chain_exactly es ts (line_at ts j)).1 (meet.lineages j l); earlier = earlier j l })
      meet.directions
      (λ k l. share_one ts _ _ (meet.equations k l))
      (λ n m k left right laid other h g p. share_one ts _ _ (meet.pairs n m k left right laid other h g p))

-- the yes-or-no call: what it answered about two words
same_says : (es : List Equation) (table : List ℕ) → Decides es (table_of table).lines → (u v : Word) (allowance : ℕ) (b₀ : Bool)
    → same_result table u v allowance ≡ answered b₀ → (b₀ ≡ true) ↔ Linked (OfSheet es) u v
unfolding same_result same_fare same_normal
same_says es table d u v allowance b₀ e = go (table_fits table) (query_word t.letters u) (query_word t.letters v) (normal_of rs allowance u) refl (normal_of rs allowance v) refl e
  where
    t : Table
    t = table_of table

    rs : List Rule
    rs = rules_of t.lines

    same_self : (x y : Word) → x ≡ y → same_word x y ≡ true
    same_self x y q = rw q (word_same y)

    said : (x y : Counted) → normal_of rs allowance u ≡ answered x → normal_of rs allowance v ≡ answered y → same_word x.word y.word ≡ b₀
        → (b₀ ≡ true) ↔ Linked (OfSheet es) u v
    said x y f g h =
        let i = answers_decide d allowance allowance u v x y f g in
        (λ q. i.0 (same_word_lem x.word y.word (h ∙ q)), λ l. sym h ∙ same_self x.word y.word (i.1 l))

    go : (a b c : Bool) (p : Result Counted) → normal_of rs allowance u ≡ p → (q : Result Counted) → normal_of rs allowance v ≡ q
        → cond a (cond b (cond c (on_answer p (λ x. on_answer q (λ y. answered (same_word x.word y.word)))) (refused 4 0)) (refused 4 0)) (refused 1 0) ≡ answered b₀
        → (b₀ ≡ true) ↔ Linked (OfSheet es) u v
    go true true true (answered x) f (answered y) g h = said x y f g (cc)
    go true true true (answered x) f (refused n m) g h = let z : ◌≡◌ {A = ℕ} 0 1 = cc in absurd (omega arith)
    go true true true (refused n m) f q g h = let z : ◌≡◌ {A = ℕ} 0 1 = cc in absurd (omega arith)
    go true true false p f q g h = let z : ◌≡◌ {A = ℕ} 0 1 = cc in absurd (omega arith)
    go true false c p f q g h = let z : ◌≡◌ {A = ℕ} 0 1 = cc in absurd (omega arith)
    go false b c p f q g h = let z : ◌≡◌ {A = ℕ} 0 1 = cc in absurd (omega arith)

-- two files that meet the six conditions
module _ (sheet table : List ℕ) (six : SixConditions sheet table) where
  -- lineages cite equations of the sheet and earlier lines
  earlier_lines : (j : ℕ) → j < length (table_of table).lines → (x : Step) → Memᴰ x (line_at (table_of table).lines j).steps
      → x.reference < length (sheet_of sheet).equations + j
  earlier_lines j l x m = rw six.headers.equations (table_earlier table six.layout.is_table j l x m)

  pub six_right : RightFor (order_by (table_of table).order) (sheet_of sheet).equations (table_of table).lines
  six_right = lines_right (table_of table).order (sheet_of sheet).equations (table_of table).lines six.lines earlier_lines

  pub six_mean : SameFare sheet table
  six_mean =
      let o = order_by_order (table_of table).order in
      let d = right_decides o six_right in
      record {
        decides = d;
        reached = lines_run (table_of table).lines o six_right.sinks;
        exactly = runs_decide d;
        answers = same_says (sheet_of sheet).equations table d;
      }

-- Specification, "Acceptance": what acceptance means
pub same_fare_lem : AcceptanceMeans
same_fare_lem sheet table e = six_mean sheet table ((accepts_exactly sheet table).0 e)

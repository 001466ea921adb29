-- RightFor tables decide their sheets. The standing lines go down in the order and their critical pairs meet, so every word has one normal
-- word, the same for words that the lines link; and the lines link what the sheet links. The conditions that the check tries
-- imply acceptance: chains that hold link by the sheet, and two words with one normal word are linked, below whatever both are below.
use Prim.Native.Nat.{ℕ, ◌<◌, Ordering}
use mathlib.Core.Path.{◌≡◌}
use mathlib.Core.Logic.{◌↔◌}
use mathlib.Core.Bool.{true}
use mathlib.Core.List.{List}
use native.Mathlib.Omega.{arith}
use lib.ListN.{length}
use Rattle.words.specs.Word.{Word}
use Rattle.words.specs.Order.{Below, IsOrder}
use Rattle.words.specs.Refusal.{answered}
use Rattle.rewriting.specs.Sheet.{Equation, Line, line_at, equation_at, rules_of}
use Rattle.rewriting.specs.Pairs.{is_pair, peak, reducts_of}
use Rattle.rewriting.specs.Normal.{Counted, normal_of, Runs}
use Rattle.rewriting.specs.Steps.{Lineage}
use Rattle.rewriting.specs.Links.{Linked, OneNormal, Sinks, Local, OfSheet, StandingLine, OfLines}
use Rattle.rewriting.specs.RightFor.{PairsMeet, RightFor, Decides}
use Rattle.rewriting.proofs.Chains.{linked_replace}
use Rattle.rewriting.proofs.Sinking.{replaces_sinks, joined}
use Rattle.rewriting.proofs.NormalWords.{normal, unique, linked_normal, normal_linked}
use Rattle.rewriting.proofs.PairLaws.{pair_says, first_replaces, second_replaces}
use Rattle.rewriting.proofs.CriticalPairs.{pairs_meet}
use Rattle.rewriting.proofs.LineageLaws.{lines_linked}
use Rattle.rewriting.proofs.StandingLines.{standing_listed, standing_single, lines_next, runs_lines, answered_lines}

module _ {cmp : Word → Word → Ordering} (o : IsOrder cmp) {es : List Equation} {ts : List Line} (a : RightFor cmp es ts) where
  lines_local : Local cmp (OfLines ts)
  lines_local = pairs_meet o (standing_single ts) a.sinks a.meets

  -- normal words by the standing lines tell exactly which words the sheet links
  pub right_decides : Decides es ts
  right_decides = record {
    reached = normal o a.sinks (lines_next ts);
    unique = unique o a.sinks (lines_next ts) lines_local;
    exactly =
        λ u v z y n m. (
          λ e. linked_replace a.sound (normal_linked n (rw e m)),
          λ c. linked_normal o a.sinks (lines_next ts) lines_local (linked_replace a.sides c) z y n m,
        );
  }

-- of an accepted table: two runs end in one word exactly if the sheet links their starts
pub runs_decide : {es : List Equation} {ts : List Line} → Decides es ts → {u v z y : Word} {c d : ℕ}
    → Runs (rules_of ts) u z c
    → Runs (rules_of ts) v y d
    → (z ≡ y) ↔ Linked (OfSheet es) u v
runs_decide {ts = ts} t {u} {v} {z} {y} p q = t.exactly u v z y (runs_lines ts p) (runs_lines ts q)

-- and two answers are one word exactly if the sheet links the words asked for
pub answers_decide : {es : List Equation} {ts : List Line} → Decides es ts → (a b : ℕ) (u v : Word) (c d : Counted)
    → normal_of (rules_of ts) a u ≡ answered c
    → normal_of (rules_of ts) b v ≡ answered d
    → (c.word ≡ d.word) ↔ Linked (OfSheet es) u v
answers_decide {ts = ts} t a b u v c d e f = t.exactly u v c.word d.word (answered_lines ts a u c e) (answered_lines ts b v d f)

-- the conditions that the check tries, with normal words in common for the last two
module _ {cmp : Word → Word → Ordering}
    (o : IsOrder cmp)
    (es : List Equation)
    (ts : List Line)
    (lineage : (j : ℕ) → j < length ts → Lineage es ts j)
    (directed : (j : ℕ) → j < length ts → Below cmp (line_at ts j).right (line_at ts j).left)
    (equations : (k : ℕ) → k < length es → OneNormal (OfLines ts) (equation_at es k).left (equation_at es k).right)
    (pairs : (n m k : ℕ) (l r laid s : Word)
    → StandingLine ts n l r
    → StandingLine ts m laid s
    → is_pair n m k l laid ≡ true
    → OneNormal (OfLines ts) (reducts_of k l r laid s).first (reducts_of k l r laid s).second) where
  lines_sink : Sinks cmp (OfLines ts)
  lines_sink l r (n, h) = rw (h.left, h.right) (directed n (standing_listed ts n l r h))

  lines_meet : PairsMeet cmp (StandingLine ts)
  lines_meet n m k l r laid s h g p =
      let said = pair_says n m k l laid p in
      let one = pairs n m k l r laid s h g p in
      joined o lines_sink (peak k l laid)
      (replaces_sinks o lines_sink (first_replaces k l laid r s (n, h)))
      (replaces_sinks o lines_sink (second_replaces k l laid r s (omega (arith, said.0)) said.1 (m, g)))
      one.1 one.2

  pub checked_right : RightFor cmp es ts
  checked_right = record {
    sound = λ l r h. rw (h.1.left, h.1.right) (lines_linked es ts lineage h.0 (standing_listed ts h.0 l r h.1));
    sinks = lines_sink;
    sides = λ l r h. let one = equations h.number h.listed in rw (h.left, h.right) (normal_linked one.1 one.2);
    meets = lines_meet;
  }

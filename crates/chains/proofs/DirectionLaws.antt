-- Directions as the code finds them, on the lines that two slices hold. No step is looked at.
use Prim.Native.Nat.{ℕ, ◌+◌, ◌<◌}
use mathlib.Core.Path.{◌≡◌, sym, ◌∙◌}
use mathlib.Core.List.{List, []}
use mathlib.Core.Bool.{Bool, true, false, not}
use borrow.Author.Tests.{not-true, not-false}
use Rattle.words.specs.Order.{order_by}
use Rattle.words.specs.Refusal.{refused}
use Rattle.words.specs.declared.Order.{Order}
use Rattle.words.specs.declared.refusals.Refusal.TheVariants.{Direction}
use Rattle.rewriting.specs.Sheet.{Line, line_at}
use Rattle.layout.specs.Slices.{lines_in, line_left, line_right}
use Rattle.layout.proofs.SliceLaws.{lines_long}
use Rattle.layout.proofs.BareLaws.{bare_long, bare_left, bare_right}
use Rattle.chains.specs.Verdict.{Verdict, met, unless, each}
use Rattle.chains.specs.Chains.{is_greater, direction_verdict}
use Rattle.chains.proofs.LineLaws.{left_of_lem, right_of_lem}
use Rattle.chains.proofs.EachLaws.{Passed, passed_none, passed_on, passed_no, passed_end}

-- all lines
abbrev directed : Order → List Line → ℕ → Verdict
directed o ts j = unless (is_greater (order_by o (line_at ts j).left (line_at ts j).right)) 13 j

unfoldable pub Directed : Order → List ℕ → List ℕ → ℕ → ℕ → Type 0
Directed o recs words n k = Passed (directed o (lines_in recs [] words n)) n k

module _ (o : Order) (recs words : List ℕ) (n : ℕ) where
  abbrev ls : List Line
  ls = lines_in recs [] words n

  all_directed : direction_verdict o ls ≡ each n (directed o ls)
  unfolding direction_verdict
  all_directed = rw (lines_long recs [] words n)

  pub directed_start : Directed o recs words n 0
  unfolding Directed
  directed_start = passed_none (directed o ls) n

  module _ (k : ℕ) (t : Bool) (d : Directed o recs words n k) (h : k < n)
      (e : t ≡ is_greater (order_by o (line_left recs words k) (line_right recs words k))) where
    directed_at : directed o ls k ≡ unless t 13 k
    directed_at = rw (left_of_lem recs [] words n k h, right_of_lem recs [] words n k h, e)

    pub directed_on : not t ≡ false → Directed o recs words n (k + 1)
    unfolding Directed
    directed_on f = passed_on (directed o ls) n k tt d h (sym (directed_at ∙ rw (not-false t f)))

    pub directed_no : not t ≡ true → refused 13 k ≡ direction_verdict o ls
    unfolding Directed
    directed_no f = passed_no (directed o ls) n k (Direction k) d h (sym (directed_at ∙ rw (not-true t f))) ∙ sym all_directed

  pub directed_end : Directed o recs words n n → met ≡ direction_verdict o ls
  unfolding Directed
  directed_end d = passed_end (directed o ls) n d ∙ sym all_directed

-- no step is looked at
pub directions_bare : (o : Order) (recs steps words : List ℕ) (n : ℕ) → direction_verdict o (lines_in recs steps words n) ≡ direction_verdict o (lines_in recs [] words n)
unfolding direction_verdict
directions_bare o recs steps words n = simp (bare_long recs steps words n, bare_left recs steps words n, bare_right recs steps words n)

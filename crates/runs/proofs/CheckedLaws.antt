-- The check refuses with 2 for the header, 5 and 6 for normal words, and 12 to 16 for the conditions. With the turns' 5 to 11 these are the refusals of
-- a completion; so what stands where the bounded run's turns would be used up, with the number 0, is never reached.
use Prim.Native.Nat.{ℕ, ◌≤◌}
use mathlib.Core.Path.{◌≡◌, refl, subst}
use mathlib.Core.List.{List}
use mathlib.Core.Bool.{Bool, true, false, not}
use native.Mathlib.Omega.{arith}
use lib.ListN.{length}
use Rattle.words.specs.Word.{Word}
use Rattle.words.specs.Refusal.{answered, refused, on_answer}
use Rattle.words.specs.Order.{order_by}
use Rattle.words.specs.declared.Order.{Order}
use Rattle.rewriting.specs.Search.{Rule}
use Rattle.rewriting.specs.Normal.{normal_of, own_allowance}
use Rattle.rewriting.specs.Pairs.{is_pair}
use Rattle.rewriting.specs.Sheet.{Equation, equation_at, Sheet, Table, Line, line_at, rules_of}
use Rattle.rewriting.specs.Steps.{same_word, chain_holds}
use Rattle.reducing.specs.SameFare.{same_normal, same_fare}
use Rattle.chains.specs.Verdict.{Verdict, met, unless, each}
use Rattle.chains.specs.Chains.{is_greater, chain_verdict, direction_verdict}
use Rattle.checking.specs.Reduced.{holds_one, reduced_verdict}
use Rattle.checking.specs.OneNormal.{same_or, equations_verdict, reducts_at, pair_verdict, places_verdict, two_lines, others_verdict, of_line, pairs_verdict}
use Rattle.checking.specs.Check.{headers_agree, lines_verdict, check_verdict}
use Rattle.workspace.specs.Areas.{most_waiting}
use Rattle.runs.specs.Completion.{state_table, close, never_reached, complete}
use Rattle.runs.proofs.KeepsLaws.{keeps_run}
use Rattle.runs.proofs.RunLaws.{complete_ends}
use Rattle.runs.proofs.RefusalLaws.{InRun, five_up, Any, RefusesInRun, refuses_on, refuses_either, refuses_through, refuses_normal, refuses_treated}

tested : (b : Bool) (number place : ℕ) → InRun number → RefusesInRun (unless b number place)
tested true number place h = tt
tested false number place h = h

all_met : (n : ℕ) (f : ℕ → Verdict) → ((k : ℕ) → RefusesInRun (f k)) → RefusesInRun (each n f)
all_met n f h = refuses_through (λ k s. f k) (λ k s. h k) n 0 tt

compared : (rs : List Rule) (z v : Word) → RefusesInRun (same_normal rs own_allowance z v)
unfolding same_normal
compared rs z v =
    refuses_on (normal_of rs own_allowance v) (λ y. answered (same_word z y.word)) (refuses_normal rs own_allowance v) (λ y. tt)

joined : (rs : List Rule) (number place : ℕ) (u v : Word) → InRun number → RefusesInRun (same_or rs number place u v)
unfolding same_or same_fare
joined rs number place u v h =
    refuses_on (on_answer (normal_of rs own_allowance u) (λ x. same_normal rs own_allowance x.word v)) (λ same. unless same number place)
    (refuses_on (normal_of rs own_allowance u) (λ x. same_normal rs own_allowance x.word v) (refuses_normal rs own_allowance u) (λ x. compared rs x.word v))
    (λ same. tested same number place h)

module _ (rs : List Rule) (ts : List Line) where
  pair_joined : (n m k : ℕ) → RefusesInRun (pair_verdict rs ts n m k)
  unfolding pair_verdict
  pair_joined n m k =
      refuses_either (is_pair n m k (line_at ts n).left (line_at ts m).left) (same_or rs 16 n (reducts_at ts n m k).first (reducts_at ts n m k).second) met
      (joined rs 16 n (reducts_at ts n m k).first (reducts_at ts n m k).second (omega arith, refl)) tt

  places : (n m : ℕ) → RefusesInRun (places_verdict rs ts n m)
  unfolding places_verdict
  places n m = all_met (length (line_at ts n).left) (λ k. pair_verdict rs ts n m k) (λ k. pair_joined n m k)

  with_line_lem : (n m : ℕ) → RefusesInRun (two_lines rs ts n m)
  unfolding two_lines
  with_line_lem n m = refuses_either (line_at ts m).stands (places_verdict rs ts n m) met (places n m) tt

  others : (n : ℕ) → RefusesInRun (others_verdict rs ts n)
  unfolding others_verdict
  others n = all_met (length ts) (λ m. two_lines rs ts n m) (λ m. with_line_lem n m)

  of_line_lem : (n : ℕ) → RefusesInRun (of_line rs ts n)
  unfolding of_line
  of_line_lem n = refuses_either (line_at ts n).stands (others_verdict rs ts n) met (others n) tt

  pairs : RefusesInRun (pairs_verdict rs ts)
  unfolding pairs_verdict
  pairs = all_met (length ts) (λ n. of_line rs ts n) of_line_lem

lines : (o : Order) (es : List Equation) (ts : List Line) → RefusesInRun (lines_verdict o es ts)
unfolding lines_verdict chain_verdict direction_verdict reduced_verdict equations_verdict
lines o es ts =
    refuses_on (each (length ts) (λ j. unless (chain_holds es ts (line_at ts j)) 12 j)) _
    (all_met (length ts) (λ j. unless (chain_holds es ts (line_at ts j)) 12 j) (λ j. tested (chain_holds es ts (line_at ts j)) 12 j (omega arith, refl))) (λ u.
    refuses_on (each (length ts) (λ j. unless (is_greater (order_by o (line_at ts j).left (line_at ts j).right)) 13 j)) _
    (all_met (length ts) (λ j. unless (is_greater (order_by o (line_at ts j).left (line_at ts j).right)) 13 j)
    (λ j. tested (is_greater (order_by o (line_at ts j).left (line_at ts j).right)) 13 j (omega arith, refl))) (λ u.
    refuses_on (each (length ts) (λ n. unless (not (holds_one ts n)) 14 n)) _
    (all_met (length ts) (λ n. unless (not (holds_one ts n)) 14 n) (λ n. tested (not (holds_one ts n)) 14 n (omega arith, refl))) (λ u.
    refuses_on (each (length es) (λ k. same_or (rules_of ts) 15 k (equation_at es k).left (equation_at es k).right)) (λ u. pairs_verdict (rules_of ts) ts)
    (all_met (length es) (λ k. same_or (rules_of ts) 15 k (equation_at es k).left (equation_at es k).right)
    (λ k. joined (rules_of ts) 15 k (equation_at es k).left (equation_at es k).right (omega arith, refl))) (λ u. pairs (rules_of ts) ts))))

refuses_check : (s : Sheet) (t : Table) → RefusesInRun (check_verdict s t)
unfolding check_verdict
refuses_check s t = refuses_either (headers_agree s t) (lines_verdict t.order s.equations t.lines) (refused 2 0) (lines t.order s.equations t.lines) (omega arith, refl)

-- so of a whole completion
module _ (s : Sheet) (few : length s.equations ≤ most_waiting) where
  pub complete_refuses : RefusesInRun (complete s)
  unfolding close
  complete_refuses =
      keeps_run InRun five_up s Any Any
      (λ d h. refuses_on (check_verdict s (state_table s d)) _ (refuses_check s (state_table s d)) (λ u. tt))
      (λ d e h. refuses_treated s d e) (complete_ends s few) tt

  -- the turns of the bounded run are never used up
  pub never_reached_lem : complete s ≡ never_reached → ⊥
  never_reached_lem e = let h : InRun 0 = subst RefusesInRun e complete_refuses in omega (arith, h.0)

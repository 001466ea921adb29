-- What a table that meets conditions 5 and 6 has: one normal word for both sides of each equation and for the reducts of each critical pair.
use Prim.Native.Nat.{ℕ, ◌<◌}
use native.Mathlib.Omega.{arith}
use mathlib.Core.Path.{◌≡◌, refl}
use mathlib.Core.List.{List}
use mathlib.Core.Bool.{Bool, true, cond}
use lib.ListN.{length}
use Rattle.words.specs.Word.{Word}
use Rattle.rewriting.specs.Links.{OneNormal, OfLines}
use Rattle.rewriting.specs.Normal.{Counted, normal_of, own_allowance}
use Rattle.rewriting.specs.Pairs.{is_pair}
use Rattle.rewriting.specs.Sheet.{Equation, equation_at, Line, line_at, rules_of}
use Rattle.rewriting.specs.Steps.{same_word}
use Rattle.rewriting.proofs.StandingLines.{answered_one}
use Rattle.rewriting.proofs.LineageLaws.{same_word_lem}
use Rattle.rewriting.proofs.PairLaws.{pair_says}
use Rattle.words.specs.Refusal.{Result, answered, refused, on_answer}
use Rattle.reducing.specs.SameFare.{same_normal, same_fare}
use Rattle.chains.specs.Verdict.{Verdict, met, unless}
use Rattle.chains.proofs.EachLaws.{unless_met, each_met}
use Rattle.checking.specs.OneNormal.{same_or, equations_verdict, reducts_at, pair_verdict, places_verdict, two_lines, others_verdict, of_line, pairs_verdict}

-- what is asked only where a test passes
cond_met : (b : Bool) (v : Verdict) → cond b v met ≡ met → b ≡ true → v ≡ met
cond_met b v e f = rw f at e

-- two words that the check joined have one normal word
joins_one : (ts : List Line) (n p : ℕ) (u v : Word) → same_or (rules_of ts) n p u v ≡ met → OneNormal (OfLines ts) u v
unfolding same_or same_fare same_normal
joins_one ts n p u v e = go (normal_of (rules_of ts) own_allowance u) refl (normal_of (rules_of ts) own_allowance v) refl e
  where
    go : (a : Result Counted) → normal_of (rules_of ts) own_allowance u ≡ a → (b : Result Counted) → normal_of (rules_of ts) own_allowance v ≡ b
        → on_answer (on_answer a (λ x. on_answer b (λ y. answered (same_word x.word y.word)))) (λ same. unless same n p) ≡ met → OneNormal (OfLines ts) u v
    go (refused m q) f b g h = let z : ◌≡◌ {A = ℕ} 0 1 = cc in absurd (omega arith)
    go (answered x) f (refused m q) g h = let z : ◌≡◌ {A = ℕ} 0 1 = cc in absurd (omega arith)
    go (answered x) f (answered y) g h =
        answered_one ts own_allowance own_allowance u v x y f g (same_word_lem x.word y.word (unless_met (same_word x.word y.word) n p h))

-- equations
pub equations_hold : (es : List Equation) (ts : List Line) → equations_verdict (rules_of ts) es ≡ met → (k : ℕ) → k < length es
    → OneNormal (OfLines ts) (equation_at es k).left (equation_at es k).right
unfolding equations_verdict
equations_hold es ts e k l =
    joins_one ts 15 k (equation_at es k).left (equation_at es k).right
    (each_met (length es) (λ i. same_or (rules_of ts) 15 i (equation_at es i).left (equation_at es i).right) e k l)

-- critical pairs
pub pairs_hold : (ts : List Line) → pairs_verdict (rules_of ts) ts ≡ met → (n m k : ℕ) → n < length ts → m < length ts
    → (line_at ts n).stands ≡ true → (line_at ts m).stands ≡ true → is_pair n m k (line_at ts n).left (line_at ts m).left ≡ true
    → OneNormal (OfLines ts) (reducts_at ts n m k).first (reducts_at ts n m k).second
unfolding pairs_verdict of_line others_verdict two_lines places_verdict pair_verdict
pairs_hold ts e n m k ln lm sn sm p =
    let rs = rules_of ts in
    let a = cond_met (line_at ts n).stands (others_verdict rs ts n) (each_met (length ts) (λ i. of_line rs ts i) e n ln) sn in
    let b = cond_met (line_at ts m).stands (places_verdict rs ts n m) (each_met (length ts) (λ i. two_lines rs ts n i) a m lm) sm in
    let c = each_met (length (line_at ts n).left) (λ i. pair_verdict rs ts n m i) b k (pair_says n m k (line_at ts n).left (line_at ts m).left p).0 in
    joins_one ts 16 n (reducts_at ts n m k).first (reducts_at ts n m k).second
    (cond_met (is_pair n m k (line_at ts n).left (line_at ts m).left) (same_or rs 16 n (reducts_at ts n m k).first (reducts_at ts n m k).second) c p)

-- The reducts of two lines are made of the words that their records name.
use Prim.Native.Nat.{ℕ}
use mathlib.Core.Path.{◌≡◌}
use mathlib.Core.List.{List, []}
use Rattle.words.specs.Word.{Word}
use Rattle.words.specs.declared.refusals.Refusal.{Refusal}
use Rattle.rewriting.specs.Search.{Rule}
use Rattle.rewriting.specs.Pairs.{first_reduct, second_reduct, reducts_of, reducts_of_lines}
use Rattle.layout.specs.Slices.{line_in, line_left, line_right}
use Rattle.reducing.specs.Answers.{fares_as}
use Rattle.reducing.specs.SameFare.{same_fare, same_reducts}
use Rattle.std.proofs.Common.{Bool}
use Rattle.std.proofs.Common.{Result as Outcome}

pub reducts_same : (rs : List Rule) (allowance : ℕ) (recs words : List ℕ) (i m k : ℕ) (left right laid other first second : Word) (r : Outcome Bool Refusal)
    → left ≡ line_left recs words i → right ≡ line_right recs words i → laid ≡ line_left recs words m → other ≡ line_right recs words m
    → first ≡ first_reduct k left right laid → second ≡ second_reduct k left laid other → fares_as r ≡ same_fare rs allowance first second
    → fares_as r ≡ same_reducts rs allowance (reducts_of_lines k (line_in recs [] words i) (line_in recs [] words m))
unfolding reducts_of line_in
reducts_same rs allowance recs words i m k left right laid other first second r el er ea eo s t e = rw (s, t, el, er, ea, eo) at e

-- No second answer fits the check's promise: two answers that mean the same verdict are the same answer.
use Prim.Native.Nat.{ℕ}
use mathlib.Core.Path.{◌≡◌, sym, ◌∙◌}
use mathlib.Core.List.{List}
use Rattle.std.specs.Prelude.{Result as Outcome}
use Rattle.words.proofs.AnswerLaws.{result_once}
use Rattle.words.specs.declared.refusals.Refusal.{Refusal}
use Rattle.chains.specs.Answers.{verdict_as}
use Rattle.checking.specs.Check.{check_result}

pub verdict_once : (r s : Outcome (Unit {0}) Refusal) → verdict_as r ≡ verdict_as s → r ≡ s
verdict_once = result_once (λ (u : Unit {0}). u) (λ a b e. e)

pub check_once : (sheet table : List ℕ) (r s : Outcome (Unit {0}) Refusal) → verdict_as r ≡ check_result sheet table → verdict_as s ≡ check_result sheet table → r ≡ s
check_once sheet table r s e f = verdict_once r s (e ∙ sym f)

-- No second answer fits a promise. What the values of an answer say determines it, and the promise gives the values and every byte of the output.
use Prim.Native.Nat.{ℕ}
use mathlib.Core.Path.{◌≡◌, refl, sym, ◌∙◌, ap}
use mathlib.Core.List.{List}
use Rattle.words.specs.Refusal.{Result}
use Rattle.words.proofs.AnswerLaws.{result_once}
use Rattle.rewriting.specs.Normal.{Counted}
use Rattle.queries.specs.Pair.{PairFound}
use Rattle.std.proofs.Common.{Bool, Option, None, Some}
use Rattle.std.proofs.Common.{Result as Outcome}
use Rattle.reducing.specs.Answers.{fares_as}
use Rattle.queries.specs.Calls.{reduced_as, WordCalled, lengths_as, paired_as, PairCalled}
use Rattle.words.specs.declared.refusals.Refusal.{Refusal}
use Rattle.queries.specs.declared.Reached.{Reached}
use Rattle.queries.specs.declared.Lengths.{Lengths}

pub fares_once : (r s : Outcome Bool Refusal) → fares_as r ≡ fares_as s → r ≡ s
fares_once r s e = result_once (λ (t : Bool). t) (λ x y h. h) r s e

pub reduced_once : (r s : Outcome Reached Refusal) → reduced_as r ≡ reduced_as s → r ≡ s
reduced_once r s e = result_once (λ (a : Reached). a) (λ x y h. h) r s e

lengths_once : (r s : Option Lengths) → lengths_as r ≡ lengths_as s → r ≡ s
lengths_once None None e = refl
lengths_once None (Some b) e = cc
lengths_once (Some a) None e = cc
lengths_once (Some a) (Some b) e = ap Some (lengths a b (cc) (cc) (cc))
  where
    lengths : (a b : Lengths) → a.peak ≡ b.peak → a.first ≡ b.first → a.second ≡ b.second → a ≡ b
    lengths a b p f s = λ i. record { peak = p i; first = f i; second = s i }

pub paired_once : (r s : Outcome (Option Lengths) Refusal) → paired_as r ≡ paired_as s → r ≡ s
paired_once r s e = result_once lengths_as lengths_once r s e

pub called_once : (x : Result Counted) (d b c : List ℕ) (r s : Outcome Reached Refusal) → WordCalled x d b r → WordCalled x d c s → (r ≡ s) × (b ≡ c)
called_once x d b c r s p q = (reduced_once r s (p.answer ∙ sym q.answer), p.output ∙ sym q.output)

pub pair_called_once : (x : Result PairFound) (d b c : List ℕ) (r s : Outcome (Option Lengths) Refusal) → PairCalled x d b r → PairCalled x d c s → (r ≡ s) × (b ≡ c)
pair_called_once x d b c r s p q = (paired_once r s (p.answer ∙ sym q.answer), p.output ∙ sym q.output)

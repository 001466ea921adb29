-- No second answer fits. Specification, "Promises": each contract "fixes the answer, the count, the place and every byte of every lent buffer, for all
-- inputs". One field a call, and one for what the program prints: two answers, and two contents of each lent buffer at the end, that both meet
-- the promise for the same inputs, are the same. The functions for other languages, and the search over lent rules, give their whole answer by an
-- equation, which leaves nothing to prove.
use Rattle.std.specs.Prelude.{ℕ, ◌≡◌, Bool, List, Option, length}
use Rattle.std.specs.Prelude.{Result as Outcome}
use Rattle.std.specs.declared.cmp.Ordering.{Ordering}
use Rattle.words.specs.Answer.{compared_as}
use Rattle.words.specs.Comparing.{compare_result}
use Rattle.words.specs.declared.refusals.Refusal.{Refusal}
use Rattle.words.specs.declared.Order.{Order}
use Rattle.reducing.specs.Answers.{fares_as}
use Rattle.queries.specs.Calls.{WordCalled, PairCalled}
use Rattle.queries.specs.Pair.{pair_result}
use Rattle.queries.specs.Queries.{one_result, normal_result, same_result}
use Rattle.queries.specs.declared.Reached.{Reached}
use Rattle.queries.specs.declared.Lengths.{Lengths}
use Rattle.chains.specs.Answers.{verdict_as}
use Rattle.checking.specs.Check.{check_result}
use Rattle.completing.specs.Calls.{complete_result, CompleteCalled}
use Rattle.buffers.specs.Appended.{Appended}
use Rattle.listing.specs.Calls.{list_result, ListCalled}
use Rattle.printing.specs.Listing.{listing}

pub record OneAnswer : Type 0 where
  pub compare : (order : Order) (letters : ℕ) (u v : List ℕ) (r s : Outcome Ordering Refusal)
      → compared_as r ≡ compare_result order letters u v → compared_as s ≡ compare_result order letters u v → r ≡ s
  pub one : (table word out b c : List ℕ) (r s : Outcome Reached Refusal)
      → WordCalled (one_result table word (length out)) out b r → WordCalled (one_result table word (length out)) out c s → (r ≡ s) × (b ≡ c)
  pub normal : (table word : List ℕ) (allowance : ℕ) (out b c : List ℕ) (r s : Outcome Reached Refusal)
      → WordCalled (normal_result table word allowance (length out)) out b r
      → WordCalled (normal_result table word allowance (length out)) out c s → (r ≡ s) × (b ≡ c)
  pub pair : (table : List ℕ) (n m k : ℕ) (out b c : List ℕ) (r s : Outcome (Option Lengths) Refusal)
      → PairCalled (pair_result table n m k (length out)) out b r → PairCalled (pair_result table n m k (length out)) out c s → (r ≡ s) × (b ≡ c)
  pub same : (table u v : List ℕ) (allowance : ℕ) (r s : Outcome Bool Refusal)
      → fares_as r ≡ same_result table u v allowance → fares_as s ≡ same_result table u v allowance → r ≡ s
  pub check : (sheet table : List ℕ) (r s : Outcome (Unit {0}) Refusal) → verdict_as r ≡ check_result sheet table → verdict_as s ≡ check_result sheet table → r ≡ s
  pub complete : (sheet out b c work v u : List ℕ) (r s : Outcome ℕ Refusal)
      → CompleteCalled (complete_result sheet (length out) (length work)) out b work v r
      → CompleteCalled (complete_result sheet (length out) (length work)) out c work u s → (r ≡ s) × (b ≡ c) × (v ≡ u)
  pub list : (table out b c : List ℕ) (r s : Outcome ℕ Refusal)
      → ListCalled (list_result table (length out)) out b r → ListCalled (list_result table (length out)) out c s → (r ≡ s) × (b ≡ c)
  -- what the program prints, whatever bound the promise gives its length
  pub tell : (input text b c : List ℕ) (most r s : ℕ)
      → Appended text b 0 r most (listing input) → Appended text c 0 s most (listing input) → (r ≡ s) × (b ≡ c)

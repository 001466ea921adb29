-- What lines that meet condition 3 have: every chain holds, and every line goes down.
use Prim.Native.Nat.{ℕ, ◌<◌, Ordering}
use native.Mathlib.Omega.{arith}
use mathlib.Core.Path.{◌≡◌, refl}
use mathlib.Core.List.{List}
use mathlib.Core.Bool.{true}
use lib.ListN.{length}
use Rattle.words.specs.Order.{Below, order_by}
use Rattle.words.specs.declared.Order.{Order}
use Rattle.words.proofs.OrderLaws.{above}
use Rattle.words.proofs.BothOrders.{order_by_order}
use Rattle.rewriting.specs.Sheet.{Equation, Line, line_at}
use Rattle.rewriting.specs.Steps.{chain_holds}
use Rattle.chains.specs.Verdict.{met, unless}
use Rattle.chains.specs.Chains.{is_greater, chain_verdict, direction_verdict}
use Rattle.chains.proofs.EachLaws.{unless_met, each_met}

pub chains_hold : (es : List Equation) (ts : List Line) → chain_verdict es ts ≡ met → (j : ℕ) → j < length ts → chain_holds es ts (line_at ts j) ≡ true
unfolding chain_verdict
chains_hold es ts e j l = unless_met (chain_holds es ts (line_at ts j)) 12 j (each_met (length ts) (λ i. unless (chain_holds es ts (line_at ts i)) 12 i) e j l)

greater_is : (o : Ordering) → is_greater o ≡ true → o ≡ Ordering.gt
greater_is Ordering.lt e = let z : ◌≡◌ {A = ℕ} 0 1 = cc in absurd (omega arith)
greater_is Ordering.eq e = let z : ◌≡◌ {A = ℕ} 0 1 = cc in absurd (omega arith)
greater_is Ordering.gt e = refl

pub directions_hold : (o : Order) (ts : List Line) → direction_verdict o ts ≡ met → (j : ℕ) → j < length ts
    → Below (order_by o) (line_at ts j).right (line_at ts j).left
unfolding direction_verdict
directions_hold o ts e j l =
    let c = order_by o (line_at ts j).left (line_at ts j).right in
    let g = unless_met (is_greater c) 13 j (each_met (length ts) (λ i. unless (is_greater (order_by o (line_at ts i).left (line_at ts i).right)) 13 i) e j l) in
    above (order_by_order o) (line_at ts j).left (line_at ts j).right (greater_is c g)

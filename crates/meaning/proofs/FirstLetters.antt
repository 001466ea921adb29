-- The rules of the first letters and the blocks agree. That the blocks have the rules are the laws of kachinuki. Two comparisons that have them agree:
-- by induction on the first word, and within it on the second, each rule hands both on to the same shorter words.
use Prim.Native.Nat.{ℕ, compare, Ordering}
use mathlib.Core.Logic.{inl, inr, ⊎_elim}
use mathlib.Core.List.{[], ◌∷◌}
use Rattle.words.specs.Word.{Word}
use Rattle.words.specs.Order.{Below}
use Rattle.words.specs.Kachinuki.{kachinuki}
use Rattle.words.proofs.CompareLaws.{Stands, lower, level, upper, stands}
use Rattle.words.proofs.OrderLaws.{nil_least}
use Rattle.words.proofs.KachinukiLaws.{equal_exactly, greater_exactly, smaller_exactly, nil_below, kachinuki_order}
use Rattle.meaning.specs.FirstLetters.{FirstLetters, BlocksAgree}

blocks_have : FirstLetters (Below kachinuki)
blocks_have = record {
  equal = equal_exactly;
  greater = greater_exactly;
  smaller = smaller_exactly;
  empty = nil_below;
  least = nil_least kachinuki_order;
}

module _ (A B : Word → Word → Type 0) (f : FirstLetters A) (g : FirstLetters B) where
  -- from what holds of the rest of the first word
  longer : (s : ℕ) (t : Word) → ((v : Word) → A t v → B t v) → (v : Word) → A (s ∷ t) v → B (s ∷ t) v
  longer s t rest [] a = absurd (f.least (s ∷ t) a)
  longer s t rest (r ∷ u) a = go (compare s r) (stands s r) (longer s t rest u)
    where
      go : (o : Ordering) → Stands s r o → (A (s ∷ t) u → B (s ∷ t) u) → B (s ∷ t) (r ∷ u)
      go Ordering.lt (lower h) on = (g.smaller s r t u h).1 (rest (r ∷ u) ((f.smaller s r t u h).0 a))
      go Ordering.eq (level h) on = rw (← h) ((g.equal s t u).1 (rest u ((f.equal s t u).0 (rw (← h) at a))))
      go Ordering.gt (upper h) on = (g.greater s r t u h).1 (⊎_elim (λ l. inl (on l)) inr ((f.greater s r t u h).0 a))

  handed_on : (t u : Word) → A t u → B t u
  handed_on [] [] a = absurd (f.least [] a)
  handed_on [] (r ∷ u) a = g.empty r u
  handed_on (s ∷ t) u a = longer s t (λ v. handed_on t v) u a

pub blocks_agree : BlocksAgree
blocks_agree = record {
  rules = blocks_have;
  only = λ Less f t u. (handed_on Less (Below kachinuki) f blocks_have t u, handed_on (Below kachinuki) Less blocks_have f t u);
}

-- Words at most another one, where rules go down in an order: every word of a reduction is at most its start.
use Prim.Native.Nat.{Ordering}
use mathlib.Core.Path.{◌≡◌, refl}
use mathlib.Core.Logic.{◌⊎◌, inl, inr}
use Rattle.words.specs.Word.{Word}
use Rattle.words.specs.Order.{Below, IsOrder}
use Rattle.words.proofs.OrderLaws.{transitive}
use Rattle.rewriting.specs.Links.{Rules, Chain, Reduces, Sinks}
use Rattle.rewriting.proofs.Chains.{reduces_chain}
use Rattle.rewriting.proofs.Sinking.{replaces_sinks}

-- u is p or below p
abbrev pub AtMost : (Word → Word → Ordering) → Word → Word → Type 0
AtMost cmp u p = (u ≡ p) ⊎ Below cmp u p

module _ {cmp : Word → Word → Ordering} (o : IsOrder cmp) where
  -- below a word that is at most p
  pub below_at_most : (u v p : Word) → Below cmp u v → AtMost cmp v p → Below cmp u p
  below_at_most u v p h (inl e) = rw e at h
  below_at_most u v p h (inr k) = transitive o u v p h k

  -- every word of a reduction is at most its start
  pub reduces_at_most : {R : Rules} → Sinks cmp R → {u v : Word} → Reduces R u v → Chain R (λ w. AtMost cmp w u) u v
  reduces_at_most sinks {u} c = reduces_chain (λ v w s p. inr (below_at_most w v u (replaces_sinks o sinks s) p)) (inl refl) c

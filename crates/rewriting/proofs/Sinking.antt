-- Rules that go down in the order. By the replacement property so does every replacement, hence a reduction from below a word stays below it,
-- and two words that reduce to one are linked below every word that both are below.
use Prim.Native.Nat.{Ordering}
use Rattle.words.specs.Word.{Word}
use Rattle.words.specs.Order.{Below, IsOrder}
use Rattle.rewriting.specs.Links.{Rules, between, Replaces, LinkedBelow, Reduces, Normal, Sinks}
use Rattle.rewriting.proofs.Chains.{chain_append, chain_reverse, chain_within, reduces_chain}
use Rattle.words.proofs.OrderLaws.{transitive}

module _ {cmp : Word → Word → Ordering} (o : IsOrder cmp) where
  -- a chain below p, in a context
  pub below_within : {R : Rules} {u v p : Word} (x y : Word) → LinkedBelow cmp R p u v → LinkedBelow cmp R (between x y p) (between x y u) (between x y v)
  below_within {p = p} x y c = chain_within x y (λ w h. o.within x y w p h) c

  module _ {R : Rules} (sinks : Sinks cmp R) where
    pub replaces_sinks : {u v : Word} → Replaces R u v → Below cmp v u
    replaces_sinks s = rw (s.start, s.end) (o.within s.before s.behind s.right s.left (sinks s.left s.right s.rule))

    -- a reduction from below p stays below p
    reduces_below : {u v : Word} (p : Word) → Below cmp u p → Reduces R u v → LinkedBelow cmp R p u v
    reduces_below p h c = reduces_chain (λ v w s k. transitive o w v p (replaces_sinks s) k) h c

    -- two words below p with one normal word are linked below p
    pub joined : {u v z : Word} (p : Word) → Below cmp u p → Below cmp v p → Normal R u z → Normal R v z → LinkedBelow cmp R p u v
    joined p h k n m = chain_append (reduces_below p h n.reaches) (chain_reverse (reduces_below p k m.reaches))

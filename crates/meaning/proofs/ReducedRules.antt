-- Two sets of rules that decide the same links and are reduced have the same rules. A word that one set cannot replace is least among the words linked
-- to it, and the other set replaces only by smaller linked words, so it cannot replace it either. Hence a left word of the one holds a left
-- word of the other, which holds one of the first again; as no left word holds another, all three are one word. Its two right words are linked
-- and irreducible, so they are one word too.
use Prim.Native.Nat.{◌≤◌, Ordering}
use native.Mathlib.Omega.{arith}
use mathlib.Core.Path.{◌≡◌, sym, ◌∙◌, ap, subst}
use mathlib.Core.Logic.{◌⊎◌, inl, inr}
use mathlib.Core.List.{[], ◌∷◌, ◌++◌, append-nil}
use lib.ListN.{length, length-append}
use Rattle.words.specs.Word.{Word}
use Rattle.words.specs.Order.{IsOrder}
use Rattle.words.proofs.OrderLaws.{irreflexive}
use Rattle.rewriting.specs.Links.{Rules, between, Replaces, Linked, stay, Irreducible, Normal, Sinks}
use Rattle.rewriting.proofs.Chains.{between_between, replaces_rule, chain_start, chain_append, chain_reverse, chain_step, linked_replace, reduces_linked}
use Rattle.rewriting.proofs.Sinking.{replaces_sinks}
use Rattle.rewriting.proofs.NormalWords.{normal}
use Rattle.meaning.proofs.AtMost.{AtMost, below_at_most, reduces_at_most}

-- rules that go down in the order and whose normal words tell what E links
pub record Deciding (cmp : Word → Word → Ordering) (E R : Rules) : Type 0 where
  pub sinks : Sinks cmp R
  pub next : (u : Word) → ((v : Word) × Replaces R u v) ⊎ Irreducible R u
  pub sound : (l r : Word) → R l r → Linked E l r
  pub share : (u v z y : Word) → Normal R u z → Normal R v y → Linked E u v → z ≡ y

-- an irreducible word is its own normal word
own : {R : Rules} {u : Word} → Irreducible R u → Normal R u u
own f = record { reaches = stay; final = f }

module _ {cmp : Word → Word → Ordering} (o : IsOrder cmp) {E : Rules} where
  -- an irreducible word is at most every word linked to it
  least : {R : Rules} → Deciding cmp E R → (u v : Word) → Irreducible R u → Linked E u v → AtMost cmp u v
  least d u v f c =
      let (z, n) = normal o d.sinks d.next v in
      let e : u ≡ z = d.share u v u z (own f) n c in
      rw e (chain_start (chain_reverse (reduces_at_most o d.sinks n.reaches)))

  module _ {R S : Rules} (d : Deciding cmp E R) (g : Deciding cmp E S) where
    -- what the one cannot replace, the other cannot
    same_final : (u : Word) → Irreducible R u → Irreducible S u
    same_final u f v s =
        let c : Linked E u v = linked_replace g.sound (chain_step tt tt s) in
        irreflexive o v (below_at_most o v u v (replaces_sinks o g.sinks s) (least d u v f c))

  module _ {R S : Rules} (d : Deciding cmp E R) (g : Deciding cmp E S) where
    pub same_normal_lem : (u z : Word) → Normal R u z → Normal S u z
    same_normal_lem u z n =
        let (y, m) = normal o g.sinks g.next u in
        let c : Linked E u y = linked_replace g.sound (reduces_linked m.reaches) in
        let e : z ≡ y = d.share u y z y n (own (same_final g d y m.final)) c in
        rw e m

    -- a left word of the one holds a left word of the other
    holds_left : (l r : Word) → R l r → (v : Word) × Replaces S l v
    holds_left l r h = go (g.next l)
      where
        go : ((v : Word) × Replaces S l v) ⊎ Irreducible S l → (v : Word) × Replaces S l v
        go (inl s) = s
        go (inr f) = absurd (same_final g d l f r (replaces_rule h))

-- a word that is no longer than a part of itself is that part
part_whole : (x y k : Word) → length (between x y k) ≤ length k → between x y k ≡ k
part_whole [] [] k h = append-nil k
part_whole [] (b ∷ y) k h = absurd (omega (arith, simp length-append at h))
part_whole (a ∷ x) y k h = absurd (omega (arith, simp length-append at h))

-- no left word holds another, and no right word can be replaced
pub record Reduced (R : Rules) : Type 0 where
  pub lefts : (l r k s x y : Word) → R l r → R k s → l ≡ between x y k → l ≡ k
  pub rights : (l r : Word) → R l r → Irreducible R r

module _ {cmp : Word → Word → Ordering} (o : IsOrder cmp) {E R S : Rules}
    (d : Deciding cmp E R) (g : Deciding cmp E S) (reduced : Reduced R) (other : Reduced S) where
  -- the left word of S that the left word l of R holds is l
  left_same : (l r k s x y : Word) → R l r → S k s → l ≡ between x y k → l ≡ k
  left_same l r k s x y h i e =
      let (v, t) = holds_left o g d k s i in
      let p = t.start in
      let whole : l ≡ between (x ++ t.before) (t.behind ++ y) t.left = e ∙ ap (between x y) p ∙ between_between x y t.before t.behind t.left in
      let q = reduced.lefts l r t.left t.right (x ++ t.before) (t.behind ++ y) h t.rule whole in
      e ∙ part_whole x y k (omega (arith, ap length q, simp length-append at (ap length p), ap length e))

  -- two rules with one left word have one right word
  right_same : (l r s : Word) → R l r → S l s → r ≡ s
  right_same l r s h i =
      let c : Linked E r s = chain_append (chain_reverse (d.sound l r h)) (g.sound l s i) in
      d.share r s r s (own (reduced.rights l r h)) (own (same_final o g d s (other.rights l s i))) c

  pub same_rule : (l r : Word) → R l r → S l r
  same_rule l r h =
      let (v, t) = holds_left o d g l r h in
      let e = left_same l r t.left t.right t.before t.behind h t.rule t.start in
      let i = subst (λ (k : Word). S k t.right) (sym e) t.rule in
      subst (S l) (sym (right_same l r t.right h i)) i

-- Normal words exist and are unique. Replacing goes down in the order, so it ends. Where any two replacements from a word are joined
-- below it, suppose that every word below u has one normal word: along a chain below u it is the same for all, so both replacements
-- from u lead to it. Then linked words have the same normal word, and words with the same normal word are linked.
use Prim.Native.Nat.{Ordering}
use mathlib.Core.Path.{◌≡◌, refl, ◌∙◌}
use mathlib.Core.Logic.{◌⊎◌, inl, inr}
use mathlib.Core.WellFounded.{recursion}
use Rattle.words.specs.Word.{Word}
use Rattle.words.specs.Order.{Below, IsOrder}
use Rattle.rewriting.specs.Links.{Rules, Replaces, Chain, stop, down, up, Linked, Reduces, stay, replace, Irreducible, Normal, Sinks, Local}
use Rattle.rewriting.proofs.Chains.{chain_append, chain_reverse, replaces_weaken, reduces_weaken, reduces_linked}
use Rattle.rewriting.proofs.Sinking.{replaces_sinks}

-- words with one normal word are linked
pub normal_linked : {R : Rules} {u v z : Word} → Normal R u z → Normal R v z → Linked R u v
normal_linked n m = chain_append (reduces_linked n.reaches) (chain_reverse (reduces_linked m.reaches))

-- what a word is replaced by has its normal words
pub replaces_normal : {R : Rules} {u v z : Word} → Replaces R u v → Normal R v z → Normal R u z
replaces_normal s n = record { reaches = replace s n.reaches; final = n.final }

-- two sets of rules with the same rules have the same normal words
pub normal_same : {R S : Rules} → ((l r : Word) → R l r → S l r) → ((l r : Word) → S l r → R l r) → {u z : Word} → Normal R u z → Normal S u z
normal_same f g n = record { reaches = reduces_weaken f n.reaches; final = λ v s. n.final v (replaces_weaken g s) }

-- a word has at most one normal word
abbrev Single : Rules → Word → Type 0
Single R u = (z y : Word) → Normal R u z → Normal R u y → z ≡ y

module _ {cmp : Word → Word → Ordering}
    (o : IsOrder cmp)
    {R : Rules}
    (sinks : Sinks cmp R)
    (next : (u : Word) → ((v : Word) × Replaces R u v) ⊎ Irreducible R u) where
  -- every word has a normal word
  pub normal : (u : Word) → (z : Word) × Normal R u z
  normal u = recursion o.well_founded {C = λ (w : Word). (z : Word) × Normal R w z} u (λ w ih. go w ih (next w))
    where
      go : (w : Word)
          → ((v : Word) → Below cmp v w → (z : Word) × Normal R v z)
          → ((v : Word) × Replaces R w v) ⊎ Irreducible R w
          → (z : Word) × Normal R w z
      go w ih (inl s) = let n = ih s.0 (replaces_sinks o sinks s.1) in (n.0, replaces_normal s.1 n.1)
      go w ih (inr f) = (w, record { reaches = stay; final = f })

  -- through words that have one normal word each it is the same for all
  chain_single : {P : Word → Type 0}
      → ((u : Word) → P u → Single R u)
      → {u v : Word}
      → Chain R P u v
      → (z y : Word)
      → Normal R u z
      → Normal R v y
      → z ≡ y
  chain_single one (stop {u} p) z y n m = one u p z y n m
  chain_single one (down {u} {v} p s c) z y n m =
      let k = normal v in
      one u p z k.0 n (replaces_normal s k.1) ∙ chain_single one c k.0 y k.1 m
  chain_single one (up p s c) z y n m = chain_single one c z y (replaces_normal s n) m

  module _ (local : Local cmp R) where
    -- two reductions from u, where every word below u has one normal word
    meet : {u z y : Word} → ((v : Word) → Below cmp v u → Single R v) → Reduces R u z → Irreducible R z → Reduces R u y → Irreducible R y → z ≡ y
    meet one stay f stay g = refl
    meet one stay f (replace {v = w} t d) g = absurd (f w t)
    meet one (replace {v = v} s c) f stay g = absurd (g v s)
    meet {z = z} {y} one (replace {u} {v} s c) f (replace {v = w} t d) g =
        chain_single one (local u v w s t) z y (record { reaches = c; final = f }) (record { reaches = d; final = g })

    -- a word has one normal word
    pub unique : (u z y : Word) → Normal R u z → Normal R u y → z ≡ y
    unique u = recursion o.well_founded {C = Single R} u (λ w ih z y n m. meet ih n.reaches n.final m.reaches m.final)

    -- linked words have the same normal word
    pub linked_normal : {u v : Word} → Linked R u v → (z y : Word) → Normal R u z → Normal R v y → z ≡ y
    linked_normal c = chain_single (λ u p. unique u) c

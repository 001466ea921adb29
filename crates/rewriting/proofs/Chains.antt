-- Chains of replacements. Where every step of one chain, seen through a map of words, is itself a chain, so is the whole: `chain_bind`.
-- A chain in a context, through a weaker property, or by rules each of which is a chain of others, is a case of it.
-- Replacements down compose, go into a context, and are a chain through every property that a replacement keeps.
use mathlib.Core.Path.{◌≡◌, sym}
use mathlib.Core.List.{[], ◌++◌, append_assoc, append-nil}
use Rattle.words.specs.Word.{Word}
use Rattle.rewriting.specs.Links.{Rules, between, Replaces, Chain, stop, down, up, Linked, Reduces, stay, replace}

-- what stands between x and y, between z and w
pub between_between : (x y z w u : Word) → between x y (between z w u) ≡ between (x ++ z) (w ++ y) u
between_between x y z w u = simp append_assoc

-- a rule replaces its whole left word
pub replaces_rule : {R : Rules} {l r : Word} → R l r → Replaces R l r
replaces_rule {l = l} {r} h = record {
  before = [];
  behind = [];
  left = l;
  right = r;
  rule = h;
  start = sym (append-nil l);
  end = sym (append-nil r);
}

-- a replacement in a context
pub replaces_within : {R : Rules} {u v : Word} (x y : Word) → Replaces R u v → Replaces R (between x y u) (between x y v)
replaces_within x y s = record {
  before = x ++ s.before;
  behind = s.behind ++ y;
  left = s.left;
  right = s.right;
  rule = s.rule;
  start = rw s.start (between_between x y s.before s.behind s.left);
  end = rw s.end (between_between x y s.before s.behind s.right);
}

-- a rule in a context
pub replaces_there : {R : Rules} (x y l r : Word) → R l r → Replaces R (between x y l) (between x y r)
replaces_there x y l r h = replaces_within x y (replaces_rule h)

-- a replacement by rules that are all rules of S
pub replaces_weaken : {R S : Rules} {u v : Word} → ((l r : Word) → R l r → S l r) → Replaces R u v → Replaces S u v
replaces_weaken f s = record {
  before = s.before;
  behind = s.behind;
  left = s.left;
  right = s.right;
  rule = f s.left s.right s.rule;
  start = s.start;
  end = s.end;
}

module _ {R : Rules} {P : Word → Type 0} where
  pub chain_start : {u v : Word} → Chain R P u v → P u
  chain_start (stop p) = p
  chain_start (down p s c) = p
  chain_start (up p s c) = p

  pub chain_append : {u v w : Word} → Chain R P u v → Chain R P v w → Chain R P u w
  chain_append (stop p) d = d
  chain_append (down p s c) d = down p s (chain_append c d)
  chain_append (up p s c) d = up p s (chain_append c d)

  pub chain_reverse : {u v : Word} → Chain R P u v → Chain R P v u
  chain_reverse (stop p) = stop p
  chain_reverse (down p s c) = chain_append (chain_reverse c) (up (chain_start c) s (stop p))
  chain_reverse (up p s c) = chain_append (chain_reverse c) (down (chain_start c) s (stop p))

  -- one replacement, between two words with the property
  pub chain_step : {u v : Word} → P u → P v → Replaces R u v → Chain R P u v
  chain_step p q s = down p s (stop q)

-- where each replacement is a chain, seen through f, so is a chain of them
pub chain_bind : {R S : Rules} {P Q : Word → Type 0} (f : Word → Word)
    → ((u : Word) → P u → Q (f u))
    → ((u v : Word) → P u → P v → Replaces R u v → Chain S Q (f u) (f v))
    → {u v : Word}
    → Chain R P u v
    → Chain S Q (f u) (f v)
chain_bind f keep each (stop {u} p) = stop (keep u p)
chain_bind f keep each (down {u} {v} p s c) = chain_append (each u v p (chain_start c) s) (chain_bind f keep each c)
chain_bind f keep each (up {u} {v} p s c) = chain_append (chain_reverse (each v u (chain_start c) p s)) (chain_bind f keep each c)

-- a chain in a context, through what the context makes of its words
pub chain_within : {R : Rules} {P Q : Word → Type 0} (x y : Word)
    → ((u : Word) → P u → Q (between x y u))
    → {u v : Word}
    → Chain R P u v
    → Chain R Q (between x y u) (between x y v)
chain_within x y keep c = chain_bind (between x y) keep (λ u v p q s. chain_step (keep u p) (keep v q) (replaces_within x y s)) c

-- linked words are linked in every context
pub linked_within : {R : Rules} {u v : Word} (x y : Word) → Linked R u v → Linked R (between x y u) (between x y v)
linked_within x y c = chain_within x y (λ u p. tt) c

-- rules that are chains of others where they stand
pub chain_replace : {R S : Rules} {P Q : Word → Type 0}
    → ((u : Word) → P u → Q u)
    → ((x y l r : Word) → R l r → P (between x y l) → Chain S Q (between x y l) (between x y r))
    → {u v : Word}
    → Chain R P u v
    → Chain S Q u v
chain_replace {S = S} {P} {Q} keep each c =
    chain_bind (λ u. u) keep
    (λ u v p q s. rw (s.start, s.end) (each s.before s.behind s.left s.right s.rule (rw s.start at p))) c

-- rules whose sides others link
pub linked_replace : {R S : Rules} → ((l r : Word) → R l r → Linked S l r) → {u v : Word} → Linked R u v → Linked S u v
linked_replace each c = chain_replace (λ u p. tt) (λ x y l r h p. linked_within x y (each l r h)) c

pub reduces_append : {R : Rules} {u v w : Word} → Reduces R u v → Reduces R v w → Reduces R u w
reduces_append stay d = d
reduces_append (replace s c) d = replace s (reduces_append c d)

pub reduces_within : {R : Rules} {u v : Word} (x y : Word) → Reduces R u v → Reduces R (between x y u) (between x y v)
reduces_within x y stay = stay
reduces_within x y (replace s c) = replace (replaces_within x y s) (reduces_within x y c)

pub reduces_weaken : {R S : Rules} → ((l r : Word) → R l r → S l r) → {u v : Word} → Reduces R u v → Reduces S u v
reduces_weaken f stay = stay
reduces_weaken f (replace s c) = replace (replaces_weaken f s) (reduces_weaken f c)

-- replacements down are a chain through every property that a replacement keeps
pub reduces_chain : {R : Rules} {P : Word → Type 0}
    → ((u v : Word) → Replaces R u v → P u → P v)
    → {u v : Word}
    → P u
    → Reduces R u v
    → Chain R P u v
reduces_chain keep p stay = stop p
reduces_chain keep p (replace {u} {v} s c) = down p s (reduces_chain keep (keep u v s p) c)

pub reduces_linked : {R : Rules} {u v : Word} → Reduces R u v → Linked R u v
reduces_linked c = reduces_chain (λ u v s p. tt) tt c

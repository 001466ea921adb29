-- A lineage that holds links the line's sides by the sheet. Each step exchanges the sides of an equation or of an earlier line in a context; an
-- earlier line's sides are linked by the sheet already, by induction on the line's number, so the whole chain is one of equations.
use Prim.Native.Nat.{ℕ, zero, suc, ◌+◌, ◌-◌, ◌≤◌, ◌<◌}
use mathlib.Core.Path.{◌≡◌, refl, sym, ap, subst}
use mathlib.Core.Bool.{Bool, true, false, cond, ◌&&◌, and-eq-true_iff, true≢false}
use mathlib.Core.List.{List, [], ◌∷◌, Memᴰ}
use native.Mathlib.Omega.{arith}
use borrow.Author.Tests.{leb-true, ltb-true, ltb-false}
use lib.Dec.{leb, ltb}
use lib.ListN.{length, take, drop}
use Rattle.words.specs.Word.{Word}
use Rattle.rewriting.specs.Standing.{stands_at, replace_at}
use Rattle.rewriting.specs.Sheet.{Equation, Step, Line, line_at, equation_at}
use Rattle.rewriting.specs.Steps.{named_sides, Led, astray, to, on_word, exchange, step_to, leads, same_word, ends_at, chain_holds, Lineage}
use Rattle.rewriting.specs.Links.{Rules, Linked, stop, OfSheet}
use Rattle.rewriting.proofs.Chains.{replaces_rule, chain_step, chain_append, chain_reverse, linked_within}
use Rattle.rewriting.proofs.LetterTests.{letter_says, letter_is}
use Rattle.rewriting.proofs.StandingLaws.{stands_between}

pub same_word_lem : (u v : Word) → same_word u v ≡ true → u ≡ v
unfolding same_word
same_word_lem [] [] h = refl
same_word_lem [] (b ∷ v) h = absurd (true≢false (sym h))
same_word_lem (a ∷ u) [] h = absurd (true≢false (sym h))
same_word_lem (a ∷ u) (b ∷ v) h =
    let k = letter_says a b (same_word u v) h in
    let f = same_word_lem u v k.1 in
    cc

pub word_same : (u : Word) → same_word u u ≡ true
unfolding same_word
word_same [] = refl
word_same (a ∷ u) = letter_is a (same_word u u) (word_same u)

-- what an exchange that does not go astray did
pub exchange_says : (from by : Word) (p : ℕ) (w v : Word)
    → exchange from by p w ≡ to v
    → (stands_at from w p ≡ true) × (v ≡ replace_at w p (length from) by) × (length v ≤ 128)
unfolding exchange
exchange_says from by p w v h = go (stands_at from w p && leb (length (replace_at w p (length from) by)) 128) refl h
  where
    go : (b : Bool)
        → stands_at from w p && leb (length (replace_at w p (length from) by)) 128 ≡ b
        → cond b (to (replace_at w p (length from) by)) astray ≡ to v
        → (stands_at from w p ≡ true) × (v ≡ replace_at w p (length from) by) × (length v ≤ 128)
    go true e f =
        let k = (and-eq-true_iff (stands_at from w p) (leb (length (replace_at w p (length from) by)) 128)).0 e in
        let v≡ : v ≡ replace_at w p (length from) by = cc in
        (k.0, v≡, rw v≡ (leb-true (length (replace_at w p (length from) by)) 128 k.1))
    go false e f = let z : ◌≡◌ {A = ℕ} 0 1 = cc in absurd (omega arith)

module _ {R : Rules} where
  -- exchanging one side for another that is linked to it
  exchange_linked : (from by : Word) (p : ℕ) (w v : Word) → Linked R from by → exchange from by p w ≡ to v → Linked R w v
  exchange_linked from by p w v c h =
      let k = exchange_says from by p w v h in
      let inside = linked_within (take p w) (drop (p + length from) w) c in
      rw k.1 (subst (λ (x : Word). Linked R x (replace_at w p (length from) by)) (sym (stands_between from w p k.0)) inside)

  -- a step in either direction
  side_linked : (x : Equation) (back : Bool) (p : ℕ) (w v : Word)
      → Linked R x.left x.right
      → cond back (exchange x.right x.left p w) (exchange x.left x.right p w) ≡ to v
      → Linked R w v
  side_linked x true p w v c h = exchange_linked x.right x.left p w v (chain_reverse c) h
  side_linked x false p w v c h = exchange_linked x.left x.right p w v c h

  module _ (es : List Equation) (ts : List Line) where
    step_linked : (s : Step) (w v : Word)
        → Linked R (named_sides es ts s.reference).left (named_sides es ts s.reference).right
        → step_to es ts s w ≡ to v
        → Linked R w v
    unfolding step_to
    step_linked s w v c h = side_linked (named_sides es ts s.reference) s.back s.place w v c h

    -- a chain whose steps' named sides are linked links its ends
    pub leads_linked : (ss : List Step) (w v : Word)
        → ((s : Step) → Memᴰ s ss → Linked R (named_sides es ts s.reference).left (named_sides es ts s.reference).right)
        → leads es ts ss w ≡ to v
        → Linked R w v
    unfolding leads
    leads_linked [] w v c h = let e : w ≡ v = cc in rw e (stop tt)
    leads_linked (s ∷ ss) w v c h = go (step_to es ts s w) refl (λ x. leads_linked ss x v (λ t m. c t (Memᴰ.tail m))) h
      where
        go : (x : Led)
            → step_to es ts s w ≡ x
            → ((y : Word) → leads es ts ss y ≡ to v → Linked R y v)
            → on_word x (λ y. leads es ts ss y) ≡ to v
            → Linked R w v
        go astray e rest f = let z : ◌≡◌ {A = ℕ} 0 1 = cc in absurd (omega arith)
        go (to y) e rest f = chain_append (step_linked s w y (c s (Memᴰ.head refl)) e) (rest y f)

-- a line's chain leads to its right word
pub holds_leads : (es : List Equation) (ts : List Line) (t : Line) → chain_holds es ts t ≡ true → leads es ts t.steps t.left ≡ to t.right
unfolding chain_holds
holds_leads es ts t h = go (leads es ts t.steps t.left) h
  where
    go : (x : Led) → ends_at x t.right ≡ true → x ≡ to t.right
    go astray e = absurd (true≢false (sym e))
    go (to w) e = ap to (same_word_lem w t.right e)

-- the sides of an equation of the sheet are linked by the sheet
pub equation_linked : (es : List Equation) (k : ℕ) → k < length es → Linked (OfSheet es) (equation_at es k).left (equation_at es k).right
equation_linked es k h = chain_step tt tt (replaces_rule (record { number = k; listed = h; left = refl; right = refl }))

-- the sheet links the sides of the line j
abbrev SheetLinks : List Equation → List Line → ℕ → Type 0
SheetLinks es ts j = Linked (OfSheet es) (line_at ts j).left (line_at ts j).right

module _ (es : List Equation) (ts : List Line) where
  named_linked : (k b : ℕ)
      → ((i : ℕ) → i < b → SheetLinks es ts i)
      → k < length es + b
      → Linked (OfSheet es) (named_sides es ts k).left (named_sides es ts k).right
  unfolding named_sides
  named_linked k b lines h = go (ltb k (length es)) refl
    where
      line_sides : Equation
      line_sides = record { left = (line_at ts (k - length es)).left; right = (line_at ts (k - length es)).right }

      go : (t : Bool)
          → ltb k (length es) ≡ t
          → Linked (OfSheet es) (cond t (equation_at es k) line_sides).left (cond t (equation_at es k) line_sides).right
      go true e = equation_linked es k (ltb-true k (length es) e)
      go false e = let f = ltb-false k (length es) e in lines (k - length es) (omega arith)

  line_linked : (j : ℕ) → Lineage es ts j → ((i : ℕ) → i < j → SheetLinks es ts i) → SheetLinks es ts j
  line_linked j g lines =
      leads_linked es ts (line_at ts j).steps (line_at ts j).left (line_at ts j).right
      (λ s m. named_linked s.reference j lines (g.earlier s m))
      (holds_leads es ts (line_at ts j) g.holds)

  module _ (lineage : (j : ℕ) → j < length ts → Lineage es ts j) where
    lines_below : (b j : ℕ) → j < b → j < length ts → SheetLinks es ts j
    lines_below zero j h l = absurd (omega arith)
    lines_below (suc b) j h l = line_linked j (lineage j l) (λ i k. lines_below b i (omega arith) (omega arith))

    -- the sheet links the sides of every line
    pub lines_linked : (j : ℕ) → j < length ts → Linked (OfSheet es) (line_at ts j).left (line_at ts j).right
    lines_linked j h = lines_below (suc j) j (omega arith) h

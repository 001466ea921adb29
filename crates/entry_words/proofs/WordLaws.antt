-- An entry's two words. A side is copied as it is; the reducts of two lines are made of the lines' words, as these are read from the desk.
use Prim.Native.Nat.{ℕ, ◌≤◌}
use mathlib.Core.Path.{◌≡◌, refl, sym, ◌∙◌, ap}
use mathlib.Core.List.{List, []}
use mathlib.Core.Bool.{Bool, true, false}
use native.Mathlib.Omega.{arith}
use Rattle.std.specs.Prelude.{cond}
use lib.Dec.{ltb}
use borrow.Author.Tests.{ltb-true, ltb-false}
use lib.ListN.{get_or-eq_default}
use Rattle.words.specs.Word.{Word}
use Rattle.rewriting.specs.Pairs.{first_reduct, second_reduct, reducts_of, reducts_of_lines}
use Rattle.rewriting.specs.Sheet.{Equation, no_equation, equation_at, Line, line_at}
use Rattle.layout.specs.Slices.{line_left, line_right, equation_left, equation_right, equation_in, equations_in}
use Rattle.layout.proofs.SliceLaws.{equation_at_lem, equations_long}
use Rattle.workspace.specs.Areas.{record_area, letter_area}
use Rattle.workspace.specs.Waiting.{two_words}
use Rattle.workspace.specs.Work.{state_of}
use Rattle.workspace.specs.declared.Entry.{Entry}
use Rattle.workspace.specs.declared.Entry.TheVariants.{OfEquation, OfDeleted, OfOverlap}
use Rattle.workspace.specs.declared.Overlap.{Overlap}
use Rattle.workspace.specs.declared.Nums.{Nums}
use Rattle.workspace.proofs.ReadingLaws.{any_left_read, any_right_read}

-- the sides of an equation, empty where there is none
module _ (recs words : List ℕ) (n k : ℕ) where
  absent : n ≤ k → equation_at (equations_in recs words n) k ≡ no_equation
  absent h = get_or-eq_default (equations_in recs words n) no_equation (omega (arith, equations_long recs words n))

  pub any_equation_left : (r : List ℕ) → r ≡ cond (ltb k n) (equation_left recs words k) [] → r ≡ (equation_at (equations_in recs words n) k).left
  unfolding equation_in
  any_equation_left r e = go (ltb k n) refl
    where
      go : (b : Bool) → ltb k n ≡ b → r ≡ (equation_at (equations_in recs words n) k).left
      go true q = e ∙ rw q (sym (ap (λ (x : Equation). x.left) (equation_at_lem recs words n k (ltb-true k n q))))
      go false q = e ∙ rw q (sym (ap (λ (x : Equation). x.left) (absent (ltb-false k n q))))

  pub any_equation_right : (r : List ℕ) → r ≡ cond (ltb k n) (equation_right recs words k) [] → r ≡ (equation_at (equations_in recs words n) k).right
  unfolding equation_in
  any_equation_right r e = go (ltb k n) refl
    where
      go : (b : Bool) → ltb k n ≡ b → r ≡ (equation_at (equations_in recs words n) k).right
      go true q = e ∙ rw q (sym (ap (λ (x : Equation). x.right) (equation_at_lem recs words n k (ltb-true k n q))))
      go false q = e ∙ rw q (sym (ap (λ (x : Equation). x.right) (absent (ltb-false k n q))))

-- a reduct that was made: the words read are those of the lines
module _ (w : List ℕ) (x : Nums) (o : Overlap) (left laid z recs words : List ℕ) (n m k c : ℕ) (p : n ≡ o.n) (q : m ≡ o.m) (s : k ≡ o.place)
    (er : recs ≡ record_area w) (ew : words ≡ letter_area w) (ec : c ≡ x.lines)
    (el : left ≡ cond (ltb n c) (line_left recs words n) []) (ea : laid ≡ cond (ltb m c) (line_left recs words m) []) where
  first : left ≡ (line_at (state_of w x).lines o.n).left
  first = rw p at (any_left_read w x n left recs words c er ew ec el)

  second : laid ≡ (line_at (state_of w x).lines o.m).left
  second = rw q at (any_left_read w x m laid recs words c er ew ec ea)

  pub first_made : (right : Word) → right ≡ cond (ltb n c) (line_right recs words n) [] → z ≡ first_reduct k left right laid
      → z ≡ (reducts_of_lines o.place (line_at (state_of w x).lines o.n) (line_at (state_of w x).lines o.m)).first
  unfolding reducts_of
  first_made right e h =
      let f : right ≡ (line_at (state_of w x).lines o.n).right = rw p at (any_right_read w x n right recs words c er ew ec e) in
      rw (s, first, f, second) at h

  pub second_made : (other : Word) → other ≡ cond (ltb m c) (line_right recs words m) [] → z ≡ second_reduct k left laid other
      → z ≡ (reducts_of_lines o.place (line_at (state_of w x).lines o.n) (line_at (state_of w x).lines o.m)).second
  unfolding reducts_of
  second_made other e h =
      let f : other ≡ (line_at (state_of w x).lines o.m).right = rw q at (any_right_read w x m other recs words c er ew ec e) in
      rw (s, first, f, second) at h

-- by the entry's kind
module _ (es : List Equation) (ts : List Line) (e : Entry) (w : Word) where
  module _ (k a : ℕ) (u : Word) (h : e ≡ OfEquation k) (q : a ≡ k) where
    pub first_equation : u ≡ (equation_at es a).left → w ≡ u → w ≡ (two_words es ts e).first
    unfolding two_words
    first_equation g f = rw (h, ← q, ← g) f

    pub second_equation : u ≡ (equation_at es a).right → w ≡ u → w ≡ (two_words es ts e).second
    unfolding two_words
    second_equation g f = rw (h, ← q, ← g) f

  module _ (j a : ℕ) (u : Word) (h : e ≡ OfDeleted j) (q : a ≡ j) where
    pub first_deleted : u ≡ (line_at ts a).left → w ≡ u → w ≡ (two_words es ts e).first
    unfolding two_words
    first_deleted g f = rw (h, ← q, ← g) f

    pub second_deleted : u ≡ (line_at ts a).right → w ≡ u → w ≡ (two_words es ts e).second
    unfolding two_words
    second_deleted g f = rw (h, ← q, ← g) f

  module _ (o : Overlap) (h : e ≡ OfOverlap o) where
    pub first_overlap : w ≡ (reducts_of_lines o.place (line_at ts o.n) (line_at ts o.m)).first → w ≡ (two_words es ts e).first
    unfolding two_words
    first_overlap f = rw h f

    pub second_overlap : w ≡ (reducts_of_lines o.place (line_at ts o.n) (line_at ts o.m)).second → w ≡ (two_words es ts e).second
    unfolding two_words
    second_overlap f = rw h f

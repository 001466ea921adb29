-- One sheet has one reduced table. Lines that are right for a sheet decide its links, so two such lists of lines, fully reduced, have the same rules;
-- no left word stands twice in either, so they have as many. Two tables that the check accepts for one sheet are right for it in one order.
use Prim.Native.Nat.{ℕ, ◌≤◌, Ordering}
use native.Mathlib.Omega.{arith}
use mathlib.Core.Path.{◌≡◌, refl, sym, ◌∙◌, ap, subst}
use mathlib.Core.List.{List, [], append-nil}
use lib.ListN.{length}
use Rattle.words.specs.Word.{Word}
use Rattle.words.specs.Order.{IsOrder, order_by}
use Rattle.words.specs.declared.Order.{Order}
use Rattle.words.proofs.BothOrders.{order_by_order}
use Rattle.rewriting.specs.Sheet.{Equation, Line, line_at, rules_of}
use Rattle.rewriting.specs.Links.{OfSheet, OfLines}
use Rattle.rewriting.specs.RightFor.{RightFor}
use Rattle.rewriting.proofs.RightForLaws.{right_decides}
use Rattle.rewriting.proofs.StandingLines.{lines_next}
use Rattle.layout.specs.Sheets.{sheet_of}
use Rattle.layout.specs.Tables.{table_of}
use Rattle.meaning.specs.Conditions.{LinesReduced}
use Rattle.meaning.specs.SameRules.{FullyReduced, OneReduced, AcceptedAlike}
use Rattle.meaning.proofs.Conditions.{accepts_exactly}
use Rattle.meaning.proofs.LeftWords.{OneEach, no_more}
use Rattle.meaning.proofs.ReducedRules.{Deciding, Reduced, same_normal_lem, same_rule}
use Rattle.meaning.proofs.SameFare.{six_right}

right_deciding : {cmp : Word → Word → Ordering} → IsOrder cmp → (es : List Equation) (ts : List Line)
    → RightFor cmp es ts → Deciding cmp (OfSheet es) (OfLines ts)
right_deciding o es ts a = record {
  sinks = a.sinks;
  next = lines_next ts;
  sound = a.sound;
  share = λ u v z y n m c. ((right_decides o a).exactly u v z y n m).1 c;
}

module _ (ts : List Line) where
  lines_reduced : FullyReduced ts → Reduced (OfLines ts)
  lines_reduced f = record {
    lefts = λ l r k s x y h g e.
        h.1.left ∙ ap (λ (i : ℕ). (line_at ts i).left) (f.lefts h.0 g.0 l r k s x y h.1 g.1 e) ∙ sym g.1.left;
    rights = f.rights;
  }

  one_each : LinesReduced ts → OneEach ts
  one_each f n m p q e = f n m _ _ _ _ [] [] (record { stands = p; left = refl; right = refl }) (record { stands = q; left = refl; right = refl })
      (e ∙ sym (append-nil (line_at ts m).left))

module _ (cmp : Word → Word → Ordering) (o : IsOrder cmp) (es : List Equation) where
  module _ (ts us : List Line) (a : RightFor cmp es ts) (b : RightFor cmp es us) (f : FullyReduced ts) (g : FullyReduced us) where
    carried : (l r : Word) → OfLines ts l r → OfLines us l r
    carried = same_rule o (right_deciding o es ts a) (right_deciding o es us b) (lines_reduced ts f) (lines_reduced us g)

    at_most : length (rules_of ts) ≤ length (rules_of us)
    at_most = no_more ts us (one_each ts f.lefts) (λ i s.
        let (j, h) = carried _ _ (i, record { stands = s; left = refl; right = refl }) in
        (j, h.stands, h.left))

pub one_reduced : OneReduced
one_reduced cmp o es ts us a b f g = record {
  rules = λ l r. (carried cmp o es ts us a b f g l r, carried cmp o es us ts b a g f l r);
  many = let h = at_most cmp o es ts us a b f g in let k = at_most cmp o es us ts b a g f in omega arith;
  normals = λ u z.
      let d = right_deciding o es ts a in
      let e = right_deciding o es us b in
      (same_normal_lem o d e u z, same_normal_lem o e d u z);
}

-- two tables that agree with one sheet have one order
same_order : (s t u : Order) → s.code ≡ t.code → s.code ≡ u.code → u ≡ t
same_order s t u p q = λ i. record { code = (sym q ∙ p) i }

pub accepted_alike : AcceptedAlike
accepted_alike sheet one two e f g h =
    let es = (sheet_of sheet).equations in
    let a = (accepts_exactly sheet one).0 e in
    let b = (accepts_exactly sheet two).0 f in
    let order = same_order (sheet_of sheet).order (table_of one).order (table_of two).order a.headers.order b.headers.order in
    let right : RightFor (order_by (table_of one).order) es (table_of two).lines =
    subst (λ (o : Order). RightFor (order_by o) es (table_of two).lines) order (six_right sheet two b) in
    one_reduced (order_by (table_of one).order) (order_by_order (table_of one).order) es (table_of one).lines (table_of two).lines (six_right sheet one a) right
    (record { lefts = a.lines.reduced; rights = g }) (record { lefts = b.lines.reduced; rights = h })

-- One step as the code makes it: one exchange of sides, and the sides that its reference names in the slices.
use Prim.Native.Nat.{ℕ, ◌+◌, ◌-◌, ◌≤◌, ◌<◌}
use native.Mathlib.Omega.{arith}
use mathlib.Core.Path.{◌≡◌, refl, sym, ◌∙◌, ap}
use mathlib.Core.List.{List, []}
use mathlib.Core.Bool.{Bool, true, false, not, cond}
use borrow.Author.Tests.{not-true, not-false, le-leb, lt-leb, ltb-true, ltb-false}
use lib.Dec.{ltb}
use lib.ListN.{length}
use Rattle.words.specs.Word.{Word}
use Rattle.rewriting.specs.Standing.{stands_at, replace_at}
use Rattle.rewriting.specs.Sheet.{Equation, equation_at, Step, Line, line_at}
use Rattle.rewriting.specs.Steps.{exchange, named_sides, step_to}
use Rattle.rewriting.proofs.StandingLaws.{stands_fits}
use Rattle.rewriting.proofs.ReplacingLaws.{replaced_long}
use Rattle.layout.specs.Slices.{equation_left, equation_right, step_in, equation_in, equations_in, lines_in, line_left, line_right}
use Rattle.layout.proofs.SliceLaws.{line_absent, equations_long, equation_at_lem}
use Rattle.chains.specs.Answers.{led_as, by_sides, step_by}
use Rattle.chains.proofs.LineLaws.{left_of_lem, right_of_lem}

-- one exchange
module _ (from by w : Word) (p : ℕ) (t : Bool) (e : t ≡ stands_at from w p) where
  pub exchange_missed : not t ≡ true → led_as false w ≡ exchange from by p w
  unfolding exchange
  exchange_missed f = rw (← e, not-true t f)

  module _ (f : not t ≡ false) where
    stands : stands_at from w p ≡ true
    stands = sym e ∙ not-false t f

    pub exchange_inside : p + length from ≤ length w
    exchange_inside = stands_fits from w p stands

    sized : length (replace_at w p (length from) by) + length from ≡ length w + length by
    sized = omega (arith, replaced_long w by w p (length from) exchange_inside, exchange_inside)

    module _ (len : ℕ) (l : len ≡ length w) where
      pub exchange_cut : length from ≤ len
      exchange_cut = omega (arith, exchange_inside)

      pub exchange_long : 128 < len - length from + length by → led_as false w ≡ exchange from by p w
      unfolding exchange
      exchange_long h = rw (stands, lt-leb (length (replace_at w p (length from) by)) 128 (omega (arith, sized, exchange_inside)))

      pub exchange_room : len - length from + length by ≤ 128 → length w + length by ≤ 128 + length from
      exchange_room h = omega (arith, exchange_inside)

      pub exchange_made : (v : Word) → len - length from + length by ≤ 128 → v ≡ replace_at w p (length from) by → led_as true v ≡ exchange from by p w
      unfolding exchange
      exchange_made v h g = rw (stands, le-leb (length (replace_at w p (length from) by)) 128 (omega (arith, sized, exchange_inside)), g)

-- one step from the slices, by the definition
module _ (erecs ewords : List ℕ) (e : ℕ) (recs steps words : List ℕ) (n : ℕ) where
  abbrev es : List Equation
  es = equations_in erecs ewords e

  abbrev ts : List Line
  ts = lines_in recs steps words n

  named_is : (k : ℕ) → named_sides es ts k
      ≡ cond (ltb k e) (equation_in erecs ewords k)
      (cond (ltb (k - e) n) (record { left = line_left recs words (k - e); right = line_right recs words (k - e) }) (record { left = []; right = [] }))
  unfolding named_sides
  named_is k = go (ltb k e) refl
    where
      line : (b : Bool) → ltb (k - e) n ≡ b → ◌≡◌ {A = Equation} (record { left = (line_at ts (k - e)).left; right = (line_at ts (k - e)).right })
          (cond b (record { left = line_left recs words (k - e); right = line_right recs words (k - e) }) (record { left = []; right = [] }))
      line true f = λ i. record { left = left_of_lem recs steps words n (k - e) (ltb-true (k - e) n f) i; right = right_of_lem recs steps words n (k - e) (ltb-true (k - e) n f) i }
      line false f = ap (λ (t : Line). record { left = t.left; right = t.right }) (line_absent recs steps words n (k - e) (ltb-false (k - e) n f))

      go : (b : Bool) → ltb k e ≡ b
          → cond (ltb k (length es)) (equation_at es k) (record { left = (line_at ts (k - length es)).left; right = (line_at ts (k - length es)).right })
          ≡ cond b (equation_in erecs ewords k) (cond (ltb (k - e) n) (record { left = line_left recs words (k - e); right = line_right recs words (k - e) }) (record { left = []; right = [] }))
      go true f = rw (equations_long erecs ewords e, f) (equation_at_lem erecs ewords e k (ltb-true k e f))
      go false f = rw (equations_long erecs ewords e, f) (line (ltb (k - e) n) refl)

  -- a step of the definition, by the sides that its reference names
  step_sides : (s : Step) (w : Word) → step_to es ts s w ≡ step_by erecs ewords e recs words n s.reference s.back s.place w
  unfolding step_to equation_in
  step_sides s w = rw (named_is s.reference) (go (ltb s.reference e) (ltb (s.reference - e) n))
    where
      k : ℕ
      k = s.reference

      a : Equation
      a = record { left = equation_left erecs ewords s.reference; right = equation_right erecs ewords s.reference }

      b : Equation
      b = record { left = line_left recs words (s.reference - e); right = line_right recs words (s.reference - e) }

      none : Equation
      none = record { left = []; right = [] }

      go : (p q : Bool) → cond s.back
          (exchange (cond p a (cond q b none)).right (cond p a (cond q b none)).left s.place w)
          (exchange (cond p a (cond q b none)).left (cond p a (cond q b none)).right s.place w)
          ≡ cond p (by_sides a.left a.right s.back s.place w) (cond q (by_sides b.left b.right s.back s.place w) (by_sides [] [] s.back s.place w))
      go true q = refl
      go false true = refl
      go false false = refl

  -- the step i of all
  pub step_read : (i k x p : ℕ) (t r : Bool) (w v : Word) → k ≡ (step_in steps i).reference → t ≡ (step_in steps i).back → x ≡ (step_in steps i).place → p ≡ x
      → led_as r v ≡ step_by erecs ewords e recs words n k t p w → led_as r v ≡ step_to es ts (step_in steps i) w
  step_read i k x p t r w v a b d g l = rw (step_sides (step_in steps i) w, ← a, ← b, ← d, ← g) l

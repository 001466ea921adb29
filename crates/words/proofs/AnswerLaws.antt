-- What an answer means determines it, so no second answer fits a promise.
use Prim.Native.Nat.{ℕ}
use Rattle.std.specs.Prelude.{Ok, Err, cond, eqb}
use Rattle.std.specs.Prelude.{Result as Outcome}
use Rattle.std.specs.declared.cmp.Ordering.{Ordering as Compared}
use Rattle.std.specs.declared.cmp.Ordering.TheVariants.{Less, Equal, Greater}
use Rattle.std.proofs.Common.{◌≡◌, ◌∙◌, refl, sym, ap, arith}
use Rattle.words.specs.Answer.{ordering_of, number_of, place_of, refused_by, result_as, compared_as}
use Rattle.words.specs.declared.refusals.Refusal.{Refusal}
use Rattle.words.specs.declared.refusals.Refusal.TheVariants.{File, Headers, Room, Word, Spent, Long, LongSide, ManyLines, ManySteps, ManyWaiting, Unordered, Chain, Direction, Reduced, Equation, Pair, TwoFares}
use Rattle.words.proofs.CompareLaws.{eq_not_lt, gt_not_lt, lt_not_eq, gt_not_eq}

ordering_once : (r s : Compared) → ordering_of r ≡ ordering_of s → r ≡ s
ordering_once Less Less e = refl
ordering_once Less Equal e = absurd (lt_not_eq e)
ordering_once Less Greater e = absurd (gt_not_lt (sym e))
ordering_once Equal Less e = absurd (eq_not_lt e)
ordering_once Equal Equal e = refl
ordering_once Equal Greater e = absurd (gt_not_eq (sym e))
ordering_once Greater Less e = absurd (gt_not_lt e)
ordering_once Greater Equal e = absurd (gt_not_eq e)
ordering_once Greater Greater e = refl

-- the refusal of a number and a place
refusal_from : ℕ → ℕ → Refusal
refusal_from n p = cond (eqb n 1) File (cond (eqb n 2) Headers (cond (eqb n 3) Room (cond (eqb n 4) Word (cond (eqb n 5) Spent (cond (eqb n 6) Long (cond (eqb n 7) LongSide (cond (eqb n 8) ManyLines (cond (eqb n 9) ManySteps (cond (eqb n 10) ManyWaiting (cond (eqb n 11) Unordered (cond (eqb n 12) (Chain p) (cond (eqb n 13) (Direction p) (cond (eqb n 14) (Reduced p) (cond (eqb n 15) (Equation p) (cond (eqb n 16) (Pair p) (TwoFares p))))))))))))))))

from_its : (f : Refusal) → refusal_from (number_of f) (place_of f) ≡ f
unfolding refusal_from
from_its File = refl
from_its Headers = refl
from_its Room = refl
from_its Word = refl
from_its Spent = refl
from_its Long = refl
from_its LongSide = refl
from_its ManyLines = refl
from_its ManySteps = refl
from_its ManyWaiting = refl
from_its Unordered = refl
from_its (Chain p) = refl
from_its (Direction p) = refl
from_its (Reduced p) = refl
from_its (Equation p) = refl
from_its (Pair p) = refl
from_its (TwoFares p) = refl

pub refusal_once : {A : Type 0} (f g : Refusal) → refused_by {A = A} f ≡ refused_by {A = A} g → f ≡ g
refusal_once f g e =
    let n : number_of f ≡ number_of g = cc in
    let p : place_of f ≡ place_of g = cc in
    sym (from_its f) ∙ rw (n, p) (from_its g)

-- so do the results of calls, where the answers do
pub result_once : {A B : Type 0} (h : A → B) → ((a b : A) → h a ≡ h b → a ≡ b) → (r s : Outcome A Refusal) → result_as h r ≡ result_as h s → r ≡ s
result_once h once (Ok a) (Ok b) e = ap Ok (once a b (cc))
result_once h once (Ok a) (Err g) e = let z : ◌≡◌ {A = ℕ} 0 1 = cc in absurd (omega arith)
result_once h once (Err f) (Ok b) e = let z : ◌≡◌ {A = ℕ} 0 1 = cc in absurd (omega arith)
result_once {B = B} h once (Err f) (Err g) e = ap Err (refusal_once {A = B} f g e)

pub compared_once : (r s : Outcome Compared Refusal) → compared_as r ≡ compared_as s → r ≡ s
compared_once = result_once ordering_of ordering_once

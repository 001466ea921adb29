-- What completion refuses by: a number from 2 on, and never 3, which is the buffers' own. The turns refuse with 5 to 11.
use Prim.Native.Nat.{ℕ, ◌+◌, ◌≤◌}
use mathlib.Core.Path.{◌≡◌, refl}
use mathlib.Core.List.{List}
use mathlib.Core.Bool.{Bool, false, cond}
use native.Mathlib.Omega.{arith}
use borrow.Author.Tests.{ne_eqb}
use lib.Dec.{eqb}
use lib.ListN.{length}
use Rattle.words.specs.Word.{Word}
use Rattle.words.specs.Refusal.{Result, answered, on_answer}
use Rattle.words.specs.Counting.{in_turn}
use Rattle.rewriting.specs.Search.{Rule}
use Rattle.rewriting.specs.Normal.{normal_of}
use Rattle.rewriting.specs.Sheet.{Sheet}
use Rattle.workspace.specs.Waiting.{State}
use Rattle.workspace.specs.declared.Entry.{Entry}
use Rattle.new_lines.specs.NewLine.{grow}
use Rattle.turns.specs.Turn.{treat}
use Rattle.runs.proofs.KeepsLaws.{Keeps, keeps_on, keeps_weaker, keeps_either, keeps_turns, keeps_normal, Long, long_stable, long_joined, keeps_grown, keeps_treated}

-- a number that completion refuses by
abbrev pub InRun : ℕ → Type 0
InRun n = (2 ≤ n) × (eqb n 3 ≡ false)

pub five_up : (n : ℕ) → 5 ≤ n → InRun n
five_up n h = (omega arith, ne_eqb n 3 (λ e. omega arith))

abbrev pub Any : {A : Type 0} → A → Type 0
Any a = Unit {0}

-- a result that is refused by no other number
abbrev pub RefusesInRun : {A : Type 0} → Result A → Type 0
RefusesInRun x = Keeps InRun Any x

pub refuses_on : {A B : Type 0} (x : Result A) (f : A → Result B) → RefusesInRun x → ((a : A) → RefusesInRun (f a)) → RefusesInRun (on_answer x f)
refuses_on x f h g = keeps_on InRun Any Any x f h (λ a i. g a)

pub refuses_either : {A : Type 0} (b : Bool) (x y : Result A) → RefusesInRun x → RefusesInRun y → RefusesInRun (cond b x y)
refuses_either b x y g h = keeps_either InRun Any b x y (λ e. g) (λ e. h)

pub refuses_through : {S : Type 0} (f : ℕ → S → Result S) → ((j : ℕ) (d : S) → RefusesInRun (f j d)) → (n j : ℕ) (d : S) → RefusesInRun (in_turn f j n d)
refuses_through f g n j d = keeps_turns InRun Any f (λ i e h. g i e) n j d tt

pub refuses_normal : (rs : List Rule) (a : ℕ) (w : Word) → RefusesInRun (normal_of rs a w)
refuses_normal rs a w = keeps_weaker InRun (λ x. normal_of rs a w ≡ answered x) Any (normal_of rs a w) (λ x e. tt) (keeps_normal InRun five_up rs a w)

pub refuses_treated : (s : Sheet) (d : State) (e : Entry) → RefusesInRun (treat s d e)
refuses_treated s d e =
    let k = length d.lines in
    keeps_treated InRun five_up s d e Any tt (λ t m. keeps_weaker InRun (Long (k + 1)) Any (grow t d) (λ f h. tt)
    (keeps_grown InRun five_up k (Long k) (Long (k + 1)) (long_stable k) (long_stable (k + 1)) t (λ f h. long_joined k t f h) d refl))

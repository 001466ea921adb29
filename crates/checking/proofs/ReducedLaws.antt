-- Reducedness as the code finds it, on the lines that two slices hold. No step is looked at.
use Prim.Native.Nat.{ℕ, ◌+◌, ◌<◌}
use mathlib.Core.Path.{◌≡◌, sym, ◌∙◌, ap}
use mathlib.Core.List.{List, []}
use mathlib.Core.Bool.{Bool, true, false, not, ◌&&◌}
use mathlib.Core.Logic.{◌⊎◌, inl, inr, ◌≢◌}
use borrow.Author.Tests.{eq-eqb, ne_eqb}
use lib.Dec.{eqb}
use Rattle.words.specs.Word.{Word}
use lib.ListN.{length}
use Rattle.words.specs.Refusal.{refused}
use Rattle.words.specs.declared.refusals.Refusal.TheVariants.{Reduced}
use Rattle.words.specs.Counting.{any_from}
use Rattle.rewriting.specs.Sheet.{Line, line_at}
use Rattle.rewriting.specs.Standing.{stands_in}
use Rattle.layout.specs.Slices.{stands_by, lines_in, line_left}
use Rattle.layout.proofs.SliceLaws.{lines_long}
use Rattle.layout.proofs.BareLaws.{bare_long, bare_left, bare_stands}
use Rattle.chains.specs.Verdict.{Verdict, met, unless, each}
use Rattle.chains.proofs.LineLaws.{left_of_lem, stands_of}
use Rattle.chains.proofs.EachLaws.{Passed, passed_none, passed_on, passed_no, passed_end}
use Rattle.checking.specs.Reduced.{holds, holds_one, reduced_verdict}

-- one left word that holds another
module _ (recs words : List ℕ) (n i m : ℕ) (hi : i < n) (hm : m < n) where
  holds_is : holds (lines_in recs [] words n) i m ≡ stands_by recs m && (not (eqb i m) && stands_in (line_left recs words m) (line_left recs words i))
  unfolding holds
  holds_is = rw (stands_of recs [] words n m hm, left_of_lem recs [] words n m hm, left_of_lem recs [] words n i hi)

  module _ (t r : Bool) (e : t ≡ stands_by recs m) where
    pub holds_neither : ((t ≡ true) × (i ≡ m)) ⊎ (t ≡ false) → r ≡ false → r ≡ holds (lines_in recs [] words n) i m
    holds_neither (inl p) f = rw (holds_is, ← e, p.0, eq-eqb i m p.1) f
    holds_neither (inr p) f = rw (holds_is, ← e, p) f

    pub holds_another : (x y : Word) → t ≡ true → i ≢ m → x ≡ line_left recs words m → y ≡ line_left recs words i → r ≡ stands_in x y
        → r ≡ holds (lines_in recs [] words n) i m
    holds_another x y f q a b g = rw (holds_is, ← e, f, ne_eqb i m q, ← a, ← b) g

module _ (recs words : List ℕ) (n i : ℕ) (h : i < n) where
  one_is : holds_one (lines_in recs [] words n) i ≡ stands_by recs i && any_from (holds (lines_in recs [] words n) i) 0 n
  unfolding holds_one
  one_is = rw (stands_of recs [] words n i h, lines_long recs [] words n)

  module _ (t : Bool) (e : t ≡ stands_by recs i) where
    pub one_fallen : t ≡ false → t ≡ holds_one (lines_in recs [] words n) i
    one_fallen f = rw (one_is, ← e, f)

    pub one_standing : (r : Bool) → t ≡ true → r ≡ any_from (holds (lines_in recs [] words n) i) 0 n → r ≡ holds_one (lines_in recs [] words n) i
    one_standing r f g = rw (one_is, ← e, f) g

-- all lines
abbrev free : List Line → ℕ → Verdict
free ts i = unless (not (holds_one ts i)) 14 i

unfoldable pub Free : List ℕ → List ℕ → ℕ → ℕ → Type 0
Free recs words n k = Passed (free (lines_in recs [] words n)) n k

module _ (recs words : List ℕ) (n : ℕ) where
  all_free : reduced_verdict (lines_in recs [] words n) ≡ each n (free (lines_in recs [] words n))
  unfolding reduced_verdict
  all_free = rw (lines_long recs [] words n)

  pub free_start : Free recs words n 0
  unfolding Free
  free_start = passed_none (free (lines_in recs [] words n)) n

  module _ (k : ℕ) (t : Bool) (d : Free recs words n k) (h : k < n) (e : t ≡ holds_one (lines_in recs [] words n) k) where
    pub free_on : t ≡ false → Free recs words n (k + 1)
    unfolding Free
    free_on f = passed_on (free (lines_in recs [] words n)) n k tt d h (rw (sym e ∙ f))

    pub free_no : t ≡ true → refused 14 k ≡ reduced_verdict (lines_in recs [] words n)
    unfolding Free
    free_no f = passed_no (free (lines_in recs [] words n)) n k (Reduced k) d h (rw (sym e ∙ f)) ∙ sym all_free

  pub free_end : Free recs words n n → met ≡ reduced_verdict (lines_in recs [] words n)
  unfolding Free
  free_end d = passed_end (free (lines_in recs [] words n)) n d ∙ sym all_free

-- no step is looked at
module _ (recs steps words : List ℕ) (n : ℕ) where
  holds_bare : (i m : ℕ) → holds (lines_in recs steps words n) i m ≡ holds (lines_in recs [] words n) i m
  unfolding holds
  holds_bare i m = rw (bare_stands recs steps words n m, bare_left recs steps words n m, bare_left recs steps words n i)

  one_bare : (i : ℕ) → holds_one (lines_in recs steps words n) i ≡ holds_one (lines_in recs [] words n) i
  unfolding holds_one
  one_bare i =
      rw (bare_stands recs steps words n i, bare_long recs steps words n)
      (ap (λ (t : ℕ → Bool). (line_at (lines_in recs [] words n) i).stands && any_from t 0 (length (lines_in recs [] words n))) (λ j m. holds_bare i m j))

  pub reduced_bare : reduced_verdict (lines_in recs steps words n) ≡ reduced_verdict (lines_in recs [] words n)
  unfolding reduced_verdict
  reduced_bare = simp (bare_long recs steps words n, one_bare)

-- Two normal words compared. Each result is a refusal, which passes on, or a word, with which the comparison goes on.
use Prim.Native.Nat.{ℕ}
use Rattle.std.proofs.Common.{◌≡◌, Bool, List, Ok, Err}
use Rattle.words.specs.Word.{Word}
use Rattle.words.specs.Refusal.{answered}
use Rattle.words.specs.Answer.{refused_by}
use Rattle.words.specs.declared.refusals.Refusal.{Refusal}
use Rattle.rewriting.specs.Search.{Rule}
use Rattle.rewriting.specs.Normal.{normal_of}
use Rattle.rewriting.specs.Steps.{same_word}
use Rattle.reducing.specs.Answers.{reached_as}
use Rattle.reducing.specs.SameFare.{same_normal, same_fare}

module _ (rs : List Rule) (allowance : ℕ) (u v : Word) where
  pub first_refused : (f : Refusal) (x : Word) → reached_as (Err f) x ≡ normal_of rs allowance u → refused_by f ≡ same_fare rs allowance u v
  unfolding same_fare
  first_refused f x e = rw (← e)

  module _ (i : ℕ) (x : Word) (e : reached_as (Ok i) x ≡ normal_of rs allowance u) where
    pub second_refused : (f : Refusal) (y : Word) → reached_as (Err f) y ≡ normal_of rs allowance v → refused_by f ≡ same_fare rs allowance u v
    unfolding same_fare same_normal
    second_refused f y g = rw (← e, ← g)

    pub words_compared : (j : ℕ) (y : Word) (t : Bool) → reached_as (Ok j) y ≡ normal_of rs allowance v → t ≡ same_word x y
        → answered t ≡ same_fare rs allowance u v
    unfolding same_fare same_normal
    words_compared j y t g s = rw (← e, ← g, s)

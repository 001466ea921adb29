-- Kachinuki by the first letters. Specification, "Orders": the blocks are the definition, the code looks at the first letters and goes on with shorter
-- words, and "that these rules and the blocks agree is proved". Of words of any letters and any length: by the blocks the rules hold, and the
-- rules leave no choice, so whatever compares by them compares as the blocks do.
use Rattle.std.specs.Prelude.{ℕ, ◌<◌, ◌≡◌, ◌↔◌, ◌⊎◌, [], ◌∷◌}
use Rattle.words.specs.Word.{Word}
use Rattle.words.specs.Order.{Below}
use Rattle.words.specs.Kachinuki.{kachinuki}

-- the rules of the first letters, for any meaning of "less"
pub record FirstLetters (Less : Word → Word → Type 0) : Type 0 where
  -- equal first letters: exactly if the one rest is less than the other
  pub equal : (s : ℕ) (t u : Word) → Less (s ∷ t) (s ∷ u) ↔ Less t u
  -- s the greater: exactly if the whole word is less than the other's rest, or is that rest
  pub greater : (s r : ℕ) (t u : Word) → r < s → Less (s ∷ t) (r ∷ u) ↔ Less (s ∷ t) u ⊎ (s ∷ t ≡ u)
  -- s the smaller: exactly if the rest is less than the whole other word
  pub smaller : (s r : ℕ) (t u : Word) → s < r → Less (s ∷ t) (r ∷ u) ↔ Less t (r ∷ u)
  -- the empty word is less than every other, and nothing is less than it
  pub empty : (r : ℕ) (u : Word) → Less [] (r ∷ u)
  pub least : (t : Word) → Less t [] → ⊥

pub record BlocksAgree : Type 1 where
  pub rules : FirstLetters (Below kachinuki)
  pub only : (Less : Word → Word → Type 0) → FirstLetters Less → (t u : Word) → Less t u ↔ Below kachinuki t u

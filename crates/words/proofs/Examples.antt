-- Words of fifty letters, by computation of the definitions.
use mathlib.Core.Path.{refl}
use mathlib.Core.List.{[], ◌∷◌, ◌++◌}
use lib.ListN.{replicate}
use Rattle.words.specs.Word.{Word}
use Rattle.words.specs.Order.{Below}
use Rattle.words.specs.Shortlex.{shortlex}
use Rattle.words.specs.Kachinuki.{kachinuki}

-- 48 letters: sixteen a, sixteen c, sixteen b
abbrev many : Word
many = replicate 16 0 ++ (replicate 16 2 ++ replicate 16 1)

-- the last block decides, whatever stands before
pub long_kachinuki : Below kachinuki (31 ∷ (many ++ (31 ∷ 0 ∷ []))) (many ++ (31 ∷ 31 ∷ 1 ∷ []))
unfolding kachinuki
long_kachinuki = refl

pub long_shortlex : Below shortlex (many ++ (0 ∷ 31 ∷ [])) (many ++ (1 ∷ 0 ∷ []))
unfolding shortlex
long_shortlex = refl

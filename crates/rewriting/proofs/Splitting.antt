-- Two ways to split one word: one of the first parts begins with the other. By going through both first parts letter by letter.
use mathlib.Core.Path.{◌≡◌, refl, sym}
use mathlib.Core.Logic.{◌⊎◌, inl, inr}
use mathlib.Core.List.{[], ◌∷◌, ◌++◌}
use Rattle.words.specs.Word.{Word}

pub split_twice : (a b c d : Word) → a ++ b ≡ c ++ d → ((e : Word) × (c ≡ a ++ e) × (b ≡ e ++ d)) ⊎ ((e : Word) × (a ≡ c ++ e) × (d ≡ e ++ b))
split_twice [] b c d h = inl (c, refl, h)
split_twice (x ∷ a) b [] d h = inr (x ∷ a, refl, sym h)
split_twice (x ∷ a) b (y ∷ c) d h = go (split_twice a b c d (cc))
  where
    go : ((e : Word) × (c ≡ a ++ e) × (b ≡ e ++ d)) ⊎ ((e : Word) × (a ≡ c ++ e) × (d ≡ e ++ b))
        → ((e : Word) × (y ∷ c ≡ (x ∷ a) ++ e) × (b ≡ e ++ d)) ⊎ ((e : Word) × (x ∷ a ≡ (y ∷ c) ++ e) × (d ≡ e ++ b))
    go (inl t) = let p = t.1 in inl (t.0, cc, t.2)
    go (inr t) = let p = t.1 in inr (t.0, cc, t.2)

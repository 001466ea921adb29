-- One after the other, until one refuses.
use Rattle.std.specs.Prelude.{List, [], ◌∷◌}
use Rattle.words.specs.Refusal.{Result, answered, on_answer}

-- what f answers for each element, in order; the first that it refuses refuses all
unfoldable pub answers_of : {A B : Type 0} → (A → Result B) → List A → Result (List B)
answers_of f [] = answered []
answers_of f (x ∷ xs) = on_answer (f x) (λ y. on_answer (answers_of f xs) (λ ys. answered (y ∷ ys)))

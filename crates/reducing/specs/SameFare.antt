-- Two words are the same fare. Specification, "Yes or no": the first word is reduced before the second, then they are compared.
use Rattle.std.specs.Prelude.{ℕ, List, Bool}
use Rattle.words.specs.Word.{Word}
use Rattle.words.specs.Refusal.{Result, answered, on_answer}
use Rattle.rewriting.specs.Search.{Rule}
use Rattle.rewriting.specs.Normal.{normal_of}
use Rattle.rewriting.specs.Steps.{same_word}
use Rattle.rewriting.specs.Pairs.{Reducts}

-- a normal word, and the normal word of a second word, are the same
unfoldable pub same_normal : List Rule → ℕ → Word → Word → Result Bool
same_normal rs allowance z v = on_answer (normal_of rs allowance v) (λ y. answered (same_word z y.word))

-- two words are the same fare: the first word's normal word, then the second's, compared
unfoldable pub same_fare : List Rule → ℕ → Word → Word → Result Bool
same_fare rs allowance u v = on_answer (normal_of rs allowance u) (λ x. same_normal rs allowance x.word v)

-- so are the reducts of a critical pair
abbrev pub same_reducts : List Rule → ℕ → Reducts → Result Bool
same_reducts rs allowance q = same_fare rs allowance q.first q.second

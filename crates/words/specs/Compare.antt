-- Three-way comparison: its answer is less, equal or greater, Ordering.lt, Ordering.eq or Ordering.gt.
-- Specification, "Orders": shortlex decides by the first letters that differ, kachinuki by the last blocks that do.
use Prim.Native.Nat.{compare, Ordering}
use Rattle.std.specs.Prelude.{List, [], ◌∷◌}
use Rattle.words.specs.Word.{Word}

-- the first comparison that tells decides
abbrev pub then : Ordering → Ordering → Ordering
then Ordering.lt o = Ordering.lt
then Ordering.eq o = o
then Ordering.gt o = Ordering.gt

-- the answer with the two words exchanged
abbrev pub swap : Ordering → Ordering
swap Ordering.lt = Ordering.gt
swap Ordering.eq = Ordering.eq
swap Ordering.gt = Ordering.lt

-- the letters at the first place where the words differ decide; a word is above what it begins with
abbrev pub lex : Word → Word → Ordering
lex [] [] = Ordering.eq
lex [] (b ∷ v) = Ordering.lt
lex (a ∷ u) [] = Ordering.gt
lex (a ∷ u) (b ∷ v) = then (compare a b) (lex u v)

-- two lists from the last element to the first: the elements behind decide before the first ones are looked at
abbrev pub colex : {A : Type 0} → (A → A → Ordering) → List A → List A → Ordering
colex c [] [] = Ordering.eq
colex c [] (b ∷ v) = Ordering.lt
colex c (a ∷ u) [] = Ordering.gt
colex c (a ∷ u) (b ∷ v) = then (colex c u v) (c a b)

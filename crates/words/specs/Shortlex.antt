-- Order 0. Specification, "Orders": the shorter word is less; of equally long ones the first difference decides.
use Prim.Native.Nat.{ℕ, compare, Ordering}
use Rattle.std.specs.Prelude.{length}
use Rattle.words.specs.Word.{Word}
use Rattle.words.specs.Compare.{then, lex}

-- the smaller total is less; where totals are equal the first difference decides
abbrev pub by_total : (Word → ℕ) → Word → Word → Ordering
by_total total u v = then (compare (total u) (total v)) (lex u v)

-- every letter counts for one
unfoldable pub shortlex : Word → Word → Ordering
shortlex u v = by_total length u v

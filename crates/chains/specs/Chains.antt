-- Condition 3, in its two parts. Specification, "The check": each line's lineage leads from its left to its right word, or 12;
-- then each line's left word is greater than its right word, or 13. Both speak of every line, deleted ones too.
use Prim.Native.Nat.{Ordering}
use Rattle.std.specs.Prelude.{List, Bool, true, false, length}
use Rattle.words.specs.Order.{order_by}
use Rattle.words.specs.declared.Order.{Order}
use Rattle.rewriting.specs.Sheet.{Equation, Line, line_at}
use Rattle.rewriting.specs.Steps.{chain_holds}
use Rattle.chains.specs.Verdict.{Verdict, unless, each}

abbrev pub is_greater : Ordering → Bool
is_greater Ordering.lt = false
is_greater Ordering.eq = false
is_greater Ordering.gt = true

unfoldable pub chain_verdict : List Equation → List Line → Verdict
chain_verdict es ts = each (length ts) (λ j. unless (chain_holds es ts (line_at ts j)) 12 j)

unfoldable pub direction_verdict : Order → List Line → Verdict
direction_verdict o ts = each (length ts) (λ j. unless (is_greater (order_by o (line_at ts j).left (line_at ts j).right)) 13 j)

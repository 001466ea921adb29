-- Each answer is one of the rules of the first letters; where a word is empty, the lengths decide.
use Rattle.std.proofs.Common.{inl, inr}
use Rattle.words.proofs.TailLaws.{one_empty, is_empty, letters_equal, letter_smaller, letter_greater}
use Rattle.words.proofs.orders.+kachinuki.Goals.{then-is_empty-via-then-is_empty, then-is_empty-via-else-is_empty+then-is_empty-2}
use Rattle.words.proofs.orders.+kachinuki.Goals as goal

pub returns-then-is_empty : goal.returns-then-is_empty
returns-then-is_empty t c =
    one_empty c.args.a.now c.args.b.now _ c.cmp.ensures
    (elim c.then-is_empty.branch [
      | then-is_empty-via-then-is_empty w ↦ inl (is_empty c.args.a.now _ c.is_empty.ensures w.if-is_empty.true)
      | then-is_empty-via-else-is_empty+then-is_empty-2 w ↦ inr (is_empty c.args.b.now _ w.is_empty-else-is_empty.ensures w.if-is_empty-2.true)
    ])

pub returns-then-a-b : goal.returns-then-a-b
returns-then-a-b t c = search letters_equal

pub returns-then-a-b-2 : goal.returns-then-a-b-2
returns-then-a-b-2 t c = search letter_smaller

pub returns-else-a-b-2 : goal.returns-else-a-b-2
returns-else-a-b-2 t c = search letter_greater

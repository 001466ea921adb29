-- The empty word stands at every place of a word. Another one does not stand where the word ends, where its first letter differs or where it
-- passes the word's end; else the word begins with it from the place on.
use Rattle.words.proofs.TailLaws.{is_empty, not_empty}
use Rattle.rewriting.proofs.BeginsLaws.{stands_empty, stands_past, stands_other, stands_short, stands_is}
use Rattle.rewriting.proofs.standing.stands_at.Goals as goal

pub returns-then-is_empty : goal.returns-then-is_empty
returns-then-is_empty c = stands_empty _ _ _ (is_empty c.args.left.now _ c.is_empty.ensures c.if-is_empty.true)

pub returns-then-word-p : goal.returns-then-word-p
returns-then-word-p c = let n = not_empty c.args.left.now _ c.is_empty.ensures c.if-is_empty.false in search stands_past

pub returns-then-left-word : goal.returns-then-left-word
returns-then-left-word c = let n = not_empty c.args.left.now _ c.is_empty.ensures c.if-is_empty.false in search stands_other

pub returns-then-word-p-2 : goal.returns-then-word-p-2
returns-then-word-p-2 c = let n = not_empty c.args.left.now _ c.is_empty.ensures c.if-is_empty.false in search stands_short

pub returns : goal.returns
returns c = let n = not_empty c.args.left.now _ c.is_empty.ensures c.if-is_empty.false in search stands_is

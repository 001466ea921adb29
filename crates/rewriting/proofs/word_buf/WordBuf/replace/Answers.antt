-- A part is written over by one of its own length.
use Rattle.std.proofs.Common.{rules, arith, ◌≡◌, ◌≤◌, ◌+◌, length, take}
use Rattle.rewriting.proofs.ReplacingLaws.{prefix_counted, put_over}
use Rattle.rewriting.proofs.word_buf.WordBuf.replace.Goals as goal

pub returns-then-right-n : goal.returns-then-right-n
returns-then-right-n c =
    let s = c.self.inside in
    let room : length s.letters ≡ 128 = search rules in
    let count = prefix_counted s.letters s.len room c.self.invariant in
    let r : c.args.p + c.args.n ≤ length (take s.len s.letters) = rw c.self.view_is c.requires.0 in
    let part : c.args.p + c.args.n ≤ s.len = omega (arith, count, r) in
    rw (← c.self.view_is) (put_over s.letters c.args.right.now s.len c.args.p c.args.n room c.self.invariant part c.if-right-n.true c.put.new.dst c.put.ensures)

-- The library compares the lengths, and then the words letter by letter.
use Rattle.std.proofs.Common.{rules, ◌≡◌, ◌∙◌, ap, length}
use Rattle.std.specs.Ordering.{nat_cmp, ordering_then}
use Rattle.std.specs.Cmp.Lexicographic.{slice_cmp}
use Rattle.words.specs.Answer.{ordering_of}
use Rattle.words.proofs.LoopLaws.{shortlex_compared}
use Rattle.words.proofs.orders.shortlex.Goals as goal

pub returns : goal.returns
returns c =
    let a = c.args.a.now in
    let b = c.args.b.now in
    let e : c.then_with.result ≡ ordering_then (nat_cmp (length a) (length b)) (slice_cmp nat_cmp a b) = search rules in
    ap ordering_of e ∙ shortlex_compared a b

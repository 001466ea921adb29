-- A refusal of the first normal word passes on, then one of the second; else the two are compared.
use Rattle.std.proofs.Common.{rules}
use Rattle.std.proofs.lemmas.Result.{err_from_is_err_and}
use Rattle.turns.proofs.SettlingLaws.{reaches, first_refused, second_refused, both_reached}
use Rattle.turns.proofs.settling.settle.Goals as goal

pub returns-in_err-xs : goal.returns-in_err-xs
returns-in_err-xs c =
    let p = err_from_is_err_and c.from_residual.result c.from_residual.ensures.1 in
    let x = rw (c.from_word-x.ensures, c.as_slice.ensures.word) at c.in_err-xs.ensures in
    rw (p.1, p.2) (search (first_refused, x))

pub returns-in_err-ys : goal.returns-in_err-ys
returns-in_err-ys c =
    let p = err_from_is_err_and c.from_residual-in_err-ys.result c.from_residual-in_err-ys.ensures.1 in
    let x = rw (c.from_word-x.ensures, c.as_slice.ensures.word) at c.in_ok-xs.ensures in
    let y = rw (c.from_word-y.ensures, c.as_slice-2.ensures.word) at c.in_err-ys.ensures in
    rw (p.1, p.2) (search (second_refused, x, y))

pub orient-requires : goal.orient-requires
orient-requires c =
    let x = rw (c.from_word-x.ensures, c.as_slice.ensures.word) at c.in_ok-xs.ensures in
    let y = rw (c.from_word-y.ensures, c.as_slice-2.ensures.word) at c.in_ok-ys.ensures in
    (search rules, search (reaches, x), search (reaches, y))

pub returns : goal.returns
returns c =
    let x = rw (c.from_word-x.ensures, c.as_slice.ensures.word) at c.in_ok-xs.ensures in
    let y = rw (c.from_word-y.ensures, c.as_slice-2.ensures.word) at c.in_ok-ys.ensures in
    search (both_reached, x, y)

-- A refusal passes on; else the two normal words are compared.
use Rattle.std.proofs.lemmas.Result.{err_from_is_err_and}
use Rattle.reducing.proofs.SameFareLaws.{first_refused, second_refused, words_compared}
use Rattle.reducing.proofs.same_fare.same_reduced.Goals as goal

pub returns-in_err-reduce : goal.returns-in_err-reduce
returns-in_err-reduce g c =
    let p = err_from_is_err_and c.from_residual.result c.from_residual.ensures.1 in
    rw (p.1, p.2) (search (first_refused, c.in_err-reduce.ensures))

pub returns-in_err-reduce-2 : goal.returns-in_err-reduce-2
returns-in_err-reduce-2 g c =
    let p = err_from_is_err_and c.from_residual-in_err-reduce-2.result c.from_residual-in_err-reduce-2.ensures.1 in
    rw (p.1, p.2) (search (second_refused, c.in_ok-reduce.ensures, c.in_err-reduce-2.ensures))

pub returns : goal.returns
returns g c = let t = rw (c.as_slice.ensures.word, c.as_slice-2.ensures.word) at c.same_word.ensures in search (words_compared, c.in_ok-reduce.ensures, c.in_ok-reduce-2.ensures)

-- No second answer fits a promise: what an answer's values say determines it, and the promise gives the values and every byte.
use mathlib.Core.Path.{sym, ◌∙◌}
use Rattle.words.proofs.AnswerLaws.{compared_once}
use Rattle.queries.proofs.OnceLaws.{fares_once, called_once, pair_called_once}
use Rattle.checking.proofs.OnceLaws.{check_once}
use Rattle.completing.proofs.CallLaws.{called_answer, called_output, called_buffer}
use Rattle.listing.proofs.CallLaws as listing
use Rattle.meaning.specs.OneAnswer.{OneAnswer}

pub one_answer : OneAnswer
one_answer = record {
  compare = λ order letters u v r s p q. compared_once r s (p ∙ sym q);
  one = λ table word out b c r s p q. called_once _ out b c r s p q;
  normal = λ table word allowance out b c r s p q. called_once _ out b c r s p q;
  pair = λ table n m k out b c r s p q. pair_called_once _ out b c r s p q;
  same = λ table u v allowance r s p q. fares_once r s (p ∙ sym q);
  check = check_once;
  complete = λ sheet out b c work v u r s p q. (called_answer _ out b c work v u r s p q, called_output _ out b c work v u r s p q, called_buffer _ out b c work v u r s p q);
  list = λ table out b c r s p q. listing.called_once _ out b c r s p q;
  tell = λ input text b c most r s p q. (p.ends ∙ sym q.ends, p.output ∙ sym q.output);
}

-- The closing check. The header of the state's table is the sheet's, as it is made from it; so the conditions on the state's lines decide, and what they
-- let through is the table with these lines.
use mathlib.Core.Path.{◌≡◌, refl}
use mathlib.Core.Bool.{true}
use borrow.Author.Tests.{eq-eqb}
use lib.ListN.{length}
use Rattle.words.specs.Refusal.{answered, on_answer}
use Rattle.rewriting.specs.Sheet.{Sheet}
use Rattle.checking.specs.Check.{headers_agree, lines_verdict, check_verdict}
use Rattle.workspace.specs.Waiting.{State}
use Rattle.runs.specs.Completion.{state_table, close}

headers_hold : (s : Sheet) (d : State) → headers_agree s (state_table s d) ≡ true
unfolding headers_agree
headers_hold s d = rw (eq-eqb s.order.code s.order.code refl, eq-eqb s.letters s.letters refl, eq-eqb (length s.equations) (length s.equations) refl)

pub close_is : (s : Sheet) (d : State) → close s d ≡ on_answer (lines_verdict s.order s.equations d.lines) (λ _. answered (state_table s d))
unfolding close check_verdict
close_is s d = rw (headers_hold s d)

-- What the answers of the functions here mean: less, equal or greater, and the result of comparing with its refusals' numbers and places.
use Prim.Native.Nat.{Ordering}
use Rattle.std.specs.Prelude.{ℕ, Ok, Err}
use Rattle.std.specs.Prelude.{Result as Outcome}
use Rattle.std.specs.declared.cmp.Ordering.{Ordering as Compared}
use Rattle.std.specs.declared.cmp.Ordering.TheVariants.{Less, Equal, Greater}
use Rattle.words.specs.Refusal.{Result, answered, refused}
use Rattle.words.specs.declared.refusals.Refusal.{Refusal}
use Rattle.words.specs.declared.refusals.Refusal.TheVariants.{File, Headers, Room, Word, Spent, Long, LongSide, ManyLines, ManySteps, ManyWaiting, Unordered, Chain, Direction, Reduced, Equation, Pair, TwoFares}

abbrev pub ordering_of : Compared → Ordering
ordering_of Less = Ordering.lt
ordering_of Equal = Ordering.eq
ordering_of Greater = Ordering.gt

-- a refusal's number, and the place that goes with it
abbrev pub number_of : Refusal → ℕ
number_of File = 1
number_of Headers = 2
number_of Room = 3
number_of Word = 4
number_of Spent = 5
number_of Long = 6
number_of LongSide = 7
number_of ManyLines = 8
number_of ManySteps = 9
number_of ManyWaiting = 10
number_of Unordered = 11
number_of (Chain p) = 12
number_of (Direction p) = 13
number_of (Reduced p) = 14
number_of (Equation p) = 15
number_of (Pair p) = 16
number_of (TwoFares p) = 17

abbrev pub place_of : Refusal → ℕ
place_of File = 0
place_of Headers = 0
place_of Room = 0
place_of Word = 0
place_of Spent = 0
place_of Long = 0
place_of LongSide = 0
place_of ManyLines = 0
place_of ManySteps = 0
place_of ManyWaiting = 0
place_of Unordered = 0
place_of (Chain p) = p
place_of (Direction p) = p
place_of (Reduced p) = p
place_of (Equation p) = p
place_of (Pair p) = p
place_of (TwoFares p) = p

-- a refusal as the result of any call
abbrev pub refused_by : {A : Type 0} → Refusal → Result A
refused_by f = refused (number_of f) (place_of f)

-- what a function gives as the result of a call, its answer in the words of the definitions
abbrev pub result_as : {A B : Type 0} → (A → B) → Outcome A Refusal → Result B
result_as f (Ok a) = answered (f a)
result_as f (Err r) = refused_by r

abbrev pub compared_as : Outcome Compared Refusal → Result Ordering
compared_as = result_as ordering_of

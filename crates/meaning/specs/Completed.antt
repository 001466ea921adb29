-- What a completed table means. Specification, "Acceptance": the check accepts every table that completion writes for the sheet, whatever the sizes of
-- the buffers that it was lent. So all that acceptance means holds of each.
use Rattle.std.specs.Prelude.{ℕ, ◌≡◌, List}
use Rattle.words.specs.Refusal.{answered}
use Rattle.chains.specs.Verdict.{met}
use Rattle.checking.specs.Check.{check_result}
use Rattle.completing.specs.Calls.{complete_result}
use Rattle.meaning.specs.SameFare.{SameFare}

-- the promise of completion: its tables are accepted
abbrev pub CompletionAccepted : Type 0
CompletionAccepted = (sheet : List ℕ) (room work : ℕ) (bytes : List ℕ)
    → complete_result sheet room work ≡ answered bytes → check_result sheet bytes ≡ met

-- and they decide the sheet
abbrev pub CompletionMeans : Type 0
CompletionMeans = (sheet : List ℕ) (room work : ℕ) (bytes : List ℕ)
    → complete_result sheet room work ≡ answered bytes → SameFare sheet bytes

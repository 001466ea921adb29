-- Completion is its turns. Specification, "Completion": "turn follows turn" from the state where every equation waits, until no entry waits or a turn
-- is refused, and "every run ends". The relation `Run` says this with no bound on the turns; `complete`, which every promise cites, computes with one.
-- For every file that is a sheet the two agree, one result alone fits the turns, and the bound is never used up.
use Rattle.std.specs.Prelude.{ℕ, suc, ◌≤◌, ◌<◌, ◌≡◌, true, List}
use Rattle.words.specs.Refusal.{Result}
use Rattle.rewriting.specs.Sheet.{Sheet, Table}
use Rattle.layout.specs.Sheets.{sheet_fits, sheet_of}
use Rattle.workspace.specs.Waiting.{State, start_state}
use Rattle.runs.specs.Completion.{Run, ends, stops, goes, turns_enough, run_for, complete}

-- how many turns a run has, its last one counted
abbrev pub turns_of : {s : Sheet} {d : State} {a : Result Table} → Run s d a → ℕ
turns_of (ends e) = 1
turns_of (stops n p e) = 1
turns_of (goes e q r) = suc (turns_of r)

pub record Turns (s : Sheet) : Type 0 where
  -- the turns from the start lead to what completion gives
  pub run : Run s (start_state s) (complete s)
  -- and to nothing else
  pub once : (a : Result Table) → Run s (start_state s) a → a ≡ complete s
  -- they are fewer than the bound
  pub fewer : (a : Result Table) (r : Run s (start_state s) a) → turns_of r < turns_enough
  -- so a greater bound changes nothing
  pub enough : (n : ℕ) → turns_enough ≤ n → run_for n s (start_state s) ≡ complete s

-- the promise, of every file that is a sheet
abbrev pub TurnByTurn : Type 0
TurnByTurn = (file : List ℕ) → sheet_fits file ≡ true → Turns (sheet_of file)

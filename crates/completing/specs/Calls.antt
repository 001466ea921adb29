-- The public call, and what it leaves: its answer by the values, and every byte of the output and of the work buffer. Specification, "Completing": an
-- output of 51,216 bytes; refusal 3 for either buffer, then 1, then those of completion. After refusal 3 the work buffer is as it was; after every other
-- answer or refusal its first 65,536 bytes are 0 and the rest is as it was.
use Rattle.std.specs.Prelude.{ℕ, ◌≡◌, List, ◌++◌, cond, ◌&&◌, leb, eqb, length, drop, replicate}
use Rattle.std.specs.Prelude.{Result as Outcome}
use Rattle.words.specs.Refusal.{Result, answered, refused, on_answer}
use Rattle.words.specs.Answer.{result_as}
use Rattle.words.specs.declared.refusals.Refusal.{Refusal}
use Rattle.rewriting.specs.Sheet.{Table}
use Rattle.layout.specs.Sheets.{sheet_fits, sheet_of}
use Rattle.writing.specs.Writing.{write_table}
use Rattle.words.specs.Output.{result_output}
use Rattle.packing.specs.Packed.{table_room}
use Rattle.workspace.specs.Areas.{work_room}
use Rattle.runs.specs.Completion.{complete}

-- a table as its bytes
abbrev pub table_bytes : Result Table → Result (List ℕ)
table_bytes x = on_answer x (λ t. answered (write_table t))

-- sheet, size of the output, size of the work buffer: the bytes of the table
unfoldable pub complete_result : List ℕ → ℕ → ℕ → Result (List ℕ)
complete_result sheet room work =
    cond (leb table_room room && leb work_room work)
    (cond (sheet_fits sheet) (table_bytes (complete (sheet_of sheet))) (refused 1 0))
    (refused 3 0)

-- so many zero bytes
unfoldable pub zeros : ℕ → List ℕ
zeros n = replicate n 0

unfoldable pub cleared : List ℕ → List ℕ
cleared work = zeros work_room ++ drop work_room work

abbrev pub complete_work : Result (List ℕ) → List ℕ → List ℕ
complete_work (answered bytes) work = cleared work
complete_work (refused n p) work = cond (eqb n 3) work (cleared work)

-- the length of the table, or the refusal
abbrev pub completed_as : Outcome ℕ Refusal → Result ℕ
completed_as = result_as (λ (size : ℕ). size)

-- the answer r, and the output out that becomes b, by the bytes x or their refusal
pub record Replied (x : Result (List ℕ)) (out b : List ℕ) (r : Outcome ℕ Refusal) : Type 0 where
  pub answer : completed_as r ≡ on_answer x (λ bytes. answered (length bytes))
  pub output : b ≡ result_output x out

-- so too where the work buffer w has become v: its length and what lies behind the state are as they were
pub record Delivered (x : Result (List ℕ)) (out b w v : List ℕ) (r : Outcome ℕ Refusal) : Type 0 where
  pub replied : Replied x out b r
  pub size : length v ≡ length w
  pub past : drop work_room v ≡ drop work_room w

-- the call with the result x makes b of the output and v of the work buffer
pub record CompleteCalled (x : Result (List ℕ)) (out b work v : List ℕ) (r : Outcome ℕ Refusal) : Type 0 where
  pub replied : Replied x out b r
  pub buffer : v ≡ complete_work x work

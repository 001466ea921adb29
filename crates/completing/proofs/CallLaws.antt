-- The public call: the buffers' sizes, then the sheet, then its completion. What is no sheet is refusal 1.
use Prim.Native.Nat.{ℕ, ◌≤◌, ◌<◌}
use Rattle.std.specs.Prelude.{Err}
use Rattle.std.specs.Prelude.{Result as Outcome}
use Rattle.words.specs.declared.refusals.Refusal.{Refusal}
use Rattle.words.specs.declared.refusals.Refusal.TheVariants.{File, Room}
use Rattle.words.proofs.AnswerLaws.{result_once}
use mathlib.Core.Path.{◌≡◌, refl, sym, ◌∙◌}
use mathlib.Core.List.{List}
use mathlib.Core.Bool.{Bool, true, false, cond}
use borrow.Author.Tests.{le-leb, lt-leb}
use lib.ListN.{length}
use Rattle.words.specs.Refusal.{Result, answered, refused}
use Rattle.rewriting.specs.Sheet.{Table}
use Rattle.layout.specs.Sheets.{sheet_fits, sheet_of}
use Rattle.packing.specs.Packed.{table_room}
use Rattle.packing.proofs.Within.{sheet_within_lem}
use Rattle.workspace.specs.Areas.{work_room}
use Rattle.runs.specs.Completion.{complete}
use Rattle.runs.proofs.RefusalLaws.{RefusesInRun}
use Rattle.runs.proofs.CheckedLaws.{complete_refuses}
use Rattle.completing.specs.Calls.{table_bytes, complete_result, cleared, completed_as, Replied, Delivered, CompleteCalled}
use Rattle.completing.proofs.ClearingLaws.{cleared_same}
use Rattle.completing.proofs.KeptLaws.{few_equations}

module _ (sheet out work : List ℕ) where
  abbrev result : Result (List ℕ)
  result = complete_result sheet (length out) (length work)

  pub short_output : length out < table_room → CompleteCalled result out out work work (Err Room)
  unfolding complete_result
  short_output h = let e = lt-leb table_room (length out) h in record { replied = record { answer = rw e; output = rw e }; buffer = rw e }

  module _ (h : table_room ≤ length out) where
    pub short_work : length work < work_room → CompleteCalled result out out work work (Err Room)
    unfolding complete_result
    short_work g =
        let e = le-leb table_room (length out) h in
        let f = lt-leb work_room (length work) g in
        record { replied = record { answer = rw (e, f); output = rw (e, f) }; buffer = rw (e, f) }

    -- the completion, with the buffer cleared behind it
    module _ (g : work_room ≤ length work) (b v u : List ℕ) (r : Outcome ℕ Refusal) (c : u ≡ cleared v) where
      abbrev read : Result (List ℕ)
      read = cond (sheet_fits sheet) (table_bytes (complete (sheet_of sheet))) (refused 1 0)

      read_on : CompleteCalled read out b work u r → CompleteCalled result out b work u r
      unfolding complete_result
      read_on p = rw (le-leb table_room (length out) h, le-leb work_room (length work) g) p

      pub delivered_called : Delivered read out b work v r → CompleteCalled result out b work u r
      delivered_called d = read_on (go (sheet_fits sheet) refl d)
        where
          clear : u ≡ cleared work
          clear = cleared_same work v u d.past c

          done : (x : Result Table) → RefusesInRun x → Replied (table_bytes x) out b r → CompleteCalled (table_bytes x) out b work u r
          done (answered t) m q = record { replied = q; buffer = clear }
          done (refused k p) m q = record { replied = q; buffer = rw m.1 clear }

          go : (t : Bool) → sheet_fits sheet ≡ t → Delivered (cond t (table_bytes (complete (sheet_of sheet))) (refused 1 0)) out b work v r
              → CompleteCalled (cond t (table_bytes (complete (sheet_of sheet))) (refused 1 0)) out b work u r
          go true s q = done (complete (sheet_of sheet)) (complete_refuses (sheet_of sheet) (few_equations (sheet_of sheet) (sheet_within_lem sheet s))) q.replied
          go false s q = record { replied = q.replied; buffer = clear }

-- what is judged
module _ (sheet out work : List ℕ) where
  pub no_sheet : sheet_fits sheet ≡ false
      → Delivered (cond (sheet_fits sheet) (table_bytes (complete (sheet_of sheet))) (refused 1 0)) out out work work (Err File)
  no_sheet s = rw s (record { replied = record { answer = refl; output = refl }; size = refl; past = refl })

  pub sheet_delivered : (b v : List ℕ) (r : Outcome ℕ Refusal) → sheet_fits sheet ≡ true → Delivered (table_bytes (complete (sheet_of sheet))) out b work v r
      → Delivered (cond (sheet_fits sheet) (table_bytes (complete (sheet_of sheet))) (refused 1 0)) out b work v r
  sheet_delivered b v r s d = rw s d

-- no second answer fits: neither another answer nor another byte of either buffer
same_completed : (q r : Outcome ℕ Refusal) → completed_as q ≡ completed_as r → q ≡ r
same_completed = result_once (λ (size : ℕ). size) (λ a b e. e)

module _ (x : Result (List ℕ)) (out b c work v u : List ℕ) (q r : Outcome ℕ Refusal) (one : CompleteCalled x out b work v q) (two : CompleteCalled x out c work u r) where
  pub called_answer : q ≡ r
  called_answer = same_completed q r (one.replied.answer ∙ sym two.replied.answer)

  pub called_output : b ≡ c
  called_output = one.replied.output ∙ sym two.replied.output

  pub called_buffer : v ≡ u
  called_buffer = one.buffer ∙ sym two.buffer

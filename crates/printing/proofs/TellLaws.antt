-- What is printed for an input. A refusal of completion is printed as such. A table that completion wrote is within the limits, so its file is in the
-- layout and is read back as that table, and its listing is the listing of the completion.
use Prim.Native.Nat.{ℕ, ◌≤◌, ◌<◌}
use native.Mathlib.Omega.{arith}
use mathlib.Core.Path.{◌≡◌, refl, subst}
use mathlib.Core.List.{List}
use mathlib.Core.Bool.{Bool, true, false, cond}
use borrow.Author.Tests.{le-leb, lt-leb}
use lib.Dec.{lit≤}
use lib.ListN.{length, take}
use Rattle.words.specs.Refusal.{Result, answered, refused}
use Rattle.words.specs.Answer.{refused_by}
use Rattle.std.specs.Prelude.{Ok, Err}
use Rattle.std.specs.Prelude.{Result as Outcome}
use Rattle.words.specs.declared.refusals.Refusal.{Refusal}
use Rattle.rewriting.specs.Sheet.{Table}
use Rattle.buffers.specs.Written.{written}
use Rattle.buffers.specs.Appended.{Appended}
use Rattle.buffers.proofs.AppendedLaws.{within_put}
use Rattle.buffers.proofs.WrittenLaws.{written_front}
use Rattle.layout.specs.Sheets.{sheet_fits, sheet_of}
use Rattle.layout.specs.Tables.{table_fits, table_of}
use Rattle.writing.specs.Writing.{write_table}
use Rattle.packing.specs.Limits.{sheet_room, table_within}
use Rattle.packing.specs.Packed.{table_room}
use Rattle.packing.proofs.Judged.{table_judged}
use Rattle.packing.proofs.ReadWrite.{table_read_lem}
use Rattle.packing.proofs.Within.{sheet_within_lem}
use Rattle.listing.specs.Room.{refusal_most, text_room}
use Rattle.listing.specs.Text.{table_text, result_text}
use Rattle.workspace.specs.Areas.{work_room}
use Rattle.runs.specs.Completion.{complete}
use Rattle.completing.specs.Calls.{table_bytes, complete_result, CompleteCalled}
use Rattle.printing.specs.Listing.{file_table, input_table, listing}
use Rattle.completing.proofs.KeptLaws.{complete_passes}

-- a refusal is short
refusal_told : (d b : List ℕ) (r : ℕ) (x : Result Table) → Appended d b 0 r refusal_most (result_text x) → Appended d b 0 r text_room (result_text x)
refusal_told d b r x p = within_put d b (result_text x) 0 r refusal_most text_room p (lit≤ tt)

-- the table of a file is within the limits
file_within : (file : List ℕ) (t : Table) → file_table file ≡ answered t → table_within t ≡ true
unfolding file_table
file_within file t e = go (sheet_fits file) refl e
  where
    go : (a : Bool) → sheet_fits file ≡ a → cond a (complete (sheet_of file)) (refused 1 0) ≡ answered t → table_within t ≡ true
    go true f h = (complete_passes (sheet_of file) (sheet_within_lem file f) t h).1
    go false f h = let z : ◌≡◌ {A = ℕ} 0 1 = cc in absurd (omega arith)

-- what completion left: a refusal, or the file of the table
module _ (file out b work v : List ℕ) (q : Outcome ℕ Refusal) (room : table_room ≤ length out) (space : work_room ≤ length work)
    (o : CompleteCalled (complete_result file (length out) (length work)) out b work v q) where
  result_is : complete_result file (length out) (length work) ≡ table_bytes (file_table file)
  unfolding complete_result file_table
  result_is = rw (le-leb table_room (length out) room, le-leb work_room (length work) space) (go (sheet_fits file))
    where
      go : (a : Bool) → cond a (table_bytes (complete (sheet_of file))) (refused 1 0) ≡ table_bytes (cond a (complete (sheet_of file)) (refused 1 0))
      go true = refl
      go false = refl

  ours : CompleteCalled (table_bytes (file_table file)) out b work v q
  ours = subst (λ (x : Result (List ℕ)). CompleteCalled x out b work v q) result_is o

  module _ (d c : List ℕ) (r : ℕ) where
    pub completion_refused : (f : Refusal) → q ≡ Err f → Appended d c 0 r refusal_most (result_text (refused_by f))
        → Appended d c 0 r text_room (result_text (file_table file))
    completion_refused f e p = refusal_told d c r (file_table file) (rw (go (file_table file) (rw e at ours)) p)
      where
        go : (x : Result Table) → CompleteCalled (table_bytes x) out b work v (Err f) → x ≡ refused_by f
        go (answered t) h = let g = h.replied.answer in cc
        go (refused n l) h = let g = h.replied.answer in cc

  module _ (k : ℕ) (e : q ≡ Ok k) where
    written_file : (t : Table) × (file_table file ≡ answered t) × (k ≡ length (write_table t)) × b ≡ written out 0 (write_table t)
    written_file = go (file_table file) refl (rw e at ours)
      where
        go : (x : Result Table) → file_table file ≡ x → CompleteCalled (table_bytes x) out b work v (Ok k)
            → (t : Table) × (file_table file ≡ answered t) × (k ≡ length (write_table t)) × b ≡ written out 0 (write_table t)
        go (answered t) f h =
            let g = h.replied.answer in
            (t, f, cc, h.replied.output)
        go (refused n l) f h = let g = h.replied.answer in let z : ◌≡◌ {A = ℕ} 0 1 = cc in absurd (omega arith)

    file_is : take k b ≡ write_table written_file.0
    file_is = let (t, f, l, w) = written_file in written_front out b (write_table t) w k l

    pub file_fits : table_fits (take k b) ≡ true
    file_fits = let (t, f, l, w) = written_file in rw file_is (table_judged t (file_within file t f))

    pub completion_told : (d c : List ℕ) (r : ℕ) → Appended d c 0 r text_room (table_text (table_of (take k b)).lines)
        → Appended d c 0 r text_room (result_text (file_table file))
    unfolding result_text
    completion_told d c r p = let (t, f, l, w) = written_file in rw (f, ← table_read_lem t, ← file_is) p

-- the input
module _ (input d b : List ℕ) (r : ℕ) where
  pub long_told : sheet_room < length input → Appended d b 0 r refusal_most (result_text (refused 1 0)) → Appended d b 0 r text_room (listing input)
  unfolding listing input_table
  long_told h p = rw (lt-leb (length input) sheet_room h) (refusal_told d b r (refused 1 0) p)

  pub sheet_told : length input ≤ sheet_room → Appended d b 0 r text_room (result_text (file_table input)) → Appended d b 0 r text_room (listing input)
  unfolding listing input_table
  sheet_told h p = rw (le-leb (length input) sheet_room h) p

-- The public call of the listing: the output's size, then the table; a judged table is the one that its slices hold. No second answer fits.
use Prim.Native.Nat.{ℕ, ◌≤◌, ◌<◌}
use native.Mathlib.Omega.{arith}
use mathlib.Core.Path.{◌≡◌, sym, ◌∙◌, ap}
use mathlib.Core.List.{List}
use mathlib.Core.Bool.{true, false}
use borrow.Author.Tests.{lt-leb, le-leb}
use lib.ListN.{length}
use Rattle.words.specs.Refusal.{Result, answered}
use Rattle.words.proofs.AnswerLaws.{result_once}
use Rattle.buffers.specs.Appended.{Appended}
use Rattle.rewriting.specs.Sheet.{Line}
use Rattle.layout.specs.declared.judged.Table.{Table}
use Rattle.layout.specs.Slices.{lines_in}
use Rattle.layout.specs.Tables.{table_fits, table_of}
use Rattle.listing.specs.Room.{text_room}
use Rattle.listing.specs.Text.{table_text}
use Rattle.listing.specs.Slices.{slices_text}
use Rattle.listing.specs.Calls.{list_result, listed_as, ListCalled}
use Rattle.std.specs.Prelude.{Ok, Err}
use Rattle.std.specs.Prelude.{Result as Outcome}
use Rattle.words.specs.declared.refusals.Refusal.{Refusal}
use Rattle.words.specs.declared.refusals.Refusal.TheVariants.{File, Room}
use Rattle.listing.proofs.TextLaws.{slices_text_lem}

module _ (b d : List ℕ) where
  pub list_room : length d < text_room → ListCalled (list_result b (length d)) d d (Err Room)
  unfolding list_result
  list_room h = let f = lt-leb text_room (length d) h in record { answer = rw f; output = rw f }

  module _ (h : text_room ≤ length d) where
    pub list_no_table : table_fits b ≡ false → ListCalled (list_result b (length d)) d d (Err File)
    unfolding list_result
    list_no_table g = let f = le-leb text_room (length d) h in record { answer = rw (f, g); output = rw (f, g) }

    pub list_answer : (t : Table) (c : List ℕ) (k : ℕ) → t.bytes.now ≡ b → Appended d c 0 k text_room (table_text (table_of t.bytes.now).lines)
        → ListCalled (list_result b (length d)) d c (Ok k)
    unfolding list_result
    list_answer t c k e p =
        let fits : table_fits b ≡ true = rw e at t.fits in
        rw (le-leb text_room (length d) h, fits, ← e) (record { answer = ap answered (omega (arith, p.ends)); output = p.output })

-- a judged table in slices
pub file_text : (recs steps words d c : List ℕ) (n k : ℕ) (ts : List Line) → lines_in recs steps words n ≡ ts
    → Appended d c 0 k text_room (slices_text recs words n) → Appended d c 0 k text_room (table_text ts)
file_text recs steps words d c n k ts e p = rw (slices_text_lem recs steps words n ∙ ap table_text e) at p

-- no second answer fits
pub listed_once : (r s : Outcome ℕ Refusal) → listed_as r ≡ listed_as s → r ≡ s
listed_once = result_once (λ k. k) (λ a b e. e)

pub called_once : (x : Result (List ℕ)) (d b c : List ℕ) (r s : Outcome ℕ Refusal) → ListCalled x d b r → ListCalled x d c s → (r ≡ s) × (b ≡ c)
called_once x d b c r s p q = (listed_once r s (p.answer ∙ sym q.answer), p.output ∙ sym q.output)

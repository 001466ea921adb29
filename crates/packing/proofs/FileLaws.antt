-- The pieces are the file. Line by line, the records, steps and words that the packer takes from the slices are those of the lines that the slices
-- hold; so the header and the pieces behind it are the written form of the table.
use Prim.Native.Nat.{ℕ, zero, suc, ◌+◌, ◌*◌}
use native.Mathlib.Omega.{arith}
use mathlib.Core.Path.{◌≡◌, refl, sym, ◌∙◌}
use mathlib.Core.List.{List, ◌++◌, append_assoc}
use lib.ListN.{length, drop, length-append}
use lib.Seq.{drop-drop}
use Rattle.layout.specs.declared.Header.{Header}
use Rattle.layout.specs.Header.{table_kind, step_width}
use Rattle.layout.specs.Slices.{line_left, line_right, steps_by, steps_from, lineage_at, line_in, list_from, lines_in}
use Rattle.layout.specs.Tables.{read_steps}
use Rattle.writing.specs.Writing.{header_bytes, line_records, steps_bytes, line_steps, line_words, steps_made, table_header, write_table}
use Rattle.layout.proofs.SliceLaws.{lines_long}
use Rattle.layout.proofs.FitsLaws.{steps_more}
use Rattle.packing.specs.Packed.{packed_table}
use Rattle.packing.specs.Pieces.{joined, pair_piece, words_piece, record_piece, records_piece, step_piece, steps_piece}
use Rattle.writing.proofs.StepLaws.{read_long}
use Rattle.packing.proofs.JoinedLaws.{joined_two, joined_more}

-- the letters up to the end of line j
pub letters_more : (recs words : List ℕ) (j : ℕ)
    → length (words_piece recs words j) + (length (line_left recs words j) + length (line_right recs words j)) ≡ length (words_piece recs words (j + 1))
unfolding pair_piece
letters_more recs words j =
    let l = line_left recs words j in
    let r = line_right recs words j in
    rw (joined_more (pair_piece recs words) j, length-append (words_piece recs words j) (l ++ r), length-append l r)

-- a line's steps are as many as its record says
lineage_long : (recs steps : List ℕ) (j : ℕ) → length (lineage_at recs steps j) ≡ steps_by recs j
unfolding lineage_at
lineage_long recs steps j = read_long (steps_by recs j) (drop (step_width * steps_from recs 0 j) steps)

-- records, words and numbers of steps, line by line
module _ (recs steps words : List ℕ) where
  records_are : (n k : ℕ) → line_records (length (words_piece recs words k)) (list_from (line_in recs steps words) k n) ≡ joined (record_piece recs words) k n
  unfolding list_from line_in line_records joined record_piece
  records_are zero k = refl
  records_are (suc n) k = rw (lineage_long recs steps k, letters_more recs words k, records_are n (k + 1))

  words_are : (n k : ℕ) → line_words (list_from (line_in recs steps words) k n) ≡ joined (pair_piece recs words) k n
  unfolding list_from line_in line_words joined pair_piece
  words_are zero k = refl
  words_are (suc n) k =
      rw (words_are n (k + 1)) (sym (append_assoc (line_left recs words k) (line_right recs words k) (joined (pair_piece recs words) (k + 1) n)))

  made_is : (n k : ℕ) → steps_made (list_from (line_in recs steps words) k n) ≡ steps_from recs k n
  unfolding list_from line_in steps_made steps_from
  made_is zero k = refl
  made_is (suc n) k = rw (lineage_long recs steps k, made_is n (k + 1))

-- steps, line by line
read_pieces : (n i : ℕ) (s : List ℕ) → steps_bytes (read_steps n (drop (step_width * i) s)) ≡ joined (step_piece s) i n
unfolding read_steps steps_bytes joined step_piece
read_pieces zero i s = refl
read_pieces (suc n) i s =
    let e : step_width * i + step_width ≡ step_width * (i + 1) = omega arith in
    rw (drop-drop step_width (step_width * i) s, e, read_pieces n (i + 1) s)

steps_are : (recs steps words : List ℕ) (n k : ℕ)
    → line_steps (list_from (line_in recs steps words) k n) ≡ joined (step_piece steps) (steps_from recs 0 k) (steps_from recs k n)
unfolding list_from line_in lineage_at line_steps steps_from joined
steps_are recs steps words zero k = refl
steps_are recs steps words (suc n) k =
    let z : 0 + k ≡ k = omega arith in
    rw (
      read_pieces (steps_by recs k) (steps_from recs 0 k) steps,
      steps_are recs steps words n (k + 1),
      steps_more recs k 0,
      z,
    )
    (joined_two (step_piece steps) (steps_by recs k) (steps_from recs (k + 1) n) (steps_from recs 0 k))

none_before : (recs : List ℕ) → steps_from recs 0 0 ≡ 0
unfolding steps_from
none_before recs = refl

-- the whole file
module _ (h : Header) (recs steps words : List ℕ) (e : h.steps ≡ steps_from recs 0 h.pairs) where
  header_is : table_header (packed_table h recs steps words) ≡ h
  unfolding table_header lines_in
  header_is i = record {
    order = h.order;
    letters = h.letters;
    pairs = lines_long recs steps words h.pairs i;
    cited = h.cited;
    steps = (made_is recs steps words h.pairs 0 ∙ sym e) i;
  }

  pub file_is : (k : ℕ) → k ≡ length (words_piece recs words h.pairs)
      → header_bytes table_kind h k ++ (records_piece recs words h.pairs ++ steps_piece steps h.steps ++ words_piece recs words h.pairs)
      ≡ write_table (packed_table h recs steps words)
  unfolding write_table lines_in joined
  file_is k ek =
      let n = h.pairs in
      let s : line_steps (list_from (line_in recs steps words) 0 n) ≡ steps_piece steps h.steps = steps_are recs steps words n 0 ∙ rw (none_before recs, e) in
      rw (
        header_is,
        records_are recs steps words n 0,
        s,
        words_are recs steps words n 0,
        ← ek,
        append_assoc (records_piece recs words n) (steps_piece steps h.steps) (words_piece recs words n),
      )

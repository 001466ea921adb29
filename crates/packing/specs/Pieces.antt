-- Inner: no public promise uses the names of this file.
-- The pieces that the packer writes, one behind the other, from the slices that they are read from.
use Rattle.std.specs.Prelude.{ℕ, zero, suc, ◌+◌, List, [], ◌++◌, length}
use Rattle.layout.specs.Slices.{line_left, line_right, steps_by, stands_by, step_in}
use Rattle.writing.specs.Writing.{record_bytes, step_bytes}

-- what a function gives for the n numbers from k on, in one
unfoldable pub joined : (ℕ → List ℕ) → ℕ → ℕ → List ℕ
joined f k zero = []
joined f k (suc n) = f k ++ joined f (k + 1) n

-- line j's letters
unfoldable pub pair_piece : List ℕ → List ℕ → ℕ → List ℕ
pair_piece recs words j = line_left recs words j ++ line_right recs words j

-- the letters of the first n lines
abbrev pub words_piece : List ℕ → List ℕ → ℕ → List ℕ
words_piece recs words n = joined (pair_piece recs words) 0 n

-- line j's record: its letters stand behind those of the lines before it
unfoldable pub record_piece : List ℕ → List ℕ → ℕ → List ℕ
record_piece recs words j =
    record_bytes (length (words_piece recs words j)) (length (line_left recs words j)) (length (line_right recs words j)) (steps_by recs j) (stands_by recs j)

-- the records of the first n lines
abbrev pub records_piece : List ℕ → List ℕ → ℕ → List ℕ
records_piece recs words n = joined (record_piece recs words) 0 n

-- step i
unfoldable pub step_piece : List ℕ → ℕ → List ℕ
step_piece steps i = step_bytes (step_in steps i)

-- the first n steps
abbrev pub steps_piece : List ℕ → ℕ → List ℕ
steps_piece steps n = joined (step_piece steps) 0 n

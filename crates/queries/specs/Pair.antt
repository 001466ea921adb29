-- The pair call. Specification, "A critical pair": no pair, and nothing written, where a line is absent or deleted, the place
-- does not count or the words disagree; else the peak goes to 0, the reducts to 64 and 128, and their lengths are given.
-- Its output has 192 bytes.
use Rattle.std.specs.Prelude.{ℕ, List, Bool, cond, ◌&&◌}
use Rattle.words.specs.Word.{Word}
use Rattle.words.specs.Refusal.{Result, answered, refused}
use Rattle.rewriting.specs.Pairs.{is_pair, Reducts, peak_of_lines, reducts_of_lines}
use Rattle.rewriting.specs.Sheet.{Line, line_at}
use Rattle.buffers.specs.Written.{written}
use Rattle.words.specs.Output.{on_room}
use Rattle.layout.specs.Tables.{on_table}

pub data PairFound : Type 0 where
  no_pair : PairFound
  -- the peak and its two reducts
  pair_at : Word → Reducts → PairFound

-- the lines n and m are there and stand, and the place k counts for them
unfoldable pub pair_counts : List Line → ℕ → ℕ → ℕ → Bool
pair_counts ts n m k = (line_at ts n).stands && ((line_at ts m).stands && is_pair n m k (line_at ts n).left (line_at ts m).left)

-- two lines, the second laid at the place k of the first
abbrev pub pair_at_lines : ℕ → Line → Line → PairFound
pair_at_lines k s t = pair_at (peak_of_lines k s t) (reducts_of_lines k s t)

unfoldable pub pair_of : List Line → ℕ → ℕ → ℕ → PairFound
pair_of ts n m k = cond (pair_counts ts n m k) (pair_at_lines k (line_at ts n) (line_at ts m)) no_pair

-- table, lines n and m, place, size of the output
unfoldable pub pair_result : List ℕ → ℕ → ℕ → ℕ → ℕ → Result PairFound
pair_result table n m k room = on_room 192 room (on_table table (λ t. answered (pair_of t.lines n m k)))

abbrev pub found_output : PairFound → List ℕ → List ℕ
found_output no_pair out = out
found_output (pair_at w r) out = written (written (written out 0 w) 64 r.first) 128 r.second

abbrev pub pair_output : Result PairFound → List ℕ → List ℕ
pair_output (answered f) out = found_output f out
pair_output (refused n p) out = out

-- Inner: no public promise uses the names of this file.
-- What the packer leaves: the written form of the table at the start of the output, and the rest of the output as it was.
use Rattle.std.specs.Prelude.{ℕ, ◌≤◌, ◌≡◌, List, length}
use Rattle.buffers.specs.Written.{written}
use Rattle.rewriting.specs.Sheet.{Table}
use Rattle.layout.specs.declared.Header.{Header}
use Rattle.layout.specs.Slices.{lines_in}
use Rattle.writing.specs.Writing.{write_table}

-- the bytes of the largest table
abbrev pub table_room : ℕ
table_room = 51216

-- the table with this header whose lines three slices hold
abbrev pub packed_table : Header → List ℕ → List ℕ → List ℕ → Table
packed_table h recs steps words = record {
  order = h.order;
  letters = h.letters;
  cited = h.cited;
  lines = lines_in recs steps words h.pairs;
}

pub record Packed (before after : List ℕ) (size : ℕ) (t : Table) : Type 0 where
  pub sized : size ≡ length (write_table t)
  pub small : size ≤ table_room
  pub output : after ≡ written before 0 (write_table t)

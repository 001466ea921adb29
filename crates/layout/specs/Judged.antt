-- Inner: no public promise uses the names of this file.
-- What is known of a header, as plain facts: that its bytes are there, that its numbers are within the kind's limits, and that its areas lie inside
-- the file.
use Rattle.std.specs.Prelude.{ℕ, ◌+◌, ◌*◌, ◌≤◌, ◌<◌, ◌≡◌, List, true, length}
use Rattle.words.specs.Comparing.{order_known}
use Rattle.layout.specs.declared.Kind.{Kind}
use Rattle.layout.specs.declared.Header.{Header}
use Rattle.layout.specs.Header.{header_size, step_width, sheet_kind, table_kind, words_at}

-- the header can be read
pub record Readable (b : List ℕ) : Type 0 where
  pub long : header_size ≤ length b

-- a u16 can say every number of a header of this kind, and where the words area starts
pub record Limited (k : Kind) : Type 0 where
  pub number : k.number < 65536
  pub pairs : k.pairs < 65536
  pub cited : k.cited < 65536
  pub steps : k.steps < 65536
  pub small : header_size + k.width * k.pairs + step_width * k.steps < 65536

-- the numbers are within the limits of such a kind
pub record Within (k : Kind) (h : Header) : Type 0 where
  pub limited : Limited k
  pub pairs : h.pairs ≤ k.pairs
  pub cited : h.cited ≤ k.cited
  pub steps : h.steps ≤ k.steps

-- a good header: the order is known, the numbers are within the limits, and the areas lie inside a file of this size
pub record Head (k : Kind) (h : Header) (size : ℕ) : Type 0 where
  pub order : order_known h.order h.letters ≡ true
  pub within : Within k h
  pub inside : words_at k h ≤ size

abbrev pub SheetHead : Header → ℕ → Type 0
SheetHead = Head sheet_kind

abbrev pub TableHead : Header → ℕ → Type 0
TableHead = Head table_kind

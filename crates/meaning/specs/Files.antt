-- Files and what they stand for. Specification, "Layout": a file of bytes is in the layout exactly if it is what a sheet, or a table, within the limits
-- is written as; and what is written is read back as it was, so a file stands for one sheet or table, and no two of these have one file.
-- This is condition 1 of the check in plain words.
use Rattle.std.specs.Prelude.{ℕ, ◌≡◌, ◌↔◌, true, List}
use Rattle.rewriting.specs.Sheet.{Sheet, Table}
use Rattle.layout.specs.Sheets.{sheet_fits, sheet_of}
use Rattle.layout.specs.Tables.{table_fits, table_of}
use Rattle.writing.specs.Writing.{write_sheet, write_table}
use Rattle.packing.specs.Limits.{Bytes, sheet_within, table_within}

pub record Files : Type 0 where
  pub sheets : (file : List ℕ) → Bytes file → (sheet_fits file ≡ true) ↔ ((s : Sheet) × (sheet_within s ≡ true) × (file ≡ write_sheet s))
  pub sheet_read : (s : Sheet) → sheet_of (write_sheet s) ≡ s
  pub tables : (file : List ℕ) → Bytes file → (table_fits file ≡ true) ↔ ((t : Table) × (table_within t ≡ true) × (file ≡ write_table t))
  pub table_read : (t : Table) → table_of (write_table t) ≡ t

-- Files and what they stand for go with each other one to one: a judged file of bytes is the written form of what it stands for, which is within the
-- limits; and what is written of a value within the limits is judged good and read back.
use mathlib.Core.Path.{sym}
use Rattle.layout.specs.Sheets.{sheet_of}
use Rattle.layout.specs.Tables.{table_of}
use Rattle.packing.proofs.ReadWrite.{sheet_read_lem, table_read_lem}
use Rattle.packing.proofs.WriteRead.{sheet_written, table_written}
use Rattle.packing.proofs.Judged.{sheet_judged, table_judged}
use Rattle.packing.proofs.Within.{sheet_within_lem, table_within_lem}
use Rattle.meaning.specs.Files.{Files}

pub files : Files
files = record {
  sheets = λ file b. (λ e. (sheet_of file, sheet_within_lem file e, sym (sheet_written file b e)), λ (s, w, e). rw e (sheet_judged s w));
  sheet_read = sheet_read_lem;
  tables = λ file b. (λ e. (table_of file, table_within_lem file b e, sym (table_written file b e)), λ (t, w, e). rw e (table_judged t w));
  table_read = table_read_lem;
}

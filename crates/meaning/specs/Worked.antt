-- The worked examples beside the marked ones, as one statement: the two files of Specification, "Layout", byte by byte, written, judged and read back;
-- the listing of "Listing"; and of "Examples" the two longest normal words and the three runs, one of which tells a right order of waiting entries
-- from a wrong one.
use Rattle.std.specs.Prelude.{ℕ, ◌≡◌, List, [], ◌∷◌, ◌++◌, true, length, replicate}
use Rattle.words.specs.Refusal.{Result, answered, refused}
use Rattle.rewriting.specs.Search.{Rule}
use Rattle.rewriting.specs.Normal.{normal_of, own_allowance}
use Rattle.rewriting.specs.Sheet.{Sheet, Table, rules_of}
use Rattle.layout.specs.Sheets.{sheet_fits, sheet_of}
use Rattle.layout.specs.Tables.{table_fits, table_of}
use Rattle.writing.specs.Writing.{write_sheet, write_table}
use Rattle.chains.specs.Verdict.{met}
use Rattle.checking.specs.Check.{check_result}
use Rattle.runs.specs.Completion.{complete}
use Rattle.listing.specs.Text.{text_bytes}
use Rattle.printing.specs.Listing.{listing}
use Rattle.meaning.specs.Examples.{word, rule, either_zone, seven_rules, swap_sheet, swap_table, jantzen, plane, landmark, long_rule}

-- the sheet ab = ba as printed: header, record, letters
abbrev pub swap_sheet_bytes : List ℕ
swap_sheet_bytes =
    (0x01 ∷ 0x00 ∷ 0x00 ∷ 0x00 ∷ 0x02 ∷ 0x00 ∷ 0x01 ∷ 0x00 ∷ 0x00 ∷ 0x00 ∷ 0x00 ∷ 0x00 ∷ 0x14 ∷ 0x00 ∷ 0x18 ∷ 0x00 ∷ [])
    ++ ((0x00 ∷ 0x00 ∷ 0x02 ∷ 0x02 ∷ []) ++ (0x00 ∷ 0x01 ∷ 0x01 ∷ 0x00 ∷ []))

-- its table: header, record, step, letters
abbrev pub swap_table_bytes : List ℕ
swap_table_bytes =
    (0x02 ∷ 0x00 ∷ 0x00 ∷ 0x00 ∷ 0x02 ∷ 0x00 ∷ 0x01 ∷ 0x00 ∷ 0x01 ∷ 0x00 ∷ 0x01 ∷ 0x00 ∷ 0x1c ∷ 0x00 ∷ 0x20 ∷ 0x00 ∷ [])
    ++ ((0x00 ∷ 0x00 ∷ 0x02 ∷ 0x02 ∷ 0x01 ∷ 0x00 ∷ 0x01 ∷ 0x00 ∷ []) ++ ((0x00 ∷ 0x00 ∷ 0x01 ∷ 0x00 ∷ []) ++ (0x01 ∷ 0x00 ∷ 0x00 ∷ 0x01 ∷ [])))

-- a table with no line for the same sheet: sixteen bytes
abbrev pub empty_table_bytes : List ℕ
empty_table_bytes = 0x02 ∷ 0x00 ∷ 0x00 ∷ 0x00 ∷ 0x02 ∷ 0x00 ∷ 0x00 ∷ 0x00 ∷ 0x01 ∷ 0x00 ∷ 0x00 ∷ 0x00 ∷ 0x10 ∷ 0x00 ∷ 0x10 ∷ 0x00 ∷ []

-- a file that a value is written as, judged good and read back
pub record SheetFile (s : Sheet) (bytes : List ℕ) : Type 0 where
  pub written : write_sheet s ≡ bytes
  pub judged : sheet_fits bytes ≡ true
  pub read : sheet_of bytes ≡ s

pub record TableFile (t : Table) (bytes : List ℕ) : Type 0 where
  pub written : write_table t ≡ bytes
  pub judged : table_fits bytes ≡ true
  pub read : table_of bytes ≡ t

-- the standing rules and the number of lines after a run
pub record Outcome : Type 0 where
  pub rules : List Rule
  pub lines : ℕ

abbrev pub outcome_of : Result Table → Result Outcome
outcome_of (answered t) = answered (record { rules = rules_of t.lines; lines = length t.lines })
outcome_of (refused n p) = refused n p

abbrev pub makes : List Rule → ℕ → Result Outcome
makes rs n = answered (record { rules = rs; lines = n })

pub record Worked : Type 0 where
  pub sheet_bytes : SheetFile swap_sheet swap_sheet_bytes
  pub table_bytes : TableFile swap_table swap_table_bytes
  pub swap_run : complete swap_sheet ≡ answered swap_table
  pub swap_check : check_result swap_sheet_bytes swap_table_bytes ≡ met
  pub either_run : outcome_of (complete either_zone) ≡ makes seven_rules 7
  pub either_listing :
      listing (write_sheet either_zone) ≡ text_bytes "ok 7 rules 7 lines\n0: aa -> a\n1: ba -> b\n2: ab -> b\n3: ca -> c\n4: ac -> c\n5: bb -> b\n6: cc -> c\n"
  -- aX to xax, Ax to XXA, AX to xxA, axx to Xa beside the four inverse pairs
  pub jantzen_run : outcome_of (complete jantzen) ≡
      makes (rule 0 "cd" "" ∷ rule 1 "dc" "" ∷ rule 2 "ab" "" ∷ rule 3 "ba" "" ∷ rule 5 "da" "bbd" ∷ rule 8 "cb" "aca" ∷ rule 12 "db" "aad" ∷ rule 13 "caa" "bc" ∷ []) 14
  -- ba to ab, bA to Ab, Ba to aB, BA to AB beside the four inverse pairs
  pub plane_run : outcome_of (complete plane) ≡
      makes (rule 0 "ab" "" ∷ rule 1 "ba" "" ∷ rule 2 "cd" "" ∷ rule 3 "dc" "" ∷ rule 4 "ca" "ac" ∷ rule 7 "cb" "bc" ∷ rule 8 "da" "ad" ∷ rule 11 "db" "bd" ∷ []) 12
  pub landmark_run : outcome_of (complete landmark) ≡ makes (rule 8 "ba" "ab" ∷ rule 9 "aaab" "" ∷ []) 10
  pub four_letters : normal_of long_rule own_allowance (word "bbbb") ≡ answered (record { word = replicate 128 0; count = 4 })
  pub five_letters : normal_of long_rule own_allowance (word "bbbbb") ≡ refused 6 0

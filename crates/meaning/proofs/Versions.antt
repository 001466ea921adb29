-- Two checks that cannot pass. One that always accepts would accept the table with no line for the sheet ab = ba: there every word is its own normal
-- word, so ab and ba have different ones, though the sheet links them. One that always refuses would refuse the table that is printed beside
-- that sheet, which the definition accepts.
use Prim.Native.Nat.{ℕ}
use native.Mathlib.Omega.{arith}
use mathlib.Core.Path.{◌≡◌, refl, ap}
use mathlib.Core.Bool.{true≢false}
use mathlib.Core.List.{[]}
use lib.Dec.{lit<}
use lib.ListN.{get_or}
use Rattle.words.specs.Word.{Word, letters_below}
use Rattle.words.specs.Comparing.{order_known}
use Rattle.rewriting.specs.Links.{Linked, OfSheet, OfLines, Normal, stop, down, stay}
use Rattle.layout.specs.Header.{header_of, records_at, numbers_fit, lengths_fit, header_fits, records_of, steps_of, words_of}
use Rattle.layout.specs.Sheets.{sides_fit, equations_fit, sheet_fits, read_equations, sheet_of}
use Rattle.layout.specs.Tables.{lines_fit, table_fits, read_lines, table_of}
use Rattle.meaning.specs.Examples.{word, swap_sheet}
use Rattle.meaning.specs.SameFare.{WronglyAccepted, RightlyAccepted}
use Rattle.meaning.specs.Worked.{swap_sheet_bytes, swap_table_bytes, empty_table_bytes}
use Rattle.meaning.proofs.Worked.{worked}

-- with no line every word is its own normal word
own_normal : (u : Word) → Normal (OfLines []) u u
own_normal u = record { reaches = stay; final = λ v r. true≢false (let h = r.rule.1.stands in cc) }

swap_linked : Linked (OfSheet swap_sheet.equations) (word "ab") (word "ba")
swap_linked = down tt (record {
  before = [];
  behind = [];
  left = word "ab";
  right = word "ba";
  rule = record { number = 0; listed = lit< tt; left = refl; right = refl };
  start = refl;
  end = refl;
}) (stop tt)

pub always_accepting : WronglyAccepted swap_sheet_bytes empty_table_bytes
unfolding letters_below order_known header_of records_at numbers_fit lengths_fit header_fits records_of steps_of words_of sides_fit equations_fit sheet_fits read_equations sheet_of lines_fit table_fits read_lines table_of
always_accepting = record {
  sheet_good = refl;
  table_good = refl;
  wrong = λ m. let e : word "ab" ≡ word "ba" = (m.decides.exactly (word "ab") (word "ba") (word "ab") (word "ba") (own_normal (word "ab")) (own_normal (word "ba"))).1 swap_linked in
      let z : ◌≡◌ {A = ℕ} 0 1 = ap (λ (w : Word). get_or w 0 0) e in omega arith;
}

pub always_refusing : RightlyAccepted swap_sheet_bytes swap_table_bytes
always_refusing = worked.swap_check

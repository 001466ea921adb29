-- A judged file in slices, by what its header says: they are what the functions on slices ask for, and hold what the file stands for.
use Prim.Native.Nat.{ℕ, zero, suc, ◌*◌, ◌≤◌}
use native.Mathlib.Omega.{arith}
use mathlib.Core.Path.{◌≡◌, refl, ◌∙◌, ap}
use mathlib.Core.List.{List}
use mathlib.Core.Bool.{true}
use lib.ListN.{length, drop, length-take}
use Rattle.rewriting.specs.Sheet.{rules_of}
use Rattle.layout.specs.declared.Header.{Header}
use Rattle.layout.specs.Header.{sheet_width, table_width, step_width, sheet_kind, table_kind, header_of, records_of, steps_of, words_of}
use Rattle.layout.specs.Judged.{Readable, SheetHead, TableHead}
use Rattle.layout.specs.Sheets.{pair_length, sheet_fits, read_equations, sheet_of}
use Rattle.layout.specs.Tables.{table_fits, table_of}
use Rattle.layout.specs.Slices.{Inside, steps_from, lines_in, rules_in, equations_in}
use Rattle.layout.proofs.HeaderLaws.{good_sized}
use Rattle.layout.proofs.SliceLaws.{rules_are}
use Rattle.layout.proofs.FitsLaws.{sheet_good_header, sheet_good_head, sheet_inside, sheet_equations, table_good_header, table_good_head, table_inside, table_lines, table_steps_inside}

equations_long : (n : ℕ) (recs words : List ℕ) → length (read_equations n recs words) ≡ n
unfolding read_equations
equations_long zero recs words = refl
equations_long (suc n) recs words = ap suc (equations_long n (drop sheet_width recs) (drop (pair_length recs) words))

-- what the header says is what the file stands for
module _ (b : List ℕ) (h : Header) (eh : h ≡ header_of b) where
  pub sheet_order : h.order ≡ (sheet_of b).order
  unfolding sheet_of
  sheet_order = rw eh

  pub sheet_letters : h.letters ≡ (sheet_of b).letters
  unfolding sheet_of
  sheet_letters = rw eh

  pub sheet_long : length (sheet_of b).equations ≡ h.pairs
  unfolding sheet_of
  sheet_long = rw eh (equations_long (header_of b).pairs (records_of sheet_kind b) (words_of sheet_kind b))

  pub table_order : h.order ≡ (table_of b).order
  unfolding table_of
  table_order = rw eh

  pub table_letters : h.letters ≡ (table_of b).letters
  unfolding table_of
  table_letters = rw eh

  pub table_cited : h.cited ≡ (table_of b).cited
  unfolding table_of
  table_cited = rw eh

-- a sheet
module _ (b : List ℕ) (e : sheet_fits b ≡ true) where
  pub sheet_there : Readable b
  sheet_there = (good_sized sheet_kind b (sheet_good_header b e)).there

  module _ (h : Header) (eh : h ≡ header_of b) where
    pub sheet_known : SheetHead h (length b)
    sheet_known = rw eh (sheet_good_head b e)

    pub equations_few : h.pairs ≤ sheet_kind.pairs
    equations_few = sheet_known.within.pairs

    module _ (r w : List ℕ) (er : r ≡ records_of sheet_kind b) (ew : w ≡ words_of sheet_kind b) where
      pub equations_inside : Inside sheet_width r w h.pairs
      equations_inside = rw (er, ew, eh) (sheet_inside b e)

      pub equations_of : equations_in r w h.pairs ≡ (sheet_of b).equations
      equations_of = rw (er, ew, eh) (sheet_equations b e)

-- a table
module _ (b : List ℕ) (e : table_fits b ≡ true) where
  pub table_there : Readable b
  table_there = (good_sized table_kind b (table_good_header b e)).there

  pub steps_few : (s : List ℕ) → s ≡ steps_of table_kind b → length s ≤ 65536
  unfolding steps_of
  steps_few s es = rw (es, length-take) (omega (arith, (table_good_head b e).within.steps))

  module _ (h : Header) (eh : h ≡ header_of b) where
    pub table_known : TableHead h (length b)
    table_known = rw eh (table_good_head b e)

    pub lines_few : h.pairs ≤ table_kind.pairs
    lines_few = table_known.within.pairs

    module _ (r : List ℕ) (er : r ≡ records_of table_kind b) where
      pub steps_there : (s : List ℕ) → s ≡ steps_of table_kind b → step_width * steps_from r 0 h.pairs ≤ length s
      steps_there s es = rw (er, es, eh) (table_steps_inside b e)

      module _ (w : List ℕ) (ew : w ≡ words_of table_kind b) where
        pub lines_inside : Inside table_width r w h.pairs
        lines_inside = rw (er, ew, eh) (table_inside b e)

        pub lines_of : (s : List ℕ) → s ≡ steps_of table_kind b → lines_in r s w h.pairs ≡ (table_of b).lines
        lines_of s es = rw (er, es, ew, eh) (table_lines b e)

        pub table_rules : rules_in r w 0 h.pairs ≡ rules_of (table_of b).lines
        table_rules = rules_are r (steps_of table_kind b) w h.pairs ∙ ap rules_of (lines_of (steps_of table_kind b) refl)

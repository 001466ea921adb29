-- The worked examples hold of the definitions: both sides of each equation compute to the same value.
use mathlib.Core.Path.{refl}
use Rattle.words.specs.Word.{letters_below}
use Rattle.words.specs.Kachinuki.{kachinuki}
use Rattle.words.specs.Shortlex.{shortlex}
use Rattle.words.specs.Order.{order_by}
use Rattle.words.specs.Comparing.{order_known}
use Rattle.words.specs.Counting.{any_from, in_turn}
use Rattle.rewriting.specs.Standing.{begins, stands_at, stands_in}
use Rattle.rewriting.specs.Search.{rule_at, search_from, search}
use Rattle.rewriting.specs.Normal.{word_turn, normal_from, normal_of}
use Rattle.rewriting.specs.Pairs.{agree, place_counts, is_pair, reducts_of}
use Rattle.rewriting.specs.Sheet.{rules_from, rules_of}
use Rattle.rewriting.specs.Steps.{named_sides, exchange, step_to, leads, same_word, chain_holds}
use Rattle.layout.specs.Header.{header_of, records_at, numbers_fit, lengths_fit, header_fits, records_of, steps_of, words_of}
use Rattle.layout.specs.Sheets.{sides_fit, equations_fit, sheet_fits, read_equations, sheet_of}
use Rattle.layout.specs.Tables.{step_fits, steps_fit, line_fits, lines_fit, table_fits, step_of, read_steps, line_of, read_lines, table_of}
use Rattle.writing.specs.Writing.{header_bytes, equation_records, equation_words, line_records, step_bytes, steps_bytes, line_steps, line_words, steps_made, sheet_header, write_sheet, table_header, write_table}
use Rattle.reducing.specs.SameFare.{same_normal, same_fare}
use Rattle.chains.specs.Chains.{chain_verdict, direction_verdict}
use Rattle.checking.specs.Reduced.{holds, holds_one, reduced_verdict}
use Rattle.checking.specs.OneNormal.{same_or, equations_verdict, pair_verdict, places_verdict, two_lines, others_verdict, of_line, pairs_verdict}
use Rattle.checking.specs.Check.{headers_agree, lines_verdict, check_verdict, check_result}
use Rattle.workspace.specs.Waiting.{start_state, two_words, append, strike}
use Rattle.lineage.specs.Lineage.{steps_down, backwards, across}
use Rattle.new_lines.specs.NewLine.{reducible_by, delete_by, overlap_at, overlaps_of, overlaps_with, overlaps_of_new, grow, make_line}
use Rattle.turns.specs.Turn.{orient, settle, treat, turn_of}
use Rattle.runs.specs.Completion.{close, run_for, complete}
use Rattle.listing.specs.Text.{rule_text, rules_text, table_text, result_text}
use Rattle.printing.specs.Listing.{file_table, input_table, listing}
use Rattle.meaning.specs.Worked.{Worked}

pub worked : Worked
unfolding same_normal same_fare letters_below kachinuki shortlex order_by order_known any_from in_turn begins stands_at stands_in rule_at search_from search word_turn normal_from normal_of agree place_counts is_pair reducts_of rules_from rules_of named_sides exchange step_to leads same_word chain_holds header_of records_at numbers_fit lengths_fit header_fits records_of steps_of words_of sides_fit equations_fit sheet_fits read_equations sheet_of step_fits steps_fit line_fits lines_fit table_fits step_of read_steps line_of read_lines table_of header_bytes equation_records equation_words line_records step_bytes steps_bytes line_steps line_words steps_made sheet_header write_sheet table_header write_table chain_verdict direction_verdict holds holds_one reduced_verdict same_or equations_verdict pair_verdict places_verdict two_lines others_verdict of_line pairs_verdict headers_agree lines_verdict check_verdict check_result start_state two_words append strike steps_down backwards across reducible_by delete_by overlap_at overlaps_of overlaps_with overlaps_of_new grow make_line orient settle treat turn_of close run_for complete rule_text rules_text table_text result_text file_table input_table listing
worked = record {
  sheet_bytes = record { written = refl; judged = refl; read = refl };
  table_bytes = record { written = refl; judged = refl; read = refl };
  swap_run = refl;
  swap_check = refl;
  either_run = refl;
  either_listing = refl;
  jantzen_run = refl;
  plane_run = refl;
  landmark_run = refl;
  four_letters = refl;
  five_letters = refl;
}

-- The lengths that the calls give are small. A table that fits has sides of at most 32 letters, so one replacement in a word of 64 letters stays within
-- 128 and a critical pair within 64; a normal word is a query word, or one that a replacement within 128 letters made.
use Prim.Native.Nat.{ℕ, ◌*◌, ◌≤◌, ◌<◌}
use mathlib.Core.Path.{◌≡◌, refl, sym}
use mathlib.Core.Bool.{Bool, true, false, cond, ◌&&◌}
use mathlib.Core.List.{List}
use native.Mathlib.Omega.{arith}
use native.Mathlib.Decide.{dec_lt}
use native.Mathlib.Nat.{min-le_left, le_trans}
use lib.Dec.{leb}
use lib.ListN.{length, take, length-take, length-drop, length-append}
use lib.Seq.{length-take-le}
use Rattle.words.specs.Word.{Word}
use Rattle.words.specs.Comparing.{query_word}
use Rattle.words.specs.Refusal.{Result, answered, refused, on_answer}
use Rattle.words.proofs.TestLaws.{and_right}
use Rattle.rewriting.specs.Search.{Rule, Due, nothing, due, search}
use Rattle.rewriting.specs.Normal.{Counted, normal_of, Runs, halt, turn, Short}
use Rattle.rewriting.specs.Pairs.{is_pair}
use Rattle.rewriting.specs.Sheet.{side_limit, Line, line_at, rules_of}
use Rattle.rewriting.proofs.BoundedLaws.{answered_runs}
use Rattle.rewriting.proofs.SearchLaws.{found_listed, found_fits}
use Rattle.rewriting.proofs.RulesLaws.{rule_stands}
use Rattle.rewriting.proofs.ReplacingLaws.{replaced_short}
use Rattle.rewriting.proofs.PairLaws.{pair_says, first_reduct_lem, second_reduct_lem}
use Rattle.layout.specs.Header.{table_kind, header_of, records_of, steps_of, words_of, table_width}
use Rattle.layout.specs.Tables.{table_fits, table_of, on_table}
use Rattle.layout.specs.Slices.{Placed, left_at, right_at, line_in, lines_in}
use Rattle.layout.proofs.SliceLaws.{line_placed, line_at_lem, line_absent}
use Rattle.layout.proofs.FitsLaws.{table_inside, table_lines}
use Rattle.queries.specs.Queries.{on_query, one_by, asked_result, one_result, normal_result}
use Rattle.words.specs.Output.{on_room}
use Rattle.queries.specs.Pair.{PairFound, no_pair, pair_counts, pair_at_lines, pair_of, pair_result}
use Rattle.queries.specs.Calls.{given_with, told}
use Rattle.queries.proofs.CallLaws.{query_short}
use Rattle.grettalune.specs.Answers.{WordShort, PairShort}

-- both sides of a line have at most 32 letters
abbrev SidesShort : Line → Type 0
SidesShort l = (length l.left ≤ side_limit) × (length l.right ≤ side_limit)

take_short : (n m : ℕ) (w : List ℕ) → n ≤ m → length (take n w) ≤ m
take_short n m w h = rw (length-take n w) (le_trans (min-le_left n (length w)) h)

placed_short : (recs steps words : List ℕ) (j : ℕ) → Placed table_width recs words (table_width * j) → SidesShort (line_in recs steps words j)
unfolding line_in left_at right_at
placed_short recs steps words j p = (take_short _ side_limit _ p.left, take_short _ side_limit _ p.right)

module _ (b : List ℕ) (e : table_fits b ≡ true) where
  sides_short : (j : ℕ) → SidesShort (line_at (table_of b).lines j)
  sides_short j = rw (← (table_lines b e)) (go (dec_lt j (header_of b).pairs))
    where
      recs : List ℕ
      recs = records_of table_kind b

      words : List ℕ
      words = words_of table_kind b

      go : Dec (j < (header_of b).pairs) → SidesShort (line_at (lines_in recs (steps_of table_kind b) words (header_of b).pairs) j)
      go (yes h) =
          rw (line_at_lem recs (steps_of table_kind b) words (header_of b).pairs j h)
          (placed_short recs (steps_of table_kind b) words j (line_placed recs words (header_of b).pairs j (table_inside b e) h))
      go (no h) =
          rw (line_absent recs (steps_of table_kind b) words (header_of b).pairs j (omega arith))
          (omega arith, omega arith)

  -- one replacement in a query word
  one_small : (w : Word) → length w ≤ 64 → length (one_by (search (rules_of (table_of b).lines) w) w).word ≤ 128
  one_small w h = go (search (rules_of (table_of b).lines) w) refl
    where
      go : (d : Due) → search (rules_of (table_of b).lines) w ≡ d → length (one_by d w).word ≤ 128
      go nothing f = omega arith
      go (due p r) f =
          let s = rule_stands (table_of b).lines r (found_listed (rules_of (table_of b).lines) w p r f) in
          let side = (sides_short r.line).1 in
          let right : length r.right ≤ side_limit = rw s.right side in
          let fits = found_fits (rules_of (table_of b).lines) w p r f in
          omega (arith, replaced_short w r.right p (length r.left) (omega arith))

-- a run whose words keep to 128 letters ends in such a word
run_small : {rs : List Rule} {u z : Word} {c : ℕ} (t : Runs rs u z c) → Short t → length u ≤ 128 → length z ≤ 128
run_small (halt e) s h = h
run_small (turn p r e t) s h = run_small t s.1 s.0

normal_small : (rs : List Rule) (a : ℕ) (w : Word) → length w ≤ 64 → WordShort (given_with (normal_of rs a w))
normal_small rs a w h = go (normal_of rs a w) refl
  where
    go : (x : Result Counted) → normal_of rs a w ≡ x → WordShort (given_with x)
    go (answered c) e = let t = answered_runs rs a w c e in run_small t.0 t.1 (omega arith)
    go (refused n p) e = tt

-- a test that refuses
on_test : (t : Bool) (x : Result Counted) (n p : ℕ) → (t ≡ true → WordShort (given_with x)) → WordShort (given_with (cond t x (refused n p)))
on_test true x n p h = h refl
on_test false x n p h = tt

-- a query of a word: the output, the table, the word
query_small : (b : List ℕ) (w : Word) (room : ℕ) (x : Result Counted) → (table_fits b ≡ true → length w ≤ 64 → WordShort (given_with x))
    → WordShort (given_with (on_room 128 room (on_table b (λ t. on_query t w x))))
query_small b w room x h =
    on_test (leb 128 room) (on_table b (λ t. on_query t w x)) 3 0
    (λ r. on_test (table_fits b) (on_query (table_of b) w x) 1 0
    (λ e. on_test (query_word (table_of b).letters w) x 4 0 (λ q. h e (query_short (table_of b).letters w true (sym q) refl))))

pub one_short : (b : List ℕ) (w : Word) (room : ℕ) → WordShort (given_with (one_result b w room))
unfolding asked_result
one_short b w room = query_small b w room (answered (one_by (search (rules_of (table_of b).lines) w) w)) (λ e h. one_small b e w h)

pub normal_short : (b : List ℕ) (w : Word) (a room : ℕ) → WordShort (given_with (normal_result b w a room))
unfolding asked_result
normal_short b w a room =
    query_small b w room (normal_of (rules_of (table_of b).lines) a w) (λ e h. normal_small (rules_of (table_of b).lines) a w h)

-- peak and reducts of two lines
pair_of_short : (n m k : ℕ) (x y : Line) → SidesShort x → SidesShort y → (t : Bool)
    → x.stands && (y.stands && is_pair n m k x.left y.left) ≡ t → PairShort (answered (told (cond t (pair_at_lines k x y) no_pair)))
pair_of_short n m k x y sx sy false e = tt
pair_of_short n m k x y sx sy true e =
    let f = and_right x.stands _ e in
    let g = and_right y.stands (is_pair n m k x.left y.left) f in
    let inside = (pair_says n m k x.left y.left g).0 in (
      simp (length-append, length-drop) (omega (arith, sx.0, sy.0)),
      rw (first_reduct_lem k x.left y.left x.right y.right) (simp (length-append, length-drop) (omega (arith, sx.1, sy.0))),
      rw (second_reduct_lem k x.left y.left x.right y.right (omega arith))
          (simp (length-append, length-drop) (omega (arith, length-take-le k x.left (omega arith), sx.0, sy.1))),
    )

on_pair_test : (t : Bool) (x : Result PairFound) (n p : ℕ) → (t ≡ true → PairShort (on_answer x (λ f. answered (told f))))
    → PairShort (on_answer (cond t x (refused n p)) (λ f. answered (told f)))
on_pair_test true x n p h = h refl
on_pair_test false x n p h = tt

pub pair_short : (b : List ℕ) (n m k room : ℕ) → PairShort (on_answer (pair_result b n m k room) (λ f. answered (told f)))
unfolding pair_result pair_of pair_counts
pair_short b n m k room =
    on_pair_test (leb 192 room) (on_table b (λ t. answered (pair_of t.lines n m k))) 3 0
    (λ r. on_pair_test (table_fits b) (answered (pair_of (table_of b).lines n m k)) 1 0
    (λ e. pair_of_short n m k (line_at (table_of b).lines n) (line_at (table_of b).lines m) (sides_short b e n) (sides_short b e m) _ refl))

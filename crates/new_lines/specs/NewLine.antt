-- A new line joins the table. Specification, "Completion", step 3: a side over 32 letters is refusal 7, a line more than 256 is 8, more than 8,192 steps
-- are 9. Else every standing line with the new left word in one of its words is deleted, in line order, and waits; the new line stands; its overlaps with
-- each older standing line m wait, in line order, first (new, m), then (m, new), each at rising places; those with itself come last, once.
use Rattle.std.specs.Prelude.{ℕ, ◌+◌, Bool, cond, ◌&&◌, ◌||◌, leb, ltb, length}
use Rattle.words.specs.Word.{Word}
use Rattle.words.specs.Refusal.{Result, answered, refused, on_answer}
use Rattle.words.specs.Counting.{in_turn}
use Rattle.rewriting.specs.Standing.{stands_in}
use Rattle.rewriting.specs.Pairs.{is_pair}
use Rattle.rewriting.specs.Sheet.{side_limit, Line, line_at}
use Rattle.writing.specs.Writing.{steps_made}
use Rattle.workspace.specs.Areas.{most_lines, most_steps}
use Rattle.workspace.specs.Waiting.{State, append, strike, with_line}
use Rattle.workspace.specs.declared.Entry.TheVariants.{OfDeleted, OfOverlap}

-- a standing line whose left or right word is reducible by the rule with this left word
unfoldable pub reducible_by : Word → Line → Bool
reducible_by left t = t.stands && (stands_in left t.left || stands_in left t.right)

-- line j, if it is reducible, is deleted and waits
unfoldable pub delete_by : Word → ℕ → State → Result State
delete_by left j d = cond (reducible_by left (line_at d.lines j)) (append (OfDeleted j) (strike j d)) (answered d)

-- the lines n and m at the place k
unfoldable pub overlap_at : ℕ → ℕ → ℕ → State → Result State
overlap_at n m k d =
    cond (is_pair n m k (line_at d.lines n).left (line_at d.lines m).left) (append (OfOverlap (record { n = n; m = m; place = k })) d) (answered d)

-- the lines n and m at every place of n's left word
unfoldable pub overlaps_of : ℕ → ℕ → State → Result State
overlaps_of n m d = in_turn (overlap_at n m) 0 (length (line_at d.lines n).left) d

-- the new line and the line m, if m stands
unfoldable pub overlaps_with : ℕ → ℕ → State → Result State
overlaps_with new m d = cond (line_at d.lines m).stands (on_answer (overlaps_of new m d) (λ e. overlaps_of m new e)) (answered d)

-- the new line and the lines before it, then the new line and itself
unfoldable pub overlaps_of_new : ℕ → State → Result State
overlaps_of_new new d = on_answer (in_turn (overlaps_with new) 0 new d) (λ e. overlaps_of new new e)

-- deletions, the new line, its overlaps
unfoldable pub grow : Line → State → Result State
grow t d = on_answer (in_turn (delete_by t.left) 0 (length d.lines) d) (λ e. overlaps_of_new (length d.lines) (with_line t e))

-- the limits on the new line, then the line itself
unfoldable pub make_line : Line → State → Result State
make_line t d =
    cond (leb (length t.left) side_limit && leb (length t.right) side_limit)
    (cond (ltb (length d.lines) most_lines)
    (cond (leb (steps_made d.lines + length t.steps) most_steps) (grow t d) (refused 9 0))
    (refused 8 0))
    (refused 7 0)

-- One turn. Specification, "Completion", steps 2 and 3: the oldest entry is taken and waits no more. The normal word of its first word is found by the
-- standing lines, then that of its second. The same word: the turn is over. Neither greater in the order: refusal 11. Else the greater is the left word
-- of a line, the smaller its right word.
use Prim.Native.Nat.{ℕ, Ordering}
use Rattle.std.specs.Prelude.{List, [], ◌∷◌, cond, length}
use Rattle.words.specs.Order.{order_by}
use Rattle.words.specs.declared.Order.{Order}
use Rattle.words.specs.Refusal.{Result, answered, refused, on_answer}
use Rattle.rewriting.specs.Normal.{Counted, normal_of, own_allowance}
use Rattle.rewriting.specs.Sheet.{Sheet, Line, rules_of}
use Rattle.rewriting.specs.Steps.{same_word}
use Rattle.rewriting.specs.Pairs.{Reducts}
use Rattle.workspace.specs.Waiting.{State, two_words, new_line}
use Rattle.lineage.specs.Lineage.{steps_down, backwards, across, lineage}
use Rattle.new_lines.specs.NewLine.{make_line}
use Rattle.workspace.specs.declared.Entry.{Entry}

-- the normal words x and y of the entry's first and second word, by the comparison of the two; so many equations are cited
abbrev pub orient_by : Ordering → ℕ → State → Entry → Reducts → Counted → Counted → Result State
orient_by Ordering.lt cited d e w x y =
    make_line (new_line y.word x.word (lineage (steps_down cited (rules_of d.lines) y.count w.second)
    (backwards (across cited e))
    (steps_down cited (rules_of d.lines) x.count w.first))) d
orient_by Ordering.eq cited d e w x y = refused 11 0
orient_by Ordering.gt cited d e w x y =
    make_line (new_line x.word y.word (lineage (steps_down cited (rules_of d.lines) x.count w.first)
    (across cited e)
    (steps_down cited (rules_of d.lines) y.count w.second))) d

-- equal normal words leave the state as it is; else the greater becomes left, the smaller right
unfoldable pub orient : Order → ℕ → State → Entry → Reducts → Counted → Counted → Result State
orient order cited d e w x y =
    cond (same_word x.word y.word) (answered d) (orient_by (order_by order x.word y.word) cited d e w x y)

-- the normal word of the first, then of the second
unfoldable pub settle : Order → ℕ → State → Entry → Reducts → Result State
settle order cited d e w =
    on_answer (normal_of (rules_of d.lines) own_allowance w.first) (λ x.
    on_answer (normal_of (rules_of d.lines) own_allowance w.second) (λ y. orient order cited d e w x y))

-- an entry that has been taken
unfoldable pub treat : Sheet → State → Entry → Result State
treat s d e = settle s.order (length s.equations) d e (two_words s.equations d.lines e)

-- what a turn leaves: none waited, or the state for the next turn
pub data Turned : Type 0 where
  over : Turned
  going : State → Turned

-- the oldest entry is taken
abbrev pub take_oldest : Sheet → List Line → List Entry → Result Turned
take_oldest s ts [] = answered over
take_oldest s ts (e ∷ es) = on_answer (treat s (record { lines = ts; waiting = es }) e) (λ d. answered (going d))

unfoldable pub turn_of : Sheet → State → Result Turned
turn_of s d = take_oldest s d.lines d.waiting

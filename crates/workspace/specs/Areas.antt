-- The areas of the work buffer, one behind the other: the records of the lines as in a table, their steps, their letters, and the ring of waiting
-- entries. Specification, "Limits": 256 lines and 8,192 steps of a table, 2,048 entries that wait. "Completing": a work buffer of 65,536 bytes.
use Rattle.std.specs.Prelude.{ℕ, ◌+◌, ◌*◌, List}
use Rattle.layout.specs.Header.{table_kind, table_width, step_width}
use Rattle.layout.specs.Slices.{part}

abbrev pub work_room : ℕ
work_room = 65536

-- the most lines, their steps, and entries that wait
abbrev pub most_lines : ℕ
most_lines = table_kind.pairs

abbrev pub most_steps : ℕ
most_steps = table_kind.steps

abbrev pub most_waiting : ℕ
most_waiting = 2048

-- the bytes of each area: a record has 8, a step 4, a line's words up to 64, an entry 4
abbrev pub record_room : ℕ
record_room = table_width * most_lines

abbrev pub step_room : ℕ
step_room = step_width * most_steps

abbrev pub letter_room : ℕ
letter_room = 64 * most_lines

abbrev pub ring_room : ℕ
ring_room = 4 * most_waiting

-- where the areas start; the records are in front
abbrev pub steps_start : ℕ
steps_start = record_room

abbrev pub letters_start : ℕ
letters_start = steps_start + step_room

abbrev pub ring_start : ℕ
ring_start = letters_start + letter_room

abbrev pub record_area : List ℕ → List ℕ
record_area w = part 0 record_room w

abbrev pub step_area : List ℕ → List ℕ
step_area w = part steps_start step_room w

abbrev pub letter_area : List ℕ → List ℕ
letter_area w = part letters_start letter_room w

abbrev pub ring_area : List ℕ → List ℕ
ring_area w = part ring_start ring_room w

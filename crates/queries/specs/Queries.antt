-- The queries. Specification, "One replacement", "The normal word" and "Yes or no": an output has 128 bytes (3), the table is
-- any in the layout (1), each word is one that may be asked about (4); then come the normal words, each with the whole
-- allowance. One replacement has count 0 on an irreducible word, else 1.
use Rattle.std.specs.Prelude.{ℕ, List, Bool, cond}
use Rattle.words.specs.Word.{Word}
use Rattle.words.specs.Comparing.{query_word}
use Rattle.words.specs.Refusal.{Result, answered, refused}
use Rattle.rewriting.specs.Search.{Rule, Due, nothing, due, search, after}
use Rattle.rewriting.specs.Normal.{Counted, normal_of}
use Rattle.rewriting.specs.Sheet.{Table, rules_of}
use Rattle.buffers.specs.Written.{written}
use Rattle.words.specs.Output.{on_room}
use Rattle.layout.specs.Tables.{on_table}
use Rattle.reducing.specs.SameFare.{same_fare}

-- a word that may be asked about
abbrev pub on_query : {A : Type 0} → Table → Word → Result A → Result A
on_query t w result = cond (query_word t.letters w) result (refused 4 0)

-- a word with its count goes to the start of the output
abbrev pub counted_output : Result Counted → List ℕ → List ℕ
counted_output (answered c) out = written out 0 c.word
counted_output (refused n p) out = out

abbrev pub one_by : Due → Word → Counted
one_by nothing w = record { word = w; count = 0 }
one_by (due p r) w = record { word = after w p r; count = 1 }

-- what is asked of one word by a table's rules: question, table, word, size of the output
unfoldable pub asked_result : (List Rule → Word → Result Counted) → List ℕ → Word → ℕ → Result Counted
asked_result ask table w room = on_room 128 room (on_table table (λ t. on_query t w (ask (rules_of t.lines) w)))

-- one replacement: table, word, size of the output
abbrev pub one_result : List ℕ → Word → ℕ → Result Counted
one_result table w room = asked_result (λ rs v. answered (one_by (search rs v) v)) table w room

-- the normal word: table, word, allowance, size of the output
abbrev pub normal_result : List ℕ → Word → ℕ → ℕ → Result Counted
normal_result table w allowance room = asked_result (λ rs v. normal_of rs allowance v) table w room

-- yes or no to two words being the same fare: table, words, allowance
unfoldable pub same_result : List ℕ → Word → Word → ℕ → Result Bool
same_result table u v allowance = on_table table (λ t. on_query t u (on_query t v (same_fare (rules_of t.lines) allowance u v)))

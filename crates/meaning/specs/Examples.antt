-- The sheets, tables and rules of Specification, "Layout", "Listing" and "Examples", as values.
use Rattle.std.specs.Prelude.{ℕ, ◌-◌, List, [], ◌∷◌, true}
use Prim.Native.Char.{code}
use Prim.Native.String.{String}
use Rattle.words.specs.Word.{Word}
use Rattle.rewriting.specs.Search.{Rule}
use Rattle.rewriting.specs.Sheet.{Equation, Sheet, Table}

-- a word from its letters as they are printed: a is 0, b is 1 and so on
abbrev pub word : String → Word
word String.[] = []
word (String.◌∷◌ c s) = (code c - 97) ∷ word s

abbrev pub equation : String → String → Equation
equation u v = record { left = word u; right = word v }

abbrev pub rule : ℕ → String → String → Rule
rule n l r = record { line = n; left = word l; right = word r }

abbrev pub shortlex_sheet : ℕ → List Equation → Sheet
shortlex_sheet n es = record { order = record { code = 0 }; letters = n; equations = es }

abbrev pub kachinuki_sheet : ℕ → List Equation → Sheet
kachinuki_sheet n es = record { order = record { code = 1 }; letters = n; equations = es }

-- the "either zone" sheet: a is the boundary
abbrev pub either_zone : Sheet
either_zone = shortlex_sheet 3
    (equation "aa" "a" ∷ equation "ba" "b" ∷ equation "ab" "b" ∷ equation "ca" "c" ∷ equation "ac" "c" ∷ equation "bb" "b" ∷ equation "cc" "c" ∷ [])

-- its seven rules
abbrev pub seven_rules : List Rule
seven_rules = rule 0 "aa" "a" ∷ rule 1 "ba" "b" ∷ rule 2 "ab" "b" ∷ rule 3 "ca" "c" ∷ rule 4 "ac" "c" ∷ rule 5 "bb" "b" ∷ rule 6 "cc" "c" ∷ []

-- without rules 3 and 4
abbrev pub five_rules : List Rule
five_rules = rule 0 "aa" "a" ∷ rule 1 "ba" "b" ∷ rule 2 "ab" "b" ∷ rule 5 "bb" "b" ∷ rule 6 "cc" "c" ∷ []

-- the sheet of "Layout", and its table: ba to ab by the equation backwards at 0
abbrev pub swap_sheet : Sheet
swap_sheet = shortlex_sheet 2 (equation "ab" "ba" ∷ [])

abbrev pub swap_table : Table
swap_table = record {
  order = record { code = 0 };
  letters = 2;
  cited = 1;
  lines = record { left = word "ba"; right = word "ab"; steps = record { reference = 0; back = true; place = 0 } ∷ []; stands = true } ∷ [];
}

-- the Jantzen monoid of examples/jantzen.txt, with x, X, a, A as a, b, c, d: aA, Aa, xX, Xx = -, Axa = XX
abbrev pub jantzen : Sheet
jantzen = kachinuki_sheet 4 (equation "cd" "" ∷ equation "dc" "" ∷ equation "ab" "" ∷ equation "ba" "" ∷ equation "dac" "bb" ∷ [])

-- two directions that commute, with a, A, b, B as a, b, c, d: inverse pairs and ba = ab
abbrev pub plane : Sheet
plane = shortlex_sheet 4 (equation "ab" "" ∷ equation "ba" "" ∷ equation "cd" "" ∷ equation "dc" "" ∷ equation "ca" "ac" ∷ [])

abbrev pub landmark : Sheet
landmark = shortlex_sheet 2 (equation "abaa" "" ∷ [])

-- a kachinuki rule from b to 32 letters a
abbrev pub long_rule : List Rule
long_rule = rule 0 "b" "aaaaaaaaaaaaaaaaaaaaaaaaaaaaaaaa" ∷ []

-- A table or a refusal as text, after Specification, "Listing": a title, then each standing line in line order; or `refused N at P` alone. The empty
-- word is printed as a hyphen, and every line ends in a newline.
use Rattle.std.specs.Prelude.{ℕ, ◌+◌, List, [], ◌∷◌, ◌++◌, cond, ltb, length}
use Prim.Native.Char.{code}
use Prim.Native.String.{String}
use Rattle.words.specs.Word.{Word}
use Rattle.words.specs.Refusal.{Result, answered, refused}
use Rattle.rewriting.specs.Search.{Rule}
use Rattle.rewriting.specs.Sheet.{Line, Table, rules_of}
use Rattle.listing.specs.Decimal.{decimal}

-- a text as bytes
abbrev pub text_bytes : String → List ℕ
text_bytes String.[] = []
text_bytes (String.◌∷◌ c s) = code c ∷ text_bytes s

-- letters a to z, then A to F; no table in the layout has another, so that what stands for one is free: a question mark
abbrev pub letter_byte : ℕ → ℕ
letter_byte a = cond (ltb a 26) (97 + a) (cond (ltb a 32) (39 + a) 63)

abbrev pub letter_bytes : Word → List ℕ
letter_bytes [] = []
letter_bytes (a ∷ w) = letter_byte a ∷ letter_bytes w

abbrev pub word_text : Word → List ℕ
word_text [] = text_bytes "-"
word_text (a ∷ w) = letter_bytes (a ∷ w)

unfoldable pub rule_text : Rule → List ℕ
rule_text r = decimal r.line ++ (text_bytes ": " ++ (word_text r.left ++ (text_bytes " -> " ++ (word_text r.right ++ text_bytes "\n"))))

unfoldable pub rules_text : List Rule → List ℕ
rules_text [] = []
rules_text (r ∷ rs) = rule_text r ++ rules_text rs

-- the title: the number of rules, and that of lines
abbrev pub title_text : ℕ → ℕ → List ℕ
title_text rules lines = text_bytes "ok " ++ (decimal rules ++ (text_bytes " rules " ++ (decimal lines ++ text_bytes " lines\n")))

unfoldable pub table_text : List Line → List ℕ
table_text ts = title_text (length (rules_of ts)) (length ts) ++ rules_text (rules_of ts)

unfoldable pub result_text : Result Table → List ℕ
result_text (answered t) = table_text t.lines
result_text (refused n p) = text_bytes "refused " ++ (decimal n ++ (text_bytes " at " ++ (decimal p ++ text_bytes "\n")))

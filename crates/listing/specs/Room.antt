-- How long the texts are at most. A table has up to 256 lines, a refusal's number is a byte and its place a u16, so that a line's number and a
-- refusal's have up to three digits, and a place has up to five. A word has up to 32 letters.
use Rattle.std.specs.Prelude.{ℕ, ◌+◌, ◌*◌}
use Rattle.layout.specs.Header.{table_kind}

-- a title, with its two numbers
abbrev pub title_most : ℕ
title_most = 23

-- a line's two words, with the colon and the arrow before them
abbrev pub sides_most : ℕ
sides_most = 70

-- a standing line
abbrev pub rule_most : ℕ
rule_most = 3 + sides_most + 1

-- a refusal, with its number and its place
abbrev pub refusal_most : ℕ
refusal_most = 21

-- the text of every table fits
abbrev pub text_room : ℕ
text_room = title_most + rule_most * table_kind.pairs

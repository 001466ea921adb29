-- The replacement that is due. Specification, "Replacing": at the earliest place where a left word stands and, of the rules
-- that stand there, by the one of lowest line number. Rules are listed by rising line number.
use Rattle.std.specs.Prelude.{ℕ, zero, suc, ◌+◌, List, [], ◌∷◌, cond, length}
use Rattle.words.specs.Word.{Word}
use Rattle.rewriting.specs.Standing.{stands_at, replace_at}

-- a rule: a line's number, its left and its right word
pub record Rule : Type 0 where
  pub line : ℕ
  pub left : Word
  pub right : Word

-- the choice at one place
pub data Choice : Type 0 where
  none : Choice
  takes : Rule → Choice

-- of the rules whose left word stands at the place p, the one of lowest line number
unfoldable pub rule_at : List Rule → Word → ℕ → Choice
rule_at [] w p = none
rule_at (r ∷ rs) w p = cond (stands_at r.left w p) (takes r) (rule_at rs w p)

-- the replacement due: none, or its place and its rule
pub data Due : Type 0 where
  nothing : Due
  due : ℕ → Rule → Due

abbrev pub or_later : Choice → ℕ → Due → Due
or_later none p later = later
or_later (takes r) p later = due p r

-- the earliest of the n places from p on where a rule stands
unfoldable pub search_from : List Rule → Word → ℕ → ℕ → Due
search_from rs w p zero = nothing
search_from rs w p (suc n) = or_later (rule_at rs w p) p (search_from rs w (p + 1) n)

unfoldable pub search : List Rule → Word → Due
search rs w = search_from rs w 0 (length w + 1)

-- the word after a replacement
abbrev pub after : Word → ℕ → Rule → Word
after w p r = replace_at w p (length r.left) r.right

-- How a lineage is read. Specification, "Sheets and tables" and "The check": each step puts the one side where the other stands,
-- no word has over 128 letters, and the chain leads from the left to the right word.
use Rattle.std.specs.Prelude.{ℕ, ◌+◌, ◌-◌, ◌<◌, ◌≡◌, Bool, true, false, cond, ◌&&◌, leb, ltb, eqb, length}
use mathlib.Core.List.{List, [], ◌∷◌, Memᴰ}
use Rattle.words.specs.Word.{Word}
use Rattle.rewriting.specs.Standing.{stands_at, replace_at}
use Rattle.rewriting.specs.Sheet.{Equation, Step, Line, line_at, equation_at}

-- the sides that a reference names: below the equation count an equation's, else an earlier line's
unfoldable pub named_sides : List Equation → List Line → ℕ → Equation
named_sides es ts k =
    cond (ltb k (length es))
    (equation_at es k)
    (record { left = (line_at ts (k - length es)).left; right = (line_at ts (k - length es)).right })

-- where a chain has come to
pub data Led : Type 0 where
  astray : Led
  to : Word → Led

abbrev pub on_word : Led → (Word → Led) → Led
on_word astray f = astray
on_word (to w) f = f w

-- from replaced by by at the place p, where from stands there and the new word has at most 128 letters
unfoldable pub exchange : Word → Word → ℕ → Word → Led
exchange from by p w = cond (stands_at from w p && leb (length (replace_at w p (length from) by)) 128) (to (replace_at w p (length from) by)) astray

unfoldable pub step_to : List Equation → List Line → Step → Word → Led
step_to es ts s w =
    cond s.back
    (exchange (named_sides es ts s.reference).right (named_sides es ts s.reference).left s.place w)
    (exchange (named_sides es ts s.reference).left (named_sides es ts s.reference).right s.place w)

unfoldable pub leads : List Equation → List Line → List Step → Word → Led
leads es ts [] w = to w
leads es ts (s ∷ ss) w = on_word (step_to es ts s w) (λ v. leads es ts ss v)

-- two words are the same
unfoldable pub same_word : Word → Word → Bool
same_word [] [] = true
same_word [] (b ∷ v) = false
same_word (a ∷ u) [] = false
same_word (a ∷ u) (b ∷ v) = eqb a b && same_word u v

abbrev pub ends_at : Led → Word → Bool
ends_at astray v = false
ends_at (to w) v = same_word w v

-- the line's chain leads from its left to its right word
unfoldable pub chain_holds : List Equation → List Line → Line → Bool
chain_holds es ts t = ends_at (leads es ts t.steps t.left) t.right

-- the lineage of the line j holds, by equations and earlier lines alone
pub record Lineage (es : List Equation) (ts : List Line) (j : ℕ) : Type 0 where
  pub holds : chain_holds es ts (line_at ts j) ≡ true
  pub earlier : (s : Step) → Memᴰ s (line_at ts j).steps → s.reference < length es + j

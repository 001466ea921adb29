-- Links between words of any length, by rules or equations used in either direction, and normal words with no limit and no strategy.
-- Words that the sheet links carry one fare.
use Prim.Native.Nat.{ℕ, ◌<◌, Ordering}
use Rattle.std.specs.Prelude.{◌≡◌, length, true}
use mathlib.Core.List.{List, ◌++◌, Memᴰ}
use Rattle.words.specs.Word.{Word}
use Rattle.words.specs.Order.{Below}
use Rattle.rewriting.specs.Search.{Rule}
use Rattle.rewriting.specs.Sheet.{Equation, equation_at, Line, line_at}

-- a set of rules, or of equations: which left words go with which right words
abbrev pub Rules : Type 1
Rules = Word → Word → Type 0

-- u with something before it and something behind it
abbrev pub between : Word → Word → Word → Word
between x y u = x ++ (u ++ y)

-- v is u with one left word replaced by its right word
pub record Replaces (R : Rules) (u v : Word) : Type 0 where
  pub before : Word
  pub behind : Word
  pub left : Word
  pub right : Word
  pub rule : R left right
  pub start : u ≡ between before behind left
  pub end : v ≡ between before behind right

-- a chain of replacements, down or up, through words that all have the property P, both ends included
pub data Chain (R : Rules) (P : Word → Type 0) : Word → Word → Type 0 where
  stop : {u : Word} → P u → Chain R P u u
  down : {u v w : Word} → P u → Replaces R u v → Chain R P v w → Chain R P u w
  up : {u v w : Word} → P u → Replaces R v u → Chain R P v w → Chain R P u w

-- no condition on the words between
abbrev pub Any : Word → Type 0
Any w = Unit {0}

-- linked by a chain through words of any length
abbrev pub Linked : Rules → Word → Word → Type 0
Linked R = Chain R Any

-- linked by a chain through words below p
abbrev pub LinkedBelow : (Word → Word → Ordering) → Rules → Word → Word → Word → Type 0
LinkedBelow cmp R p = Chain R (λ w. Below cmp w p)

-- replacements down, any number of them
pub data Reduces (R : Rules) : Word → Word → Type 0 where
  stay : {u : Word} → Reduces R u u
  replace : {u v w : Word} → Replaces R u v → Reduces R v w → Reduces R u w

-- no rule can replace anything
abbrev pub Irreducible : Rules → Word → Type 0
Irreducible R u = (v : Word) → Replaces R u v → ⊥

-- z is a normal word of u, however it was reached
pub record Normal (R : Rules) (u z : Word) : Type 0 where
  pub reaches : Reduces R u z
  pub final : Irreducible R z

-- u and v have a normal word in common
abbrev pub OneNormal : Rules → Word → Word → Type 0
OneNormal R u v = (z : Word) × Normal R u z × Normal R v z

-- every rule goes down in the order
abbrev pub Sinks : (Word → Word → Ordering) → Rules → Type 0
Sinks cmp R = (l r : Word) → R l r → Below cmp r l

-- any two replacements from one word are joined by a chain below that word
abbrev pub Local : (Word → Word → Ordering) → Rules → Type 0
Local cmp R = (u v w : Word) → Replaces R u v → Replaces R u w → LinkedBelow cmp R u v w

-- the equations of a sheet as a set
pub record OfSheet (es : List Equation) (l r : Word) : Type 0 where
  pub number : ℕ
  pub listed : number < length es
  pub left : l ≡ (equation_at es number).left
  pub right : r ≡ (equation_at es number).right

-- a list of rules as a set
pub record OfRules (rs : List Rule) (l r : Word) : Type 0 where
  pub listed : Rule
  pub among : Memᴰ listed rs
  pub left : l ≡ listed.left
  pub right : r ≡ listed.right

-- the line of number n stands and has these sides
pub record StandingLine (ts : List Line) (n : ℕ) (l r : Word) : Type 0 where
  pub stands : (line_at ts n).stands ≡ true
  pub left : l ≡ (line_at ts n).left
  pub right : r ≡ (line_at ts n).right

-- numbered lines as a set of rules
abbrev pub Numbered : (ℕ → Word → Word → Type 0) → Rules
Numbered L l r = (n : ℕ) × L n l r

-- the standing lines as a set of rules
abbrev pub OfLines : List Line → Rules
OfLines ts = Numbered (StandingLine ts)

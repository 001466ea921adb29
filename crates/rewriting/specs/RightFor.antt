-- What makes a table right for a sheet, as plain facts about links, and what follows. Of the conditions of the specification,
-- "The check", 3 gives the first two facts, 5 the third and 6 the last: words with one normal word are linked. 4 is not needed.
use Prim.Native.Nat.{ℕ, Ordering}
use Rattle.std.specs.Prelude.{◌≡◌, ◌↔◌, true, List}
use Rattle.words.specs.Word.{Word}
use Rattle.rewriting.specs.Pairs.{is_pair, peak, reducts_of}
use Rattle.rewriting.specs.Sheet.{Equation, Line}
use Rattle.rewriting.specs.Links.{Linked, LinkedBelow, Normal, Sinks, OfSheet, StandingLine, Numbered, OfLines}

-- the reducts of each critical pair are linked below the peak
abbrev pub PairsMeet : (Word → Word → Ordering) → (ℕ → Word → Word → Type 0) → Type 0
PairsMeet cmp L =
    (n m k : ℕ) (left right laid other : Word)
    → L n left right
    → L m laid other
    → is_pair n m k left laid ≡ true
    → LinkedBelow cmp (Numbered L) (peak k left laid) (reducts_of k left right laid other).first (reducts_of k left right laid other).second

-- the table's standing lines are right for the sheet
pub record RightFor (cmp : Word → Word → Ordering) (es : List Equation) (ts : List Line) : Type 0 where
  -- the sheet links the sides of each standing line
  pub sound : (l r : Word) → OfLines ts l r → Linked (OfSheet es) l r
  -- each standing line's left word is greater than its right word
  pub sinks : Sinks cmp (OfLines ts)
  -- the standing lines link the sides of each equation
  pub sides : (l r : Word) → OfSheet es l r → Linked (OfLines ts) l r
  -- the reducts of each critical pair of standing lines are linked below the peak
  pub meets : PairsMeet cmp (StandingLine ts)

-- normal words by the standing lines tell exactly which words the sheet links, whatever their length and letters
pub record Decides (es : List Equation) (ts : List Line) : Type 0 where
  pub reached : (u : Word) → (z : Word) × Normal (OfLines ts) u z
  pub unique : (u z y : Word) → Normal (OfLines ts) u z → Normal (OfLines ts) u y → z ≡ y
  pub exactly : (u v z y : Word) → Normal (OfLines ts) u z → Normal (OfLines ts) v y → (z ≡ y) ↔ Linked (OfSheet es) u v

-- Normal words with their counts. Specification, "Normal words": at each turn an irreducible word is the answer; else a used-up
-- allowance is 5, a new word over 128 letters 6; else the replacement due is made, and counted.
use Rattle.std.specs.Prelude.{ℕ, zero, suc, ◌+◌, ◌≤◌, ◌<◌, ◌≡◌, ◌⊎◌, List, Bool, true, false, cond, leb, length}
use Rattle.words.specs.Word.{Word}
use Rattle.words.specs.Refusal.{Result, answered, refused}
use Rattle.rewriting.specs.Search.{Rule, Due, nothing, due, search, after}

-- a word and the number of replacements that led to it
pub record Counted : Type 0 where
  pub word : Word
  pub count : ℕ

-- what one turn finds
pub data WordTurn : Type 0 where
  irreducible spent long : WordTurn
  next : Word → WordTurn

-- the turn's order: irreducible, no allowance left, too long, replaced
abbrev pub word_turn_by : Due → Bool → Word → WordTurn
word_turn_by nothing spare w = irreducible
word_turn_by (due p r) spare w = cond spare (cond (leb (length (after w p r)) 128) (next (after w p r)) long) spent

unfoldable pub word_turn : List Rule → Bool → Word → WordTurn
word_turn rs spare w = word_turn_by (search rs w) spare w

abbrev pub on_word_turn : {A : Type 0} → WordTurn → Result A → (Word → Result A) → Result A
on_word_turn irreducible still on = still
on_word_turn spent still on = refused 5 0
on_word_turn long still on = refused 6 0
on_word_turn (next v) still on = on v

-- the turns from a word on: allowance left, replacements made so far, the word
unfoldable pub normal_from : List Rule → ℕ → ℕ → Word → Result Counted
normal_from rs zero k w = on_word_turn (word_turn rs false w) (answered (record { word = w; count = k })) (λ v. refused 5 0)
normal_from rs (suc a) k w = on_word_turn (word_turn rs true w) (answered (record { word = w; count = k })) (λ v. normal_from rs a (k + 1) v)

-- the normal word of w by the rules rs under the allowance a
unfoldable pub normal_of : List Rule → ℕ → Word → Result Counted
normal_of rs a w = normal_from rs a 0 w

-- the allowance of each normal word in completion and check
abbrev pub own_allowance : ℕ
own_allowance = 4096

-- the same with neither allowance nor length limit: from u the replacements due, c of them, reach the irreducible word z
pub data Runs (rs : List Rule) : Word → Word → ℕ → Type 0 where
  halt : {u : Word} → search rs u ≡ nothing → Runs rs u u 0
  turn : {u z : Word} {c : ℕ} (p : ℕ) (r : Rule) → search rs u ≡ due p r → Runs rs (after u p r) z c → Runs rs u z (suc c)

-- no word that a replacement of the run makes passes 128 letters
abbrev pub Short : {rs : List Rule} {u z : Word} {c : ℕ} → Runs rs u z c → Type 0
Short (halt e) = Unit {0}
Short (turn {u} p r e t) = (length (after u p r) ≤ 128) × Short t

-- what a refusal tells: 5 that every run has more replacements than the allowance a, 6 that in no run all words keep to 128 letters
abbrev pub Refuses : List Rule → ℕ → Word → ℕ → Type 0
Refuses rs a w n =
    ((n ≡ 5) × ((z : Word) (c : ℕ) → Runs rs w z c → a < c))
    ⊎ ((n ≡ 6) × ((z : Word) (c : ℕ) (t : Runs rs w z c) → Short t → ⊥))

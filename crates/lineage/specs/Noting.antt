-- Inner: no public promise uses the names of this file.
-- How a lineage is noted on the desk: behind the steps of the lines made so far, where the new line will have it.
use Rattle.std.specs.Prelude.{ℕ, zero, suc, ◌+◌, ◌-◌, ◌≤◌, ◌<◌, ◌≡◌, List, [], ◌∷◌, Bool, cond, length, drop}
use Rattle.words.specs.Word.{Word}
use Rattle.rewriting.specs.Search.{Rule, Due, nothing, due, search, after}
use Rattle.rewriting.specs.declared.Found.{Found}
use Rattle.rewriting.specs.Sheet.{Step}
use Rattle.workspace.specs.Areas.{work_room}
use Rattle.workspace.specs.Work.{state_of, steps_noted, Good}
use Rattle.workspace.specs.Desk.{Notes}
use Rattle.workspace.specs.declared.Entry.{Entry}
use Rattle.workspace.specs.declared.Nums.{Nums}
use Rattle.workspace.specs.declared.desk.Desk.{Desk}
use Rattle.lineage.specs.Lineage.{either_way, across}

-- the middle of a lineage: the way across, or backwards where the chain comes from the entry's second word
abbrev pub middle : Bool → ℕ → Entry → List Step
middle back cited e = either_way back (across cited e)

-- the number under which replacement k of c is noted, from the number at on
abbrev pub number_of : ℕ → ℕ → ℕ → Bool → ℕ
number_of at c k back = cond back (at + (c - (k + 1))) (at + k)

abbrev pub Followed : Due → (ℕ → Rule → Type 0) → Type 0
Followed nothing on = ⊥
Followed (due p r) on = on p r

-- c replacements are due from w on, one after the other, and their words have at most 128 letters
unfoldable pub Replays : List Rule → ℕ → Word → Type 0
Replays rs zero w = Unit {0}
Replays rs (suc c) w = Followed (search rs w) (λ p r. (length (after w p r) ≤ 128) × Replays rs c (after w p r))

-- the replacement due by the rules rs of n lines is made in the word w, so that it becomes v
pub record Replayed (rs : List Rule) (n : ℕ) (w v : Word) (f : Found) : Type 0 where
  pub rule : Rule
  pub found : search rs w ≡ due f.place rule
  pub line : rule.line ≡ f.line
  pub below : f.line < n
  pub place : f.place ≤ 128
  pub word : v ≡ after w f.place rule

-- the replacement due in the word w is noted as the step at, so that the desk d becomes e; it is made, so that w becomes v
pub record DueNoted (rs : List Rule) (cited : ℕ) (back : Bool) (at : ℕ) (d e : Desk) (w v : Word) : Type 0 where
  pub place : ℕ
  pub rule : Rule
  pub found : search rs w ≡ due place rule
  pub step : Notes d at (record { reference = cited + rule.line; back = back; place = place } ∷ []) e
  pub word : v ≡ after w place rule

-- the steps are noted for the next line, and all else is as it was
pub record Traced (w v : List ℕ) (n : Nums) (ss : List Step) : Type 0 where
  pub good : Good v n
  pub state : state_of v n ≡ state_of w n
  pub read : steps_noted v n.steps (length ss) ≡ ss
  pub size : length v ≡ length w
  pub past : drop work_room v ≡ drop work_room w

-- the same on the desk
pub record Traces (d e : Desk) (ss : List Step) : Type 0 where
  pub traced : Traced d.work.now e.work.now d.nums ss
  pub nums : e.nums ≡ d.nums
  pub held : e.work.ghost_name ≡ d.work.ghost_name

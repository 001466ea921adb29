-- The state of a buffer is made of its areas: where these are as they were, so are its lines and its entries, and the numbers fit.
use Prim.Native.Nat.{ℕ, zero, suc, ◌+◌, ◌*◌, ◌≤◌, ◌<◌}
use mathlib.Core.Path.{◌≡◌, refl, sym, ◌∙◌, ap}
use mathlib.Core.List.{List, []}
use native.Mathlib.Omega.{arith}
use lib.ListN.{length, drop}
use Rattle.layout.specs.Header.{table_width, step_width}
use Rattle.rewriting.specs.Sheet.{Line, rules_of}
use Rattle.buffers.specs.Bytes.{u16_at}
use Rattle.layout.specs.Tables.{read_steps}
use Rattle.layout.specs.Slices.{Inside, steps_from, lineage_at, line_in, list_from, lines_in, rules_in}
use Rattle.writing.specs.Writing.{steps_made}
use Rattle.layout.proofs.SliceLaws.{list_long, lines_long, rules_are}
use Rattle.workspace.specs.Waiting.{State}
use Rattle.workspace.specs.Areas.{work_room, most_waiting, record_area, step_area, letter_area, ring_area}
use Rattle.workspace.specs.Work.{waiting_at, state_of, Good}
use Rattle.workspace.specs.declared.Entry.{Entry}
use Rattle.workspace.specs.declared.Nums.{Nums}

-- two states with the same lines and the same entries
pub states : {a b : List Line} {c d : List Entry} → a ≡ b → c ≡ d → ◌≡◌ {A = State} (record { lines = a; waiting = c }) (record { lines = b; waiting = d })
states p q = λ i. record { lines = p i; waiting = q i }

-- where records and letters are as they were, the numbers fit, wherever the ring starts
pub good_moved : (w v : List ℕ) (n : Nums) (head count : ℕ) → Good w n → head < most_waiting → count ≤ most_waiting → length v ≡ length w
    → record_area v ≡ record_area w → letter_area v ≡ letter_area w
    → Good v (record { lines = n.lines; letters = n.letters; steps = n.steps; head = head; count = count })
good_moved w v n head count g h c l r s = record {
  long = omega (arith, g.long);
  lines = g.lines;
  letters = g.letters;
  steps = g.steps;
  made = rw r g.made;
  head = h;
  count = c;
  inside = rw (r, s) g.inside;
}

pub read_long : (k : ℕ) (s : List ℕ) → length (read_steps k s) ≡ k
unfolding read_steps
read_long zero s = refl
read_long (suc k) s = ap suc (read_long k (drop 4 s))

steps_made_lem : (recs steps words : List ℕ) (k m : ℕ) → steps_made (list_from (line_in recs steps words) k m) ≡ steps_from recs k m
unfolding steps_made list_from line_in lineage_at steps_from
steps_made_lem recs steps words k zero = refl
steps_made_lem recs steps words k (suc m) =
    rw (read_long (u16_at recs (table_width * k + 4)) (drop (step_width * steps_from recs 0 k) steps), steps_made_lem recs steps words (k + 1) m)

-- the state has as many lines, entries and steps as the numbers say
module _ (w : List ℕ) (n : Nums) where
  pub lines_counted : length (state_of w n).lines ≡ n.lines
  unfolding state_of
  lines_counted = lines_long (record_area w) (step_area w) (letter_area w) n.lines

  pub waiting_counted : length (state_of w n).waiting ≡ n.count
  unfolding state_of
  waiting_counted = list_long (waiting_at (ring_area w)) n.head n.count

  pub steps_counted : Good w n → steps_made (state_of w n).lines ≡ n.steps
  unfolding state_of lines_in
  steps_counted g = steps_made_lem (record_area w) (step_area w) (letter_area w) 0 n.lines ∙ sym g.made

-- the rules of a state as its areas have them
pub state_rules : (w : List ℕ) (n : Nums) → rules_in (record_area w) (letter_area w) 0 n.lines ≡ rules_of (state_of w n).lines
unfolding state_of
state_rules w n = rules_are (record_area w) (step_area w) (letter_area w) n.lines

-- where nothing stands yet
pub start_good : (w : List ℕ) → work_room ≤ length w → Good w (record { lines = 0; letters = 0; steps = 0; head = 0; count = 0 })
unfolding steps_from Inside
start_good w h = record {
  long = h;
  lines = omega arith;
  letters = omega arith;
  steps = omega arith;
  made = refl;
  head = omega arith;
  count = omega arith;
  inside = λ j l. absurd (omega (arith, l));
}

pub start_empty : (w : List ℕ) → state_of w (record { lines = 0; letters = 0; steps = 0; head = 0; count = 0 }) ≡ record { lines = []; waiting = [] }
unfolding state_of lines_in list_from
start_empty w = refl

-- The same on the desk: what the laws of the ring, of lines and of turns say of its bytes and numbers, and that it holds the same buffer after them.
use Prim.Native.Nat.{ℕ, ◌+◌, ◌-◌, ◌*◌, ◌%◌, ◌≤◌, ◌<◌}
use mathlib.Core.Path.{◌≡◌, refl, ◌∙◌}
use mathlib.Core.List.{List, ◌++◌}
use mathlib.Core.Bool.{true}
use Rattle.std.specs.Prelude.{None, Some, Ok, Err}
use Rattle.std.specs.Prelude.{Result as Outcome}
use lib.ListN.{length, set}
use lib.Seq.{paste}
use Rattle.layout.specs.Header.{table_width}
use Rattle.buffers.specs.Written.{written}
use Rattle.words.specs.Refusal.{Result, answered, on_answer}
use Rattle.words.specs.Counting.{in_turn}
use Rattle.words.specs.declared.refusals.Refusal.{Refusal}
use Rattle.words.specs.declared.refusals.Refusal.TheVariants.{ManyWaiting}
use Rattle.rewriting.specs.Sheet.{side_limit}
use Rattle.writing.specs.Writing.{record_bytes}
use Rattle.workspace.specs.Waiting.{State, append, strike, new_line, with_line}
use Rattle.workspace.specs.Areas.{most_lines, most_steps, most_waiting, letters_start, ring_start}
use Rattle.workspace.specs.Work.{entry_bytes, entry_at, steps_noted, Good}
use Rattle.workspace.specs.Desk.{state, nums_after, Makes, Leaves, Pops}
use Rattle.workspace.specs.declared.Entry.{Entry}
use Rattle.workspace.specs.declared.Nums.{Nums}
use Rattle.workspace.specs.declared.desk.Desk.{Desk}
use Rattle.workspace.proofs.StateLaws.{good_moved}
use Rattle.workspace.proofs.RingLaws.{push_full, push_on, pop_none, pop_took}
use Rattle.workspace.proofs.LineLaws.{strike_done, add_done}
use Rattle.workspace.proofs.TurnLaws.{does_nothing, then_on, then_same, then_refused, Through, through_start, through_next, through_refused, through_end}

-- appending
pub push_good : (w v : List ℕ) (n : Nums) (x : Entry) → Good w n → n.count < most_waiting
    → v ≡ paste w (ring_start + 4 * ((n.head + n.count) % most_waiting)) (entry_bytes x) 4
    → Good v (record { lines = n.lines; letters = n.letters; steps = n.steps; head = n.head; count = n.count + 1 })
push_good w v n x g h f = (push_on w v n x g h f).good

module _ (d e : Desk) (x : Entry) where
  pub pushed_none : most_waiting ≤ d.nums.count → e ≡ d → Leaves d e (Err ManyWaiting) (append x (state d))
  pushed_none h q = rw q (record { does = push_full d.work.now d.nums x d.good h; held = refl })

  pub pushed_one : d.nums.count < most_waiting → e.work.now ≡ paste d.work.now (ring_start + 4 * ((d.nums.head + d.nums.count) % most_waiting)) (entry_bytes x) 4
      → e.nums ≡ record { lines = d.nums.lines; letters = d.nums.letters; steps = d.nums.steps; head = d.nums.head; count = d.nums.count + 1 }
      → e.work.ghost_name ≡ d.work.ghost_name → Leaves d e (Ok tt) (append x (state d))
  pushed_one h f q k = record { does = rw q (push_on d.work.now e.work.now d.nums x d.good h f); held = k }

-- taking
pub pop_good : (w : List ℕ) (n : Nums) (h c : ℕ) → Good w n → h < most_waiting → c ≤ most_waiting
    → Good w (record { lines = n.lines; letters = n.letters; steps = n.steps; head = h; count = c })
pop_good w n h c g p q = good_moved w w n h c g p q refl refl refl

pub popped_none : (d e : Desk) → d.nums.count ≡ 0 → e ≡ d → Pops d e None
popped_none d e h q = rw q (record { takes = pop_none d.work.now d.nums h; stays = λ r. refl; bytes = refl; held = refl })

pub popped_one : (d e : Desk) (x : Entry) → (d.nums.count ≡ 0 → ⊥) → x ≡ entry_at d.work.now (ring_start + 4 * d.nums.head) → e.work.now ≡ d.work.now
    → e.nums ≡ record { lines = d.nums.lines; letters = d.nums.letters; steps = d.nums.steps; head = (d.nums.head + 1) % most_waiting; count = d.nums.count - 1 }
    → e.work.ghost_name ≡ d.work.ghost_name → Pops d e (Some x)
popped_one d e x h f b q k = record { takes = rw q (pop_took d.work.now d.nums x d.good h f); stays = λ r. absurd (cc r); bytes = b; held = k }

-- deleting a line
pub line_struck : (d e : Desk) (j : ℕ) → j < d.nums.lines → e.work.now ≡ set d.work.now (table_width * j + 6) 0 → e.nums ≡ d.nums
    → e.work.ghost_name ≡ d.work.ghost_name → Leaves d e (Ok tt) (answered (strike j (state d)))
line_struck d e j l b q k = record { does = rw (b, q) (strike_done d.work.now d.nums j d.good l); held = k }

-- making one
module _ (w x v left right : List ℕ) (n : Nums) (k : ℕ) (g : Good w n) (few : n.lines < most_lines) (bl : length left ≤ side_limit) (br : length right ≤ side_limit)
    (c : n.steps + k ≤ most_steps) (f₁ : x ≡ written w (table_width * n.lines) (record_bytes n.letters (length left) (length right) k true))
    (f₂ : v ≡ written x (letters_start + n.letters) (left ++ right)) where
  pub add_good : Good v (record { lines = n.lines + 1; letters = n.letters + length left + length right; steps = n.steps + k; head = n.head; count = n.count })
  add_good = (add_done w x v left right n k g few bl br c f₁ f₂).good

module _ (d e : Desk) (x left right : List ℕ) (k : ℕ) (few : d.nums.lines < most_lines) (bl : length left ≤ side_limit) (br : length right ≤ side_limit)
    (c : d.nums.steps + k ≤ most_steps)
    (f₁ : x ≡ written d.work.now (table_width * d.nums.lines) (record_bytes d.nums.letters (length left) (length right) k true))
    (f₂ : e.work.now ≡ written x (letters_start + d.nums.letters) (left ++ right)) where
  pub line_added : e.nums ≡ record { lines = d.nums.lines + 1; letters = d.nums.letters + length left + length right; steps = d.nums.steps + k; head = d.nums.head; count = d.nums.count }
      → e.work.ghost_name ≡ d.work.ghost_name
      → Makes d (d.nums.lines + 1) (d.nums.steps + k) e (Ok tt) (answered (with_line (new_line left right (steps_noted d.work.now d.nums.steps k)) (state d)))
  line_added q h = record { does = rw q (add_done d.work.now x e.work.now left right d.nums k d.good few bl br c f₁ f₂); held = h }

-- one function after the other
pub makes_nothing : (d : Desk) → Leaves d d (Ok tt) (answered (state d))
makes_nothing d = record { does = does_nothing d.work.now d.nums d.good; held = refl }

pub makes_on : (d e h : Desk) (k s l t : ℕ) (r : Outcome (Unit {0}) Refusal) (x : Result State) (g : State → Result State)
    → Makes d k s e (Ok tt) x → Makes e l t h r (g (state e)) → Makes d l t h r (on_answer x g)
makes_on d e h k s l t r x g o f = record {
  does = then_on d.work.now e.work.now h.work.now k s l t (nums_after r h) e.nums x g o.does f.does;
  held = f.held ∙ o.held;
}

-- where neither makes a line
pub makes_same : (d e h : Desk) (k s : ℕ) (r : Outcome (Unit {0}) Refusal) (x : Result State) (g : State → Result State)
    → Makes d k s e (Ok tt) x → Leaves e h r (g (state e)) → Makes d k s h r (on_answer x g)
makes_same d e h k s r x g o f = record {
  does = then_same d.work.now e.work.now h.work.now k s (nums_after r h) e.nums x g o.does f.does;
  held = f.held ∙ o.held;
}

pub makes_refused : (d e : Desk) (k s l t : ℕ) (f : Refusal) (x : Result State) (g : State → Result State) → Makes d k s e (Err f) x
    → Makes d l t e (Err f) (on_answer x g)
makes_refused d e k s l t f x g o = record { does = then_refused d.work.now e.work.now k s l t f x g o.does; held = o.held }

-- from the desk d on, the numbers before j are gone through, and it is e
pub record Gone (f : ℕ → State → Result State) (d : Desk) (n : ℕ) (e : Desk) (j : ℕ) : Type 0 where
  pub through : Through f d.work.now d.nums n e.work.now e.nums j
  pub held : e.work.ghost_name ≡ d.work.ghost_name

module _ (f : ℕ → State → Result State) (d : Desk) (n : ℕ) where
  pub gone_start : Gone f d n d 0
  gone_start = record { through = through_start f d.work.now d.nums n d.good; held = refl }

  pub gone_next : (e h : Desk) (j : ℕ) → Gone f d n e j → j < n → Leaves e h (Ok tt) (f j (state e)) → Gone f d n h (j + 1)
  gone_next e h j i l o = record {
    through = through_next f d.work.now d.nums n e.work.now h.work.now e.nums h.nums j i.through l o.does;
    held = o.held ∙ i.held;
  }

  pub gone_refused : (e h : Desk) (j : ℕ) (x : Refusal) → Gone f d n e j → j < n → Leaves e h (Err x) (f j (state e))
      → Leaves d h (Err x) (in_turn f 0 n (state d))
  gone_refused e h j x i l o = record {
    does = through_refused f d.work.now d.nums n e.work.now h.work.now e.nums j x i.through l o.does;
    held = o.held ∙ i.held;
  }

  pub gone_end : (e : Desk) (j : ℕ) → Gone f d n e j → n ≤ j → Leaves d e (Ok tt) (in_turn f 0 n (state d))
  gone_end e j i l = record { does = through_end f d.work.now d.nums n e.work.now e.nums j i.through l; held = i.held }

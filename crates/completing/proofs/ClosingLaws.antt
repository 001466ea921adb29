-- The end of a completion. What the closing check says of the state's lines decides whether their table is written; and that is the completion of the
-- sheet, as its run has no other end.
use Prim.Native.Nat.{ℕ, ◌≤◌}
use Rattle.std.specs.Prelude.{Ok, Err}
use Rattle.std.specs.Prelude.{Result as Outcome}
use Rattle.std.specs.Borrow.{GName}
use Rattle.words.specs.declared.refusals.Refusal.{Refusal}
use mathlib.Core.Path.{◌≡◌, refl, sym, ◌∙◌, ap}
use mathlib.Core.List.{List, []}
use native.Mathlib.Omega.{arith}
use lib.ListN.{length, drop}
use Rattle.words.specs.Refusal.{answered, on_answer}
use Rattle.rewriting.specs.Sheet.{Equation, Sheet}
use Rattle.layout.specs.declared.Header.{Header}
use Rattle.layout.specs.Header.{header_of}
use Rattle.layout.specs.Sheets.{sheet_of}
use Rattle.layout.specs.Slices.{lines_in}
use Rattle.layout.proofs.JudgedLaws.{sheet_order, sheet_letters, sheet_long}
use Rattle.packing.specs.Packed.{Packed}
use Rattle.checking.specs.Check.{lines_verdict}
use Rattle.chains.specs.Answers.{verdict_as}
use Rattle.workspace.specs.Areas.{work_room, record_area, step_area, letter_area}
use Rattle.workspace.specs.Waiting.{equations_from, start_state}
use Rattle.workspace.specs.Desk.{state}
use Rattle.workspace.specs.declared.desk.Desk.{Desk}
use Rattle.workspace.proofs.AreaLaws.{area_lines}
use Rattle.turns.specs.Outcomes.{sheet_in}
use Rattle.runs.specs.Completion.{state_table, close, complete}
use Rattle.runs.specs.Ends.{end_as, Ran}
use Rattle.runs.proofs.RunLaws.{complete_once}
use Rattle.runs.proofs.CloseLaws.{close_is}
use Rattle.completing.specs.Calls.{table_bytes, Replied, Delivered}

-- the table that is packed from the desk is the state's
module _ (b : List ℕ) (h : Header) (eh : h ≡ header_of b) (d : Desk) (recs steps words : List ℕ) (er : recs ≡ record_area d.work.now)
    (es : steps ≡ step_area d.work.now) (ew : words ≡ letter_area d.work.now) where
  pub state_packed : (out c : List ℕ) (r : ℕ)
      → Packed out c r (record { order = h.order; letters = h.letters; cited = h.pairs; lines = lines_in recs steps words d.nums.lines })
      → Packed out c r (state_table (sheet_of b) (state d))
  state_packed out c r p =
      rw (← sheet_order b h eh, ← sheet_letters b h eh, sheet_long b h eh, ← area_lines d.work.now d.nums recs words er ew steps es) p

-- what the closing check decides
module _ (s : Sheet) (d : Desk) (out : List ℕ) where
  close_told : (v : Outcome (Unit {0}) Refusal) → verdict_as v ≡ lines_verdict s.order s.equations (state d).lines
      → close s (state d) ≡ on_answer (verdict_as v) (λ _. answered (state_table s (state d)))
  close_told v e = rw e (close_is s (state d))

  pub close_refused : (f : Refusal) → verdict_as (Err f) ≡ lines_verdict s.order s.equations (state d).lines
      → Replied (table_bytes (close s (state d))) out out (Err f)
  close_refused f e = rw (close_told (Err f) e) (record { answer = refl; output = refl })

  pub close_met : (u : Unit {0}) (b : List ℕ) (m : ℕ) → verdict_as (Ok u) ≡ lines_verdict s.order s.equations (state d).lines
      → Packed out b m (state_table s (state d)) → Replied (table_bytes (close s (state d))) out b (Ok m)
  close_met u b m e p = rw (close_told (Ok u) e) (record { answer = ap answered p.sized; output = p.output })

-- the turns of a sheet, then the closing check: the desk held the same buffer all the time, so what stands there is left
module _ (b : List ℕ) (h : Header) (eh : h ≡ header_of b) (es : List Equation) (ee : es ≡ (sheet_of b).equations) (k : ℕ) (long : length es ≡ k) (few : k ≤ 64)
    (w v : List ℕ) (d e : Desk) (start : d.work.now ≡ w) (name : GName) (own : d.work.ghost_name ≡ name) (told : name ≡ e.work.ghost_name → v ≡ e.work.now) where
  sheet_is : sheet_in h.order h.letters es ≡ sheet_of b
  unfolding sheet_of
  sheet_is = λ i. record { order = sheet_order b h eh i; letters = sheet_letters b h eh i; equations = ee i }

  -- the run of the sheet has this end
  run_told : (r : Outcome (Unit {0}) Refusal) → Ran h.order es (record { lines = []; waiting = equations_from 0 k }) d e r
      → end_as (sheet_of b) r e ≡ complete (sheet_of b)
  unfolding start_state
  run_told r t =
      let s = sheet_in h.order h.letters es in
      rw (← sheet_is) (complete_once s (omega (arith, long)) (end_as s r e) (rw long (t.told h.letters)))

  kept : (r : Outcome (Unit {0}) Refusal) → Ran h.order es (record { lines = []; waiting = equations_from 0 k }) d e r
      → (length v ≡ length w) × (drop work_room v ≡ drop work_room w)
  kept r t =
      let left = told (sym own ∙ sym t.held) in
      (ap length left ∙ t.size ∙ ap length start, ap (λ (l : List ℕ). drop work_room l) left ∙ t.past ∙ ap (λ (l : List ℕ). drop work_room l) start)

  pub delivered_refused : (out : List ℕ) (f : Refusal) → Ran h.order es (record { lines = []; waiting = equations_from 0 k }) d e (Err f)
      → Delivered (table_bytes (complete (sheet_of b))) out out w v (Err f)
  delivered_refused out f t = record {
    replied = rw (← run_told (Err f) t) (record { answer = refl; output = refl });
    size = (kept (Err f) t).0;
    past = (kept (Err f) t).1;
  }

  pub delivered_closed : (out c : List ℕ) (q : Outcome ℕ Refusal) → Ran h.order es (record { lines = []; waiting = equations_from 0 k }) d e (Ok tt)
      → Replied (table_bytes (close (sheet_of b) (state e))) out c q → Delivered (table_bytes (complete (sheet_of b))) out c w v q
  delivered_closed out c q t p = record {
    replied = rw (← run_told (Ok tt) t) p;
    size = (kept (Ok tt) t).0;
    past = (kept (Ok tt) t).1;
  }

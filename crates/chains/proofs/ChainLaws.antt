-- Chains as the code follows them: the steps of a line, its end, the lines.
use Prim.Native.Nat.{ℕ, zero, suc, ◌+◌, ◌-◌, ◌*◌, ◌≤◌, ◌<◌}
use native.Mathlib.Omega.{arith}
use mathlib.Core.Path.{◌≡◌, refl, sym, ◌∙◌, ap}
use mathlib.Core.List.{List}
use mathlib.Core.Bool.{Bool, true, false, not}
use borrow.Author.Tests.{not-true, not-false}
use lib.ListN.{length, drop}
use lib.Seq.{drop-drop}
use Rattle.layout.specs.Header.{step_width}
use Rattle.words.specs.Word.{Word}
use Rattle.words.specs.Refusal.{refused}
use Rattle.words.specs.declared.refusals.Refusal.TheVariants.{Chain}
use Rattle.rewriting.specs.Sheet.{Equation, Line}
use Rattle.rewriting.specs.Steps.{Led, step_to, leads, on_word, same_word, ends_at, chain_holds}
use Rattle.layout.specs.Tables.{step_of, read_steps}
use Rattle.layout.specs.Slices.{steps_by, step_in, steps_from, lineage_at, line_in, equations_in, lines_in, line_left, line_right}
use Rattle.layout.proofs.SliceLaws.{lines_long, line_at_lem}
use Rattle.layout.proofs.FitsLaws.{steps_more}
use Rattle.chains.specs.Verdict.{Verdict, met, unless, each}
use Rattle.chains.specs.Chains.{chain_verdict}
use Rattle.chains.specs.Answers.{led_as, chain_of}
use Rattle.chains.proofs.EachLaws.{Passed, passed_none, passed_on, passed_no, passed_end}

-- the steps of a line, one after the other: where the chain leads is where what is left of it leads from here
unfoldable pub Following : List Equation → List Line → List ℕ → ℕ → ℕ → Word → ℕ → Word → Type 0
Following es ts steps q count w i v = leads es ts (read_steps count (drop (step_width * q) steps)) w ≡ leads es ts (read_steps (count - i) (drop (step_width * (q + i)) steps)) v

module _ (es : List Equation) (ts : List Line) (steps : List ℕ) (q count : ℕ) (w : Word) where
  pub following_start : Following es ts steps q count w 0 w
  unfolding Following
  following_start = let e : count - 0 ≡ count = omega arith in let f : q + 0 ≡ q = omega arith in rw (e, f)

  following_next : (i : ℕ) (v : Word) → Following es ts steps q count w i v → i < count
      → leads es ts (read_steps count (drop (step_width * q) steps)) w
      ≡ on_word (step_to es ts (step_of (drop (step_width * (q + i)) steps)) v) (λ x. leads es ts (read_steps (count - (i + 1)) (drop (step_width * (q + (i + 1))) steps)) x)
  unfolding Following read_steps leads
  following_next i v f h =
      let e : count - i ≡ suc (count - (i + 1)) = omega arith in
      let g : step_width * (q + i) + step_width ≡ step_width * (q + (i + 1)) = omega arith in
      f ∙ rw (e, drop-drop step_width (step_width * (q + i)) steps, g)

  module _ (i : ℕ) (v x : Word) (r : Bool) (f : Following es ts steps q count w i v) (h : i < count) (l : led_as r x ≡ step_to es ts (step_in steps (q + i)) v) where
    pub following_astray : not r ≡ true → led_as false x ≡ leads es ts (read_steps count (drop (step_width * q) steps)) w
    following_astray n = let e = rw (not-true r n) at l in sym (following_next i v f h ∙ rw (sym e))

    pub following_on : not r ≡ false → Following es ts steps q count w (i + 1) x
    unfolding Following
    following_on n = let e = rw (not-false r n) at l in following_next i v f h ∙ rw (sym e)

  pub following_end : (v : Word) → Following es ts steps q count w count v → led_as true v ≡ leads es ts (read_steps count (drop (step_width * q) steps)) w
  unfolding Following read_steps leads
  following_end v f = let e : count - count ≡ 0 = omega arith in sym (f ∙ rw e)

-- a line of the slices: where the chain leads from its left word is compared with its right word
module _ (erecs ewords : List ℕ) (e : ℕ) (recs steps words : List ℕ) (n : ℕ) where
  module _ (j q count : ℕ) (x z w : Word) (t : Bool) (h : j < n) (eq : q ≡ steps_from recs 0 j) (ec : count ≡ steps_by recs j) (ex : x ≡ line_left recs words j) (ez : z ≡ x)
      (et : led_as t w ≡ leads (equations_in erecs ewords e) (lines_in recs steps words n) (read_steps count (drop (step_width * q) steps)) z) where
    chain_is : (y : Word) → y ≡ line_right recs words j → ends_at (led_as t w) y ≡ chain_of (equations_in erecs ewords e) (lines_in recs steps words n) j
    unfolding chain_of chain_holds line_in lineage_at
    chain_is y ey = rw (line_at_lem recs steps words n j h, ← ex, ← ey, ← ec, ← eq) (ap (λ (o : Led). ends_at o y) (et ∙ rw ez))

    pub chain_reached : t ≡ true → (y : Word) → y ≡ line_right recs words j → (s : Bool) → s ≡ same_word w y
        → s ≡ chain_of (equations_in erecs ewords e) (lines_in recs steps words n) j
    chain_reached f y ey s es = es ∙ rw f at (chain_is y ey)

    pub chain_astray : t ≡ false → t ≡ chain_of (equations_in erecs ewords e) (lines_in recs steps words n) j
    chain_astray f = f ∙ rw f at (chain_is (line_right recs words j) refl)

-- all lines
steps_rise : (recs : List ℕ) (n j k : ℕ) → j ≤ n → steps_from recs k j ≤ steps_from recs k n
unfolding steps_from
steps_rise recs n zero k h = omega arith
steps_rise recs zero (suc j) k h = absurd (omega arith)
steps_rise recs (suc n) (suc j) k h = let i = steps_rise recs n j (k + 1) (omega arith) in omega (arith, i)

-- the next line's steps start behind this one's
next_start : (recs : List ℕ) (j q count : ℕ) → q ≡ steps_from recs 0 j → count ≡ steps_by recs j → q + count ≡ steps_from recs 0 (j + 1)
next_start recs j q count a b =
    let z : 0 + j ≡ j = omega arith in
    omega (arith, a, b, rw z at (steps_more recs j 0))

abbrev followed : List Equation → List Line → ℕ → Verdict
followed es ts j = unless (chain_of es ts j) 12 j

unfoldable pub Followed : List ℕ → List ℕ → ℕ → List ℕ → List ℕ → List ℕ → ℕ → ℕ → ℕ → Type 0
Followed erecs ewords e recs steps words n k q = Passed (followed (equations_in erecs ewords e) (lines_in recs steps words n)) n k × (q ≡ steps_from recs 0 k)

module _ (erecs ewords : List ℕ) (e : ℕ) (recs steps words : List ℕ) (n : ℕ) where
  abbrev cs : List Equation
  cs = equations_in erecs ewords e

  abbrev ls : List Line
  ls = lines_in recs steps words n

  all_followed : chain_verdict cs ls ≡ each n (followed cs ls)
  unfolding chain_verdict chain_of
  all_followed = rw (lines_long recs steps words n)

  pub followed_start : Followed erecs ewords e recs steps words n 0 0
  unfolding Followed steps_from
  followed_start = (passed_none (followed cs ls) n, refl)

  module _ (k q count : ℕ) (f : Followed erecs ewords e recs steps words n k q) (h : k < n) (c : count ≡ steps_by recs k) where
    pub followed_place : q ≡ steps_from recs 0 k
    unfolding Followed
    followed_place = f.1

    pub followed_inside : step_width * steps_from recs 0 n ≤ length steps → step_width * (q + count) ≤ length steps
    followed_inside i = omega (arith, next_start recs k q count followed_place c, steps_rise recs n (k + 1) 0 (omega arith))

    pub followed_on : (t : Bool) → t ≡ chain_of cs ls k → not t ≡ false → Followed erecs ewords e recs steps words n (k + 1) (q + count)
    unfolding Followed
    followed_on t a b = (passed_on (followed cs ls) n k tt f.0 h (rw (sym a ∙ not-false t b)), next_start recs k q count f.1 c)

    pub followed_no : (t : Bool) → t ≡ chain_of cs ls k → not t ≡ true → refused 12 k ≡ chain_verdict cs ls
    unfolding Followed
    followed_no t a b = passed_no (followed cs ls) n k (Chain k) f.0 h (rw (sym a ∙ not-true t b)) ∙ sym all_followed

  pub followed_end : (q : ℕ) → Followed erecs ewords e recs steps words n n q → met ≡ chain_verdict cs ls
  unfolding Followed
  followed_end q f = passed_end (followed cs ls) n f.0 ∙ sym all_followed

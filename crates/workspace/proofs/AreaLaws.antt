-- The areas of the work buffer as slices: they have room for the lines and the steps made, every line lies inside them, and the lines and rules that
-- are read from them are the state's.
use Prim.Native.Nat.{ℕ, ◌*◌, ◌≤◌}
use mathlib.Core.Path.{◌≡◌}
use mathlib.Core.List.{List}
use native.Mathlib.Omega.{arith}
use lib.ListN.{length, length-take}
use Rattle.layout.specs.Header.{table_width, step_width}
use Rattle.rewriting.specs.Sheet.{rules_of}
use Rattle.layout.specs.Slices.{Inside, lines_in, rules_in}
use Rattle.workspace.specs.Areas.{record_room, step_room, steps_start, record_area, step_area, letter_area}
use Rattle.workspace.specs.Work.{state_of, Good}
use Rattle.workspace.specs.declared.Nums.{Nums}
use Rattle.workspace.proofs.PartLaws.{length_part}
use Rattle.workspace.proofs.StateLaws.{state_rules}

module _ (w : List ℕ) (n : Nums) (g : Good w n) where
  pub records_long : record_room ≡ length (record_area w)
  records_long = omega (arith, length_part 0 record_room w (omega (arith, g.long)))

  pub steps_room : (steps : List ℕ) → steps ≡ step_area w → step_width * n.steps ≤ length steps
  steps_room steps es = rw es (omega (arith, g.steps, length_part steps_start step_room w (omega (arith, g.long))))

  pub lines_inside : (recs words : List ℕ) → recs ≡ record_area w → words ≡ letter_area w → Inside table_width recs words n.lines
  unfolding Inside
  lines_inside recs words er ew = rw (er, ew) (λ j l.
      let p = g.inside j l in
      record { there = p.there; left = p.left; right = p.right; inside = omega (arith, p.inside, length-take n.letters (letter_area w)) })

module _ (w : List ℕ) (n : Nums) (recs words : List ℕ) (er : recs ≡ record_area w) (ew : words ≡ letter_area w) where
  pub area_rules : rules_in recs words 0 n.lines ≡ rules_of (state_of w n).lines
  area_rules = rw (er, ew) (state_rules w n)

  pub area_lines : (steps : List ℕ) → steps ≡ step_area w → lines_in recs steps words n.lines ≡ (state_of w n).lines
  unfolding state_of
  area_lines steps es = rw (er, es, ew)

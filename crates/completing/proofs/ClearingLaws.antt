-- Zeros in front of what lies behind the state: the work room filled, and the same for a buffer whose end is as it was.
use Prim.Native.Nat.{ℕ, ◌≤◌}
use mathlib.Core.Path.{◌≡◌, ◌∙◌, ap}
use mathlib.Core.List.{List, ◌++◌}
use lib.ListN.{length, take, drop, replicate}
use lib.Seq.{length-take-le}
use Rattle.workspace.specs.Areas.{work_room}
use Rattle.completing.specs.Calls.{zeros, cleared}

pub room_filled : (w s : List ℕ) → work_room ≤ length w → s ≡ replicate (length (take work_room w)) 0 → s ++ drop work_room w ≡ cleared w
unfolding cleared zeros
room_filled w s h e = rw (e, length-take-le work_room w h)

-- zeros in front of what lay behind the state
pub cleared_same : (w v u : List ℕ) → drop work_room v ≡ drop work_room w → u ≡ cleared v → u ≡ cleared w
unfolding cleared
cleared_same w v u e f = f ∙ ap (λ (l : List ℕ). zeros work_room ++ l) e

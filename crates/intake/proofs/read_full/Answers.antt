-- What a turn reads stands behind what was given before.
use Rattle.std.proofs.Common.{◌≡◌, ℕ, ◌+◌, ◌≤◌, List, ◌++◌, rules, length, take, drop, sym, ap, ◌∙◌, subst, le_refl, drop_at, length-take-le}
use Rattle.std.proofs.lemmas.Slice.{take-put_mid_below}
use Rattle.std.specs.Io.KnownBytes.{Consumes}
use Rattle.std.proofs.KnownBytes.{Consumes-trans}
use borrow.Rule.Slice.PartMut.{put_mid, post_of}
use lib.Seq.{take-add, take-append-le}
use Rattle.intake.proofs.read_full.Goals as goal

-- the first a + n letters, where the part from a on has become ys
take_joined : (a k n : ℕ) (xs ys : List ℕ) → a ≤ length xs → n ≤ length ys → take a xs ++ take n ys ≡ take (a + n) (put_mid a k xs ys)
take_joined a k n xs ys within fits =
    let whole = put_mid a k xs ys in
    let after = post_of a k xs in
    let front : take a whole ≡ take a xs = take-put_mid_below _ _ _ _ _ (le_refl _) within in
    let behind = ap (take n) (drop_at (take a xs) (ys ++ after) a (length-take-le a xs within)) ∙ take-append-le n ys after fits in
    sym (take-add a n whole ∙ ap (λ l. l ++ take n (drop a whole)) front ∙ ap (λ l. take a xs ++ l) behind)

pub loop-filled-preserved : goal.loop-filled-preserved
loop-filled-preserved g c =
    record {
      inside = search rules;
      given = subst (Consumes _ _) (take_joined _ _ _ _ _ c.loop-filled.invariant.inside c.in_ok-n.ensures.bound.0)
          (Consumes-trans _ _ _ _ _ c.loop-filled.invariant.given c.in_ok-n.ensures.bytes.0);
    }

-- The earliest place where a word stands. Whatever the places before p were, it stood at none of them: what is left to find is the earliest place from p on.
-- Where it has no room it does not stand, so places without room add nothing.
use Prim.Native.Nat.{ℕ, zero, suc, ◌+◌, ◌-◌, ◌≤◌, ◌<◌}
use mathlib.Core.Path.{◌≡◌, refl, sym, ◌∙◌, ap}
use mathlib.Core.Bool.{Bool, true, false, cond}
use native.Mathlib.Omega.{arith}
use borrow.Author.Tests.{le-leb, lt-ltb, le-ltb}
use lib.Dec.{ltb}
use Rattle.std.specs.Prelude.{Option, Some, None}
use Rattle.std.specs.Option.{option_map, unwrap_or}
use Rattle.std.specs.List.{find, range_with_len}
use lib.ListN.{length, drop}
use Rattle.words.specs.Word.{Word}
use Rattle.rewriting.specs.Standing.{begins, stands_at, first_from}
use Rattle.rewriting.proofs.StandingLaws.{stands_fits}

-- the library's search of a range of places at which it has room
module _ (l w : Word) where
  first_is : (p n : ℕ) → p + n + length l ≤ length w + 1 → unwrap_or (find (λ q. begins l (drop q w)) (range_with_len p n)) (p + n) ≡ first_from l w p n
  unfolding first_from stands_at
  first_is p zero h = omega arith
  first_is p (suc n) h =
      let e : p + suc n ≡ p + 1 + n = omega arith in
      rw (e, le-leb p (length w) (omega arith)) (go (begins l (drop p w)) (first_is (p + 1) n (omega arith)))
    where
      go : (t : Bool) → unwrap_or (find (λ q. begins l (drop q w)) (range_with_len (p + 1) n)) (p + 1 + n) ≡ first_from l w (p + 1) n
          → unwrap_or (cond t (Some p) (find (λ q. begins l (drop q w)) (range_with_len (p + 1) n))) (p + 1 + n) ≡ cond t p (first_from l w (p + 1) n)
      go true later = refl
      go false later = later

  pub first_found : (n : ℕ) (r : Option ℕ) → n + length l ≤ length w + 1 → option_map (λ x. x) r ≡ find (λ q. begins l (drop q w)) (range_with_len 0 n)
      → unwrap_or r n ≡ first_from l w 0 n
  first_found n r h e =
      let z : 0 + n ≡ n = omega arith in
      same r ∙ ap (λ o. unwrap_or o n) e ∙ rw z at (first_is 0 n (rw z h))
    where
      same : (o : Option ℕ) → unwrap_or o n ≡ unwrap_or (option_map (λ x. x) o) n
      same None = refl
      same (Some p) = refl

module _ (l w : Word) where
  -- where it has no room
  no_room : (q m : ℕ) → (0 < m → length w < q + length l) → first_from l w q m ≡ q + m
  unfolding first_from
  no_room q zero h = omega arith
  no_room q (suc m) h = let k = h (omega arith) in go k (no_room (q + 1) m (λ i. omega arith)) (stands_at l w q) refl
    where
      go : length w < q + length l → first_from l w (q + 1) m ≡ q + 1 + m → (t : Bool) → stands_at l w q ≡ t
          → cond t q (first_from l w (q + 1) m) ≡ q + suc m
      go k later true e = absurd (omega (arith, stands_fits l w q e))
      go k later false e = omega (arith, later)

  -- more places: the earliest of the first ones, or of the others
  first_more : (n m p : ℕ) → first_from l w p (n + m) ≡ cond (ltb (first_from l w p n) (p + n)) (first_from l w p n) (first_from l w (p + n) m)
  unfolding first_from
  first_more zero m p =
      let e : p + 0 ≡ p = omega arith in
      let z : 0 + m ≡ m = omega arith in
      rw (z, e, le-ltb p p (omega arith))
  first_more (suc n) m p = let z : suc n + m ≡ suc (n + m) = omega arith in rw z (go (first_more n m (p + 1)) (stands_at l w p))
    where
      go : first_from l w (p + 1) (n + m) ≡ cond (ltb (first_from l w (p + 1) n) (p + 1 + n)) (first_from l w (p + 1) n) (first_from l w (p + 1 + n) m)
          → (t : Bool) → cond t p (first_from l w (p + 1) (n + m))
          ≡ cond (ltb (cond t p (first_from l w (p + 1) n)) (p + suc n)) (cond t p (first_from l w (p + 1) n)) (first_from l w (p + suc n) m)
      go later true = rw (lt-ltb p (p + suc n) (omega arith))
      go later false = let e : p + suc n ≡ p + 1 + n = omega arith in rw e later

  pub first_none : (end : ℕ) → length w < length l → end ≡ first_from l w 0 end
  first_none end h = omega (arith, no_room 0 end (λ i. omega arith))

  module _ (room end p : ℕ) (e : room + length l ≡ length w + 1) (h : room ≤ end) (f : p ≡ first_from l w 0 room) where
    all_places : first_from l w 0 end ≡ cond (ltb p room) p end
    all_places =
        let z : end ≡ room + (end - room) = omega arith in
        let y : 0 + room ≡ room = omega arith in
        let n : first_from l w room (end - room) ≡ end = no_room room (end - room) (λ i. omega arith) ∙ sym z in
        (λ i. first_from l w 0 (z i)) ∙ first_more room (end - room) 0 ∙ rw (y, ← f, n)

    pub room_hit : p < room → p ≡ first_from l w 0 end
    room_hit k = sym (all_places ∙ rw (lt-ltb p room k))

    pub room_end : room ≤ p → end ≡ first_from l w 0 end
    room_end k = sym (all_places ∙ rw (le-ltb p room k))

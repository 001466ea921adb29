-- What was found after some rules is the replacement due to them. With one rule more the search finds that rule where it stands at an earlier place,
-- at its own earliest one, and else what it found before: so it goes on as `or_earlier` says.
use Prim.Native.Nat.{ℕ, zero, suc, ◌+◌, ◌-◌, ◌≤◌, ◌<◌}
use mathlib.Core.Path.{◌≡◌, refl, sym}
use mathlib.Core.Bool.{Bool, true, false, cond}
use mathlib.Core.List.{List, [], ◌∷◌, ◌++◌}
use native.Mathlib.Omega.{arith}
use borrow.Author.Tests.{lt-ltb, le-ltb}
use lib.Dec.{ltb}
use lib.ListN.{length}
use Rattle.words.specs.Word.{Word}
use Rattle.rewriting.specs.Standing.{first_from}
use Rattle.rewriting.specs.Search.{Rule, rule_at, Due, nothing, due, search_from, search}
use Rattle.rewriting.specs.Found.{found_of, place_found, earlier_found, or_earlier}
use Rattle.rewriting.specs.declared.Found.{Found}
use Rattle.std.specs.Prelude.{Option, Some}
use Rattle.rewriting.proofs.OneMoreLaws.{place_of, earlier_of, one_more}

-- the code's cases
module _ (f : Option Found) (line : ℕ) (l w : Word) (p end : ℕ) (e : end ≡ place_found (length w + 1) f) (h : p ≡ first_from l w 0 end) where
  pub earlier_found_lem : p < end → Some (record { place = p; line = line }) ≡ or_earlier f line l w
  unfolding or_earlier
  earlier_found_lem k = rw (← e, ← h, lt-ltb p end k)

  pub found_stays : end ≤ p → f ≡ or_earlier f line l w
  unfolding or_earlier
  found_stays k = rw (← e, ← h, le-ltb p end k)

-- where there are no rules nothing is due
none_from : (w : Word) (p n : ℕ) → search_from [] w p n ≡ nothing
unfolding search_from rule_at
none_from w p zero = refl
none_from w p (suc n) = none_from w (p + 1) n

pub none_due : (w : Word) → search [] w ≡ nothing
unfolding search
none_due w = none_from w 0 (length w + 1)

module _ (qs : List Rule) (r : Rule) (w : Word) where
  pub search_more : (e : ℕ) → e ≡ place_of (length w + 1) (search qs w)
      → search (qs ++ (r ∷ [])) w ≡ earlier_of (first_from r.left w 0 e) e r (search qs w)
  unfolding search
  search_more e h =
      let z : 0 + (length w + 1) ≡ length w + 1 = omega arith in
      let y : e - 0 ≡ e = omega arith in
      rw y at (one_more qs r w 0 (length w + 1) e (rw z h))

  pub found_more : (f : Option Found) → f ≡ found_of (search qs w) → or_earlier f r.line r.left w ≡ found_of (search (qs ++ (r ∷ [])) w)
  unfolding or_earlier
  found_more f e =
      let d = search qs w in
      let end = place_found (length w + 1) (found_of d) in
      rw (e, search_more end (same d)) (sym (read (first_from r.left w 0 end) end d))
    where
      same : (d : Due) → place_found (length w + 1) (found_of d) ≡ place_of (length w + 1) d
      same nothing = refl
      same (due p q) = refl

      read : (p end : ℕ) (d : Due) → found_of (earlier_of p end r d) ≡ earlier_found p end r.line (found_of d)
      read p end d = go (ltb p end)
        where
          go : (t : Bool) → found_of (cond t (due p r) d) ≡ cond t (Some (record { place = p; line = r.line })) (found_of d)
          go true = refl
          go false = refl

-- One pass over the records finds the replacement due. What is found with one record more is the replacement due with its rule more; so the pass, record
-- by record, keeps the replacement due to the records passed.
use Prim.Native.Nat.{ℕ, suc, ◌+◌, ◌-◌, ◌≤◌, ◌<◌}
use mathlib.Core.Path.{◌≡◌, refl, sym, ◌∙◌, ap}
use mathlib.Core.Bool.{Bool, true, false, not, cond, ◌&&◌}
use mathlib.Core.List.{List, [], ◌∷◌, ◌++◌, append-nil, append_assoc}
use native.Mathlib.Omega.{arith}
use borrow.Author.Tests.{lt-leb, le-leb, leb-true, ltb-true, not-true, not-false}
use lib.Dec.{leb, ltb}
use lib.ListN.{length, get_or, take, drop, drop_of_length-le}
use lib.Seq.{drop-cons}
use Rattle.words.specs.Refusal.{Result, answered, refused, on_answer}
use Rattle.rewriting.specs.Sheet.{side_limit}
use Rattle.words.specs.Word.{Word}
use Rattle.words.proofs.TestLaws.{and_left, and_right}
use Rattle.rewriting.specs.Standing.{first_from}
use Rattle.rewriting.specs.Search.{Rule, search}
use Rattle.rewriting.specs.Found.{found_of, place_found, or_earlier}
use Rattle.rewriting.specs.declared.Found.{Found}
use Rattle.rewriting.proofs.FoundLaws.{found_more, none_due}
use Rattle.lent_rules.specs.Lent.{record_fits, records_fit, lent_rule, lent_rules, search_result}
use Rattle.std.proofs.Common.{Option, None, Some, is_some, option_map}
use Rattle.lent_rules.specs.Scan.{found_with, FoundSmall, record_goes_on, good_scan, scan_step, scan_from}
use Rattle.lent_rules.specs.declared.RuleRecord.{RuleRecord}
use Rattle.lent_rules.specs.declared.Scan.{Scan}

-- what is found stays small
module _ (f : Option Found) (line : ℕ) (l w : Word) where
  with_small : FoundSmall f → line ≤ 65535 → FoundSmall (found_with f line l w)
  unfolding found_with or_earlier
  with_small s k = go (leb (length w) 128) refl
    where
      place : length w ≤ 128 → (g : Option Found) → FoundSmall g → place_found (length w + 1) g ≤ 129
      place h None t = omega arith
      place h (Some g) t = omega (arith, t.0)

      earlier : (p end : ℕ) → end ≤ 129 → (t : Bool) → ltb p end ≡ t → FoundSmall (cond t (Some (record { place = p; line = line })) f)
      earlier p end h true e = (omega (arith, ltb-true p end e), k)
      earlier p end h false e = s

      go : (t : Bool) → leb (length w) 128 ≡ t → FoundSmall (cond t (or_earlier f line l w) f)
      go true e =
          let end = place_found (length w + 1) f in
          earlier (first_from l w 0 end) end (place (leb-true (length w) 128 e) f s) (ltb (first_from l w 0 end) end) refl
      go false e = s

-- one record
module _ (area : List ℕ) (s : Scan) (r : RuleRecord) (t : Bool) (e : t ≡ record_goes_on area s r) where
  pub step_broken : (w : Word) → not t ≡ true → None ≡ scan_step area w s r
  unfolding scan_step
  step_broken w h = let f = sym e ∙ not-true t h in rw f

  module _ (h : not t ≡ false) where
    module _ (offset left : ℕ) (eo : offset ≡ r.offset) (el : left ≡ r.left) where
      pub left_inside : offset + left ≤ length area
      unfolding record_goes_on record_fits
      left_inside =
          let fits = and_left (record_fits area r) _ (sym e ∙ not-false t h) in
          let both = and_right (leb r.right side_limit) _ (and_right (leb r.left side_limit) _ fits) in
          omega (arith, leb-true (r.offset + (r.left + r.right)) (length area) both)

      pub step_good : (w : Word) (line least : ℕ) (best : Option Found) → line ≡ r.line → least ≡ r.line
          → best ≡ found_with s.found line (take (offset + left - offset) (drop offset area)) w
          → Some (good_scan (least + 1) best) ≡ scan_step area w s r
      unfolding scan_step lent_rule
      step_good w line least best g i b =
          let f = sym e ∙ not-false t h in
          let z : r.offset + r.left - r.offset ≡ r.left = omega arith in
          rw (f, b, g, i, eo, el, z)

pub step_small : (s : Scan) (line : ℕ) (l w : Word) (best : Option Found) → FoundSmall s.found → line ≤ 65535
    → best ≡ found_with s.found line l w → FoundSmall best
step_small s line l w best f k e = rw e (with_small s.found line l w f k)

-- the whole pass, over an area and a word
module _ (area : List ℕ) (w : Word) where
  broken_stays : (rs : List RuleRecord) → scan_from area w None rs ≡ None
  unfolding scan_from
  broken_stays [] = refl
  broken_stays (r ∷ rs) = refl

  -- it goes on as long as the records fit
  pub scan_good : (least : ℕ) (f : Option Found) (rs : List RuleRecord) → is_some (scan_from area w (Some (good_scan least f)) rs) ≡ records_fit area least rs
  unfolding scan_from scan_step record_goes_on records_fit
  scan_good least f [] = refl
  scan_good least f (r ∷ rs) =
      go (record_fits area r) (leb least r.line) (scan_good (r.line + 1) (found_with f r.line (lent_rule area r).left w) rs)
    where
      go : (a b : Bool) → is_some (scan_from area w (Some (good_scan (r.line + 1) (found_with f r.line (lent_rule area r).left w))) rs) ≡ records_fit area (r.line + 1) rs
          → is_some (scan_from area w (cond (a && b) (Some (good_scan (r.line + 1) (found_with f r.line (lent_rule area r).left w))) None) rs)
          ≡ a && (b && records_fit area (r.line + 1) rs)
      go true true h = h
      go true false h = rw (broken_stays rs)
      go false b h = rw (broken_stays rs)

  module _ (short : length w ≤ 128) where
    record_more : (qs : List Rule) (r : RuleRecord) (f : Option Found) → f ≡ found_of (search qs w)
        → found_with f r.line (lent_rule area r).left w ≡ found_of (search (qs ++ (lent_rule area r ∷ [])) w)
    unfolding lent_rule found_with
    record_more qs r f e = rw (le-leb (length w) 128 short) (found_more qs (lent_rule area r) w f e)

    -- and keeps the replacement due to the records passed
    pub scan_found : (qs : List Rule) (least : ℕ) (f : Option Found) (rs : List RuleRecord) → f ≡ found_of (search qs w) → records_fit area least rs ≡ true
        → option_map (λ (s : Scan). s.found) (scan_from area w (Some (good_scan least f)) rs) ≡ Some (found_of (search (qs ++ lent_rules area rs) w))
    unfolding scan_from scan_step record_goes_on records_fit lent_rules
    scan_found qs least f [] e h = rw (append-nil qs, e)
    scan_found qs least f (r ∷ rs) e h =
        let fits = and_left (record_fits area r) (leb least r.line && records_fit area (r.line + 1) rs) h in
        let rest = and_right (record_fits area r) (leb least r.line && records_fit area (r.line + 1) rs) h in
        let rises = and_left (leb least r.line) (records_fit area (r.line + 1) rs) rest in
        let later = and_right (leb least r.line) (records_fit area (r.line + 1) rs) rest in
        go (record_fits area r) (leb least r.line) fits rises
        (scan_found (qs ++ (lent_rule area r ∷ [])) (r.line + 1) (found_with f r.line (lent_rule area r).left w) rs (record_more qs r f e) later
        ∙ ap (λ (ys : List Rule). Some (found_of (search ys w))) (append_assoc qs (lent_rule area r ∷ []) (lent_rules area rs)))
      where
        go : (a b : Bool) → a ≡ true → b ≡ true
            → option_map (λ (s : Scan). s.found) (scan_from area w (Some (good_scan (r.line + 1) (found_with f r.line (lent_rule area r).left w))) rs)
            ≡ Some (found_of (search (qs ++ (lent_rule area r ∷ lent_rules area rs)) w))
            → option_map (λ (s : Scan). s.found) (scan_from area w (cond (a && b) (Some (good_scan (r.line + 1) (found_with f r.line (lent_rule area r).left w))) None) rs)
            ≡ Some (found_of (search (qs ++ (lent_rule area r ∷ lent_rules area rs)) w))
        go a b x y h = rw (x, y) h

  -- the pass over the records that are left
  module _ (rs : List RuleRecord) (s : Scan) (i : ℕ) where
    scan_next : (d : RuleRecord) → i < length rs → scan_from area w (scan_step area w s (get_or rs i d)) (drop (i + 1) rs) ≡ scan_from area w (Some s) (drop i rs)
    unfolding scan_from
    scan_next d h = let e : i + 1 ≡ suc i = omega arith in rw (e, drop-cons rs i d h)

    pub scan_on : (d : RuleRecord) (t : Scan) → i < length rs → Some t ≡ scan_step area w s (get_or rs i d)
        → scan_from area w (Some s) (drop i rs) ≡ scan_from area w (Some (good_scan 0 None)) rs
        → scan_from area w (Some t) (drop (i + 1) rs) ≡ scan_from area w (Some (good_scan 0 None)) rs
    scan_on d t h e p = rw e (scan_next d h ∙ p)

    pub scan_off : (d : RuleRecord) → i < length rs → None ≡ scan_step area w s (get_or rs i d)
        → scan_from area w (Some s) (drop i rs) ≡ scan_from area w (Some (good_scan 0 None)) rs
        → None ≡ scan_from area w (Some (good_scan 0 None)) rs
    scan_off d h e p = sym (broken_stays (drop (i + 1) rs)) ∙ rw e (scan_next d h ∙ p)

    pub scan_end : length rs ≤ i → scan_from area w (Some s) (drop i rs) ≡ scan_from area w (Some (good_scan 0 None)) rs
        → Some s ≡ scan_from area w (Some (good_scan 0 None)) rs
    unfolding scan_from
    scan_end h p = rw (drop_of_length-le rs h) at p

-- the answer in the end: a pass that broke off is 1, then a long word is 4, else what was found is the replacement due
abbrev found_in : List RuleRecord → List ℕ → Word → Result (Option Found)
found_in rs area w = on_answer (search_result rs area w) (λ d. answered (found_of d))

module _ (rs : List RuleRecord) (area w : List ℕ) where
  pub search_broken : None ≡ scan_from area w (Some (good_scan 0 None)) rs → refused 1 0 ≡ found_in rs area w
  unfolding search_result
  search_broken e = let f : false ≡ records_fit area 0 rs = ap is_some e ∙ scan_good area w 0 None rs in rw (← f)

  module _ (s : Scan) (e : Some s ≡ scan_from area w (Some (good_scan 0 None)) rs) where
    fit : records_fit area 0 rs ≡ true
    fit = sym (ap is_some e ∙ scan_good area w 0 None rs)

    pub search_long : 128 < length w → refused 4 0 ≡ found_in rs area w
    unfolding search_result
    search_long h = rw (fit, lt-leb (length w) 128 h)

    pub search_found : length w ≤ 128 → answered s.found ≡ found_in rs area w
    unfolding search_result
    search_found h =
        let start : None ≡ found_of (search [] w) = sym (ap found_of (none_due w)) in
        let found : Some s.found ≡ Some (found_of (search (lent_rules area rs) w)) =
        ap (option_map (λ (t : Scan). t.found)) e ∙ scan_found area w h [] 0 None rs start fit in
        rw (fit, le-leb (length w) 128 h) (ap answered (cc))

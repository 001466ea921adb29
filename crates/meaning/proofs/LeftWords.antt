-- Lines with different left words, each a left word of other lines, are no more than those. Of two lists, the one with no word twice, all of whose words
-- the other has, is no longer: a word of the one takes its like out of the other, and the rest of the one keeps to the rest of the other.
use Prim.Native.Nat.{ℕ, zero, suc, ◌+◌, ◌≤◌}
use native.Mathlib.Omega.{arith}
use mathlib.Core.Path.{◌≡◌, refl, sym, ◌∙◌, ap}
use mathlib.Core.Logic.{◌⊎◌, inl, inr, ⊎_elim}
use mathlib.Core.Bool.{Bool, true, false, cond, true≢false}
use mathlib.Core.List.Memᴰ
use mathlib.Core.List.{List, [], ◌∷◌, Memᴰ}
use lib.ListN.{length}
use Rattle.words.specs.Word.{Word}
use Rattle.rewriting.specs.Search.{Rule}
use Rattle.rewriting.specs.Sheet.{Line, line_at, rules_from, rules_of}

-- no word twice
abbrev Different : List Word → Type 0
Different [] = Unit {0}
Different (a ∷ ws) = (Memᴰ a ws → ⊥) × Different ws

-- what is left of a list without one of its words
abbrev Without : Word → List Word → Type 0
Without a bs = (rest : List Word) × (length bs ≡ suc (length rest)) × ((c : Word) → Memᴰ c bs → (c ≡ a) ⊎ Memᴰ c rest)

taken : (a : Word) (bs : List Word) → Memᴰ a bs → Without a bs
taken a [] m = absurd (Memᴰ.not-nil m)
taken a (b ∷ bs) m = go (Memᴰ.cases_cons m) (λ n. taken a bs n)
  where
    go : (a ≡ b) ⊎ Memᴰ a bs → (Memᴰ a bs → Without a bs) → Without a (b ∷ bs)
    go (inl e) later = (bs, refl, λ c n. ⊎_elim (λ q. inl (q ∙ sym e)) inr (Memᴰ.cases_cons n))
    go (inr n) later =
        let (rest, l, f) = later n in (
          b ∷ rest,
          ap suc l,
          λ c i.
              ⊎_elim (λ q. inr (Memᴰ.head q)) (λ j. ⊎_elim inl (λ k. inr (Memᴰ.tail k)) (f c j)) (Memᴰ.cases_cons i),
        )

no_longer : (ws bs : List Word) → Different ws → ((c : Word) → Memᴰ c ws → Memᴰ c bs) → length ws ≤ length bs
no_longer [] bs d f = omega arith
no_longer (a ∷ ws) bs d f =
    let (rest, l, g) = taken a bs (f a (Memᴰ.head refl)) in
    let h = no_longer ws rest d.1 (λ c m. ⊎_elim (λ q. absurd (d.0 (Memᴰ.cast (sym q) m))) (λ k. k) (g c (f c (Memᴰ.tail m)))) in
    omega (arith, h, l)

-- the left words of the standing lines
abbrev left_words : List Line → List Word
left_words [] = []
left_words (t ∷ ts) = cond t.stands (t.left ∷ left_words ts) (left_words ts)

rules_many : (k : ℕ) (ts : List Line) → length (rules_from k ts) ≡ length (left_words ts)
unfolding rules_from
rules_many k [] = refl
rules_many k (t ∷ ts) = go t.stands (rules_many (k + 1) ts)
  where
    x : Rule
    x = record { line = k; left = t.left; right = t.right }

    go : (b : Bool) → length (rules_from (k + 1) ts) ≡ length (left_words ts)
        → length (cond b (x ∷ rules_from (k + 1) ts) (rules_from (k + 1) ts)) ≡ length (cond b (t.left ∷ left_words ts) (left_words ts))
    go true e = ap suc e
    go false e = e

-- a left word is that of a standing line
abbrev LeftOf : List Line → Word → Type 0
LeftOf ts l = (i : ℕ) × ((line_at ts i).stands ≡ true) × (l ≡ (line_at ts i).left)

left_line : (ts : List Line) (l : Word) → Memᴰ l (left_words ts) → LeftOf ts l
left_line [] l m = absurd (Memᴰ.not-nil m)
left_line (t ∷ ts) l m = go t.stands refl (λ n. left_line ts l n) m
  where
    go : (b : Bool) → t.stands ≡ b → (Memᴰ l (left_words ts) → LeftOf ts l)
        → Memᴰ l (cond b (t.left ∷ left_words ts) (left_words ts)) → LeftOf (t ∷ ts) l
    go true e later n = ⊎_elim (λ q. (0, e, q)) (λ j. let (i, s, q) = later j in (suc i, s, q)) (Memᴰ.cases_cons n)
    go false e later n = let (i, s, q) = later n in (suc i, s, q)

line_left_lem : (ts : List Line) (i : ℕ) → (line_at ts i).stands ≡ true → Memᴰ (line_at ts i).left (left_words ts)
line_left_lem [] i h = absurd (true≢false (sym h))
line_left_lem (t ∷ ts) zero h = rw h (Memᴰ.head refl)
line_left_lem (t ∷ ts) (suc i) h = behind t.stands (line_left_lem ts i h)
  where
    behind : (b : Bool) → Memᴰ (line_at ts i).left (left_words ts) → Memᴰ (line_at ts i).left (cond b (t.left ∷ left_words ts) (left_words ts))
    behind true m = Memᴰ.tail m
    behind false m = m

-- no two standing lines have one left word
abbrev pub OneEach : List Line → Type 0
OneEach ts = (n m : ℕ) → (line_at ts n).stands ≡ true → (line_at ts m).stands ≡ true → (line_at ts n).left ≡ (line_at ts m).left → n ≡ m

different : (ts : List Line) → OneEach ts → Different (left_words ts)
different [] u = tt
different (t ∷ ts) u = go t.stands refl (different ts (λ n m p q e. omega (arith, u (suc n) (suc m) p q e)))
  where
    go : (b : Bool) → t.stands ≡ b → Different (left_words ts) → Different (cond b (t.left ∷ left_words ts) (left_words ts))
    go true e d = (λ m. let (i, s, q) = left_line ts t.left m in omega (arith, u 0 (suc i) e s q), d)
    go false e d = d

-- lines whose standing left words are all left words of other lines have no more rules than those
pub no_more : (ts us : List Line) → OneEach ts → ((i : ℕ) → (line_at ts i).stands ≡ true → LeftOf us (line_at ts i).left)
    → length (rules_of ts) ≤ length (rules_of us)
unfolding rules_of
no_more ts us u f = rw (rules_many 0 ts, rules_many 0 us) (no_longer (left_words ts) (left_words us) (different ts u) (λ c m.
    let (i, s, q) = left_line ts c m in
    let (j, p, e) = f i s in
    Memᴰ.cast (q ∙ e) (line_left_lem us j p)))

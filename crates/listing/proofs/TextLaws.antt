-- Texts of pieces. A standing line, the title and a refusal are their pieces, one behind the other. Each line of a table adds its text behind those of
-- the lines before it, and its one to their count; so the rules of the slices are put and counted line by line.
use Prim.Native.Nat.{ℕ, zero, suc, ◌+◌, ◌*◌, ◌≤◌, ◌<◌}
use native.Mathlib.Omega.{arith}
use mathlib.Core.Path.{◌≡◌, refl, sym, ◌∙◌, ap}
use mathlib.Core.List.{List, [], ◌∷◌, ◌++◌, append_assoc, append-nil}
use mathlib.Core.Bool.{Bool, true, false, cond}
use lib.ListN.{length}
use Rattle.std.specs.List.{filter, range_with_len}
use Rattle.words.specs.Refusal.{refused}
use Rattle.rewriting.specs.Search.{Rule}
use Rattle.layout.specs.Header.{table_kind}
use Rattle.layout.specs.Slices.{line_left, line_right, stands_by, lines_in, rules_in, rule_by}
use Rattle.writing.specs.Writing.{bit}
use Rattle.layout.proofs.SliceLaws.{lines_long, rules_are}
use Rattle.buffers.specs.Appended.{Appended}
use Rattle.buffers.proofs.AppendedLaws.{nothing_put, two_pieces}
use Rattle.listing.specs.Decimal.{decimal}
use Rattle.listing.specs.Room.{title_most, sides_most, rule_most, refusal_most, text_room}
use Rattle.listing.specs.Text.{text_bytes, word_text, rule_text, rules_text, title_text, table_text, result_text}
use Rattle.listing.specs.Slices.{standing_from, line_text, slices_text}

-- two texts with numbers behind them, and a third
numbers_put : (d b₁ b₂ c t u v : List ℕ) (n k m₁ m₂ e most : ℕ) → most ≤ length d → length t + length (decimal n) + (length u + length (decimal k) + length v) ≤ most
    → Appended d b₁ 0 m₁ (length t + length (decimal n)) (t ++ decimal n) → Appended b₁ b₂ m₁ m₂ (length u + length (decimal k)) (u ++ decimal k)
    → Appended b₂ c m₂ e (length v) v → Appended d c 0 e most (t ++ (decimal n ++ (u ++ (decimal k ++ v))))
numbers_put d b₁ b₂ c t u v n k m₁ m₂ e most room h p₁ p₂ p₃ =
    let l = length u + length (decimal k) in
    let q = two_pieces b₁ b₂ c (u ++ decimal k) v m₁ m₂ e l (length v) (l + length v) p₂ p₃ (omega arith) (omega arith) in
    rw (← append_assoc u (decimal k) v, ← append_assoc t (decimal n) (u ++ decimal k ++ v))
    (two_pieces d b₁ c (t ++ decimal n) (u ++ decimal k ++ v) 0 m₁ e (length t + length (decimal n)) (l + length v) most p₁ q (omega arith) h)

-- the title
pub title_put : (d b₁ b₂ c : List ℕ) (n k m₁ m₂ e : ℕ) → title_most ≤ length d → length (decimal n) ≤ 3 → length (decimal k) ≤ 3
    → Appended d b₁ 0 m₁ (3 + length (decimal n)) (text_bytes "ok " ++ decimal n)
    → Appended b₁ b₂ m₁ m₂ (7 + length (decimal k)) (text_bytes " rules " ++ decimal k) → Appended b₂ c m₂ e 7 (text_bytes " lines\n")
    → Appended d c 0 e title_most (title_text n k)
title_put d b₁ b₂ c n k m₁ m₂ e room h g p₁ p₂ p₃ =
    numbers_put d b₁ b₂ c (text_bytes "ok ") (text_bytes " rules ") (text_bytes " lines\n") n k m₁ m₂ e title_most room (omega arith) p₁ p₂ p₃

-- a refusal
pub refusal_put : (d b₁ b₂ c : List ℕ) (n k m₁ m₂ e : ℕ) → refusal_most ≤ length d → length (decimal n) ≤ 3 → length (decimal k) ≤ 5
    → Appended d b₁ 0 m₁ (8 + length (decimal n)) (text_bytes "refused " ++ decimal n)
    → Appended b₁ b₂ m₁ m₂ (4 + length (decimal k)) (text_bytes " at " ++ decimal k) → Appended b₂ c m₂ e 1 (text_bytes "\n")
    → Appended d c 0 e refusal_most (result_text (refused n k))
unfolding result_text
refusal_put d b₁ b₂ c n k m₁ m₂ e room h g p₁ p₂ p₃ =
    numbers_put d b₁ b₂ c (text_bytes "refused ") (text_bytes " at ") (text_bytes "\n") n k m₁ m₂ e refusal_most room (omega arith) p₁ p₂ p₃

-- a standing line
pub rule_put : (d b₁ b₂ c l r : List ℕ) (at n m₁ m₂ e : ℕ) → at + rule_most ≤ length d → length (decimal n) ≤ 3
    → Appended d b₁ at m₁ (length (decimal n)) (decimal n)
    → Appended b₁ b₂ m₁ m₂ sides_most (text_bytes ": " ++ word_text l ++ (text_bytes " -> " ++ word_text r)) → Appended b₂ c m₂ e 1 (text_bytes "\n")
    → Appended d c at e rule_most (rule_text (record { line = n; left = l; right = r }))
unfolding rule_text
rule_put d b₁ b₂ c l r at n m₁ m₂ e room h p₁ p₂ p₃ =
    let x = text_bytes ": " ++ word_text l in
    let y = text_bytes " -> " ++ word_text r in
    let q = two_pieces b₁ b₂ c (x ++ y) (text_bytes "\n") m₁ m₂ e sides_most 1 (sides_most + 1) p₂ p₃ (omega arith) (omega arith) in
    let a : x ++ y ++ text_bytes "\n" ≡ text_bytes ": " ++ (word_text l ++ (text_bytes " -> " ++ (word_text r ++ text_bytes "\n"))) = simp append_assoc in
    rw (← a) (two_pieces d b₁ c (decimal n) (x ++ y ++ text_bytes "\n") at m₁ e (length (decimal n)) (sides_most + 1) rule_most p₁ q room (omega arith))

-- one line
module _ (d recs words : List ℕ) (at j : ℕ) (t : Bool) (e : t ≡ stands_by recs j) where
  pub line_deleted : t ≡ false → Appended d d at at rule_most (line_text recs words j)
  unfolding line_text
  line_deleted h = rw (sym e ∙ h) (nothing_put d at rule_most)

  pub line_put : (b l r : List ℕ) (end : ℕ) → t ≡ true → l ≡ line_left recs words j → r ≡ line_right recs words j
      → Appended d b at end rule_most (rule_text (record { line = j; left = l; right = r })) → Appended d b at end rule_most (line_text recs words j)
  unfolding line_text
  line_put b l r end h f g p = rw (sym e ∙ h, ← f, ← g) p

-- the first line's text, then that of the others; and the last one's behind that of the others
rules_first : (recs words : List ℕ) (k n : ℕ) → rules_text (rules_in recs words k (suc n)) ≡ line_text recs words k ++ rules_text (rules_in recs words (k + 1) n)
unfolding rules_in rules_text line_text
rules_first recs words k n = go (stands_by recs k) (rule_by recs words k) (rules_in recs words (k + 1) n)
  where
    go : (t : Bool) (r : Rule) (rs : List Rule) → rules_text (cond t (r ∷ rs) rs) ≡ cond t (rule_text r) [] ++ rules_text rs
    go true r rs = refl
    go false r rs = refl

rules_more : (recs words : List ℕ) (j k : ℕ) → rules_text (rules_in recs words k (j + 1)) ≡ rules_text (rules_in recs words k j) ++ line_text recs words (k + j)
unfolding rules_in rules_text
rules_more recs words zero k = let e : k + 0 ≡ k = omega arith in rw e (rules_first recs words k 0 ∙ append-nil (line_text recs words k))
rules_more recs words (suc j) k =
    let e : suc j + 1 ≡ suc (j + 1) = omega arith in
    let f : k + 1 + j ≡ k + suc j = omega arith in
    let x = line_text recs words k in
    let y = rules_text (rules_in recs words (k + 1) j) in
    let z = line_text recs words (k + suc j) in
    ap (λ (m : ℕ). rules_text (rules_in recs words k m)) e ∙ rules_first recs words k (j + 1)
    ∙ ap (λ (l : List ℕ). x ++ l) (rw f at (rules_more recs words j (k + 1))) ∙ sym (append_assoc x y z)
    ∙ ap (λ (l : List ℕ). l ++ z) (sym (rules_first recs words k j))

-- the rules that have been put
module _ (d recs words : List ℕ) (at : ℕ) where
  pub rules_start : Appended d d at at (rule_most * 0) (rules_text (rules_in recs words 0 0))
  unfolding rules_in rules_text
  rules_start = nothing_put d at 0

  pub rules_on : (b c : List ℕ) (m r j n : ℕ) → Appended d b at m (rule_most * j) (rules_text (rules_in recs words 0 j)) → j < n → at + rule_most * n ≤ length d
      → Appended b c m r rule_most (line_text recs words j) → Appended d c at r (rule_most * (j + 1)) (rules_text (rules_in recs words 0 (j + 1)))
  rules_on b c m r j n p h g q =
      let z : 0 + j ≡ j = omega arith in
      rw (rules_more recs words j 0, z)
      (two_pieces d b c (rules_text (rules_in recs words 0 j)) (line_text recs words j) at m r (rule_most * j) rule_most (rule_most * (j + 1)) p q (omega arith) (omega arith))

-- the count
pub standing_counted : (recs : List ℕ) (k n : ℕ) → length (filter (λ j. stands_by recs j) (range_with_len k n)) ≡ standing_from recs k n
unfolding standing_from
standing_counted recs k zero = refl
standing_counted recs k (suc n) = go (stands_by recs k) (filter (λ j. stands_by recs j) (range_with_len (k + 1) n)) ∙ ap (λ (x : ℕ). bit (stands_by recs k) + x) (standing_counted recs (k + 1) n)
  where
    go : (t : Bool) (js : List ℕ) → length (cond t (k ∷ js) js) ≡ bit t + length js
    go true js = omega arith
    go false js = omega arith

pub standing_few : (recs : List ℕ) (k n : ℕ) → standing_from recs k n ≤ n
unfolding standing_from
standing_few recs k zero = omega arith
standing_few recs k (suc n) = go (stands_by recs k) (standing_few recs (k + 1) n)
  where
    go : (t : Bool) → standing_from recs (k + 1) n ≤ n → bit t + standing_from recs (k + 1) n ≤ suc n
    go true h = omega arith
    go false h = omega arith

rules_counted : (recs words : List ℕ) (k n : ℕ) → length (rules_in recs words k n) ≡ standing_from recs k n
unfolding rules_in standing_from
rules_counted recs words k zero = refl
rules_counted recs words k (suc n) = go (stands_by recs k) (rule_by recs words k) (rules_in recs words (k + 1) n) ∙ ap (λ (x : ℕ). bit (stands_by recs k) + x) (rules_counted recs words (k + 1) n)
  where
    go : (t : Bool) (r : Rule) (rs : List Rule) → length (cond t (r ∷ rs) rs) ≡ bit t + length rs
    go true r rs = omega arith
    go false r rs = omega arith

-- the text of the slices is that of the lines
pub slices_text_lem : (recs steps words : List ℕ) (n : ℕ) → slices_text recs words n ≡ table_text (lines_in recs steps words n)
unfolding slices_text table_text
slices_text_lem recs steps words n = rw (← rules_are recs steps words n, lines_long recs steps words n, rules_counted recs words 0 n)

-- the title, and the rules behind it
pub table_put : (d b c recs words : List ℕ) (m r n count : ℕ) → text_room ≤ length d → n ≤ table_kind.pairs → count ≡ standing_from recs 0 n
    → Appended d b 0 m title_most (title_text count n) → Appended b c m r (rule_most * n) (rules_text (rules_in recs words 0 n))
    → Appended d c 0 r text_room (slices_text recs words n)
unfolding slices_text
table_put d b c recs words m r n count h g e p q =
    rw (← e) (two_pieces d b c (title_text count n) (rules_text (rules_in recs words 0 n)) 0 m r title_most (rule_most * n) text_room p q (omega arith) (omega arith))

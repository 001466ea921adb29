-- Words as text: letter by letter, and the empty word as a hyphen.
use Prim.Native.Nat.{ℕ, suc, ◌+◌, ◌≤◌, ◌<◌}
use native.Mathlib.Omega.{arith}
use native.Mathlib.Numerals.{add-one}
use mathlib.Core.Path.{◌≡◌, refl, sym, ◌∙◌, ap, ap₂}
use mathlib.Core.List.{List, [], ◌∷◌}
use lib.ListN.{length, get_or, drop, set}
use lib.Seq.{drop-cons, drop-length, paste, paste-zero, paste-suc}
use Rattle.words.specs.Word.{Word}
use Rattle.buffers.specs.Written.{written}
use Rattle.buffers.specs.Appended.{Appended}
use Rattle.buffers.proofs.WrittenLaws.{written_behind, written_nothing}
use Rattle.listing.specs.Text.{letter_byte, letter_bytes}

letters_long : (w : Word) → length (letter_bytes w) ≡ length w
letters_long [] = refl
letters_long (a ∷ w) = ap suc (letters_long w)

-- one byte written
one_written : (b : List ℕ) (p x : ℕ) → p < length b → set b p x ≡ paste b p (x ∷ []) 1
one_written b p x h =
    let z : p ≡ p + 0 = omega arith in
    ap₂ (λ (c : List ℕ) (q : ℕ). set c q x) (paste-zero b p (x ∷ [])) z ∙ paste-suc b p (x ∷ []) 0 0 (omega arith) (omega arith)

-- what will have been written is what is left to write behind what has been
unfoldable pub LettersLeft : List ℕ → ℕ → Word → List ℕ → ℕ → Type 0
LettersLeft d at w b i = written d at (letter_bytes w) ≡ written b (at + i) (letter_bytes (drop i w))

module _ (d : List ℕ) (at : ℕ) (w : Word) where
  pub letters_start_lem : LettersLeft d at w d 0
  unfolding LettersLeft
  letters_start_lem = let e : at + 0 ≡ at = omega arith in rw e

  pub letters_on : (b : List ℕ) (i x : ℕ) → LettersLeft d at w b i → i < length w → at + length w ≤ length d → length b ≡ length d
      → x ≡ letter_byte (get_or w i 0) → LettersLeft d at w (set b (at + i) x) (i + 1)
  unfolding LettersLeft
  letters_on b i x f h g l e =
      let z : at + i + 1 ≡ at + (i + 1) = omega arith in
      let q : letter_bytes (drop i w) ≡ x ∷ letter_bytes (drop (i + 1) w) =
      ap letter_bytes (drop-cons w i 0 h) ∙ ap₂ ◌∷◌ (sym e) (ap (λ (n : ℕ). letter_bytes (drop n w)) (sym (add-one i))) in
      f ∙ ap (written b (at + i)) q ∙ written_behind b (set b (at + i) x) (x ∷ []) (letter_bytes (drop (i + 1) w)) (at + i) 1 refl (omega arith) (one_written b (at + i) x (omega arith)) ∙ rw z

  pub letters_end : (b : List ℕ) (i : ℕ) → LettersLeft d at w b i → i ≤ length w → length w ≤ i → length b ≡ length d
      → Appended d b at (at + length w) (length w) (letter_bytes w)
  unfolding LettersLeft
  letters_end b i f h g l =
      let q : i ≡ length w = omega arith in
      let n : drop i w ≡ [] = ap (λ (k : ℕ). drop k w) q ∙ drop-length w in
      record {
        ends = rw (letters_long w);
        short = omega (arith, letters_long w);
        output = sym (f ∙ rw n (written_nothing b (at + i)));
        size = l;
      }

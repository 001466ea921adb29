-- The public calls on words. A table that fits, and a word that may be asked about, give the lines that the search goes through; these have the
-- table's rules. A refusal writes nothing.
use Prim.Native.Nat.{ℕ, ◌≤◌}
use Rattle.std.proofs.Common.{◌≡◌, refl, sym, ◌∙◌, Bool, true, false, not, cond, List, length, arith, Err}
use Rattle.std.proofs.Common.{Result as Outcome}
use borrow.Author.Tests.{not-true, not-false, le-leb, leb-true}
use lib.Dec.{leb}
use Rattle.words.specs.Word.{Word, letters_below}
use Rattle.words.specs.Comparing.{query_word}
use Rattle.words.specs.Refusal.{Result, answered, refused, on_answer}
use Rattle.words.specs.Answer.{refused_by}
use Rattle.words.specs.declared.refusals.Refusal.{Refusal}
use Rattle.words.proofs.TestLaws.{and_left}
use Rattle.rewriting.specs.Search.{Rule}
use Rattle.rewriting.specs.Normal.{Counted}
use Rattle.rewriting.specs.Sheet.{rules_of}
use Rattle.layout.specs.declared.Header.{Header}
use Rattle.layout.specs.declared.judged.Table.{Table}
use Rattle.layout.specs.Header.{header_of}
use Rattle.layout.specs.Tables.{table_fits, table_of}
use Rattle.layout.proofs.JudgedLaws.{table_letters}
use Rattle.reducing.specs.SameFare.{same_fare}
use Rattle.reducing.specs.Answers.{fares_as, counted_as}
use Rattle.reducing.specs.declared.Normal.{Normal}
use Rattle.queries.specs.declared.Reached.{Reached}
use Rattle.queries.specs.Queries.{asked_result, same_result}
use Rattle.queries.specs.Calls.{query_header, WordCalled}

-- a query word
pub query_short : (n : ℕ) (w : Word) (t : Bool) → t ≡ query_word n w → not t ≡ false → length w ≤ 64
unfolding query_word
query_short n w t e h = leb-true (length w) 64 (and_left (leb (length w) 64) (letters_below n w) (sym e ∙ not-false t h))

pub word_short : (n : ℕ) (w : Word) (t : Bool) → t ≡ query_word n w → not t ≡ false → length w ≤ 128
word_short n w t e h = omega (arith, query_short n w t e h)

-- the header, by the tests that the code made
module _ (b : List ℕ) (w : Word) (room : ℕ) (k : 128 ≤ room) (t : Table) (et : t.bytes.now ≡ b) (q : Bool) (eq : q ≡ query_word t.header.letters w) where
  fits : table_fits b ≡ true
  fits = rw et at t.fits

  read : t.header ≡ header_of b
  read = rw et at t.read

  asked : query_word (table_of b).letters w ≡ q
  asked = rw (← table_letters b t.header read) (sym eq)

  pub header_refused : not q ≡ true → refused 4 0 ≡ query_header b w room
  unfolding query_header
  header_refused n = let f = asked ∙ not-true q n in rw (le-leb 128 room k, fits, f)

  pub header_given : not q ≡ false → answered t.header ≡ query_header b w room
  unfolding query_header
  header_given n = let f = asked ∙ not-false q n in rw (le-leb 128 room k, fits, f, read)

-- a question's answer is that of the table's rules, where the header is given
module _ (ask : List Rule → Word → Result Counted) (b : List ℕ) (w : Word) (d : List ℕ) where
  asked_is : asked_result ask b w (length d) ≡ on_answer (query_header b w (length d)) (λ (h : Header). ask (rules_of (table_of b).lines) w)
  unfolding asked_result query_header
  asked_is = go (leb 128 (length d)) (table_fits b) (query_word (table_of b).letters w)
    where
      go : (p q r : Bool) → cond p (cond q (cond r (ask (rules_of (table_of b).lines) w) (refused 4 0)) (refused 1 0)) (refused 3 0)
          ≡ on_answer (cond p (cond q (cond r (answered (header_of b)) (refused 4 0)) (refused 1 0)) (refused 3 0)) (λ (h : Header). ask (rules_of (table_of b).lines) w)
      go true true true = refl
      go true true false = refl
      go true false r = refl
      go false q r = refl

  pub ask_refused : (f : Refusal) → refused_by f ≡ query_header b w (length d) → WordCalled (asked_result ask b w (length d)) d d (Err f)
  ask_refused f e = record { answer = rw (asked_is, ← e); output = rw (asked_is, ← e) }

  -- the lines have the table's rules
  module _ (t : Table) (et : t.bytes.now ≡ b) (e : answered t.header ≡ query_header b w (length d)) (rs : List Rule) (er : rs ≡ rules_of (table_of t.bytes.now).lines) where
    lines_asked : asked_result ask b w (length d) ≡ ask rs w
    lines_asked = rw (asked_is, ← e, er, et)

    pub answer_shown : (m : Outcome Normal Refusal) → counted_as m ≡ ask rs w → (c : List ℕ) (r : Outcome Reached Refusal) → WordCalled (counted_as m) d c r
        → WordCalled (asked_result ask b w (length d)) d c r
    answer_shown m g c r a = rw (lines_asked, ← g) a

-- the refusals of yes or no, and its answer
module _ (b : List ℕ) (u v : Word) (a : ℕ) where
  pub same_no_table : table_fits b ≡ false → refused 1 0 ≡ same_result b u v a
  unfolding same_result
  same_no_table g = rw g

  module _ (t : Table) (et : t.bytes.now ≡ b) (q : Bool) (eq : q ≡ query_word t.header.letters u) where
    same_fits : table_fits b ≡ true
    same_fits = rw et at t.fits

    same_letters : t.header.letters ≡ (table_of b).letters
    same_letters = table_letters b t.header (rw et at t.read)

    first : query_word (table_of b).letters u ≡ q
    first = rw (← same_letters) (sym eq)

    pub same_no_first : not q ≡ true → refused 4 0 ≡ same_result b u v a
    unfolding same_result
    same_no_first n = let f = first ∙ not-true q n in rw (same_fits, f)

    module _ (k : not q ≡ false) (s : Bool) (es : s ≡ query_word t.header.letters v) where
      second : query_word (table_of b).letters v ≡ s
      second = rw (← same_letters) (sym es)

      pub same_no_second : not s ≡ true → refused 4 0 ≡ same_result b u v a
      unfolding same_result
      same_no_second n = let f = first ∙ not-false q k in let g = second ∙ not-true s n in rw (same_fits, f, g)

      pub same_answer : not s ≡ false → (rs : List Rule) (r : Outcome Bool Refusal) → rs ≡ rules_of (table_of t.bytes.now).lines
          → fares_as r ≡ same_fare rs a u v → fares_as r ≡ same_result b u v a
      unfolding same_result
      same_answer m rs r er g =
          let f = first ∙ not-false q k in
          let h = second ∙ not-false s m in
          rw (same_fits, f, h) (rw (er, et) at g)

-- The standing lines as a set of rules. A number past the end names no standing line, and one number names one line. The rules of
-- the list that the search goes through are the same set, so runs and answered normal words are normal by the standing lines.
use Prim.Native.Nat.{ℕ, ◌≤◌, ◌<◌, Ordering}
use mathlib.Core.Path.{◌≡◌, sym, ◌∙◌, ap}
use mathlib.Core.Logic.{◌⊎◌, inl, inr}
use mathlib.Core.Bool.{true≢false}
use mathlib.Core.List.{List}
use native.Mathlib.Omega.{arith}
use native.Mathlib.Decide.{dec_lt}
use lib.ListN.{length, get_or-eq_default}
use Rattle.words.specs.Word.{Word}
use Rattle.words.specs.Order.{IsOrder}
use Rattle.words.specs.Refusal.{answered}
use Rattle.rewriting.specs.Sheet.{Line, no_line, rules_of}
use Rattle.rewriting.specs.Normal.{Counted, normal_of, Runs}
use Rattle.rewriting.specs.Links.{Replaces, Irreducible, Normal, OneNormal, Sinks, OfRules, StandingLine, OfLines}
use Rattle.rewriting.proofs.Chains.{replaces_weaken}
use Rattle.rewriting.proofs.NormalWords.{normal_same}
use Rattle.rewriting.proofs.RulesLaws.{rules_lines, lines_rules}
use Rattle.rewriting.proofs.RunsLaws.{runs_normal, runs_all}
use Rattle.rewriting.proofs.BoundedLaws.{answered_runs}
use Rattle.rewriting.proofs.SearchLaws.{rules_next}

module _ (ts : List Line) where
  -- a standing line is one of the lines
  pub standing_listed : (n : ℕ) (l r : Word) → StandingLine ts n l r → n < length ts
  standing_listed n l r h = go (dec_lt n (length ts))
    where
      go : Dec (n < length ts) → n < length ts
      go (yes k) = k
      go (no k) =
          let past : length ts ≤ n = omega arith in
          absurd (true≢false (sym h.stands ∙ ap (λ (t : Line). t.stands) (get_or-eq_default ts no_line past)))

  -- a number names one line
  pub standing_single : (n : ℕ) (l r m s : Word) → StandingLine ts n l r → StandingLine ts n m s → (l ≡ m) × (r ≡ s)
  standing_single n l r m s h k = (h.left ∙ sym k.left, h.right ∙ sym k.right)

  -- every word can be replaced by the standing lines or is irreducible
  pub lines_next : (u : Word) → ((v : Word) × Replaces (OfLines ts) u v) ⊎ Irreducible (OfLines ts) u
  lines_next u = go (rules_next (rules_of ts) u)
    where
      go : ((v : Word) × Replaces (OfRules (rules_of ts)) u v) ⊎ Irreducible (OfRules (rules_of ts)) u
          → ((v : Word) × Replaces (OfLines ts) u v) ⊎ Irreducible (OfLines ts) u
      go (inl (v, s)) = inl (v, replaces_weaken (rules_lines ts) s)
      go (inr f) = inr (λ v s. f v (replaces_weaken (lines_rules ts) s))

  pub runs_lines : {u z : Word} {c : ℕ} → Runs (rules_of ts) u z c → Normal (OfLines ts) u z
  runs_lines t = normal_same (rules_lines ts) (lines_rules ts) (runs_normal t)

  pub answered_lines : (a : ℕ) (u : Word) (c : Counted) → normal_of (rules_of ts) a u ≡ answered c → Normal (OfLines ts) u c.word
  answered_lines a u c e = runs_lines (answered_runs (rules_of ts) a u c e).0

  -- two words with the same answer have a normal word in common
  pub answered_one : (a b : ℕ) (u v : Word) (c d : Counted)
      → normal_of (rules_of ts) a u ≡ answered c
      → normal_of (rules_of ts) b v ≡ answered d
      → c.word ≡ d.word
      → OneNormal (OfLines ts) u v
  answered_one a b u v c d e f same = (c.word, answered_lines a u c e, rw same (answered_lines b v d f))

  -- where every standing line goes down in the order, every word has a run
  pub lines_run : {cmp : Word → Word → Ordering} → IsOrder cmp → Sinks cmp (OfLines ts) → (u : Word) → (z : Word) × (c : ℕ) × Runs (rules_of ts) u z c
  lines_run o sinks u = runs_all o (λ l r h. sinks l r (rules_lines ts l r h)) u

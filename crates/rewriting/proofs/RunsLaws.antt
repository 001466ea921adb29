-- Runs of the replacements due. A run is a reduction, and it ends in an irreducible word. The search has one answer for each word, so
-- two runs of one word agree turn by turn. Where every rule goes down in the order, every word has a run.
use Prim.Native.Nat.{ℕ, suc, Ordering}
use mathlib.Core.Path.{◌≡◌, refl, ◌∙◌, ap}
use mathlib.Core.List.{List}
use mathlib.Core.WellFounded.{recursion}
use native.Mathlib.Omega.{arith}
use Rattle.words.specs.Word.{Word}
use Rattle.words.specs.Order.{Below, IsOrder}
use Rattle.rewriting.specs.Search.{Rule, Due, nothing, due, search, after}
use Rattle.rewriting.specs.Normal.{Runs, halt, turn}
use Rattle.rewriting.specs.Links.{Normal, stay, Sinks, OfRules}
use Rattle.rewriting.proofs.NormalWords.{replaces_normal}
use Rattle.rewriting.proofs.Sinking.{replaces_sinks}
use Rattle.rewriting.proofs.SearchLaws.{found_replaces, nothing_irreducible}

-- a search does not answer both
pub not_both : {d : Due} {p : ℕ} {r : Rule} → d ≡ nothing → d ≡ due p r → ⊥
not_both e f = let z : ◌≡◌ {A = ℕ} 0 1 = cc in omega arith

-- a search's answer is one
pub same_after : (u : Word) {d : Due} {p q : ℕ} {r s : Rule} → d ≡ due p r → d ≡ due q s → after u p r ≡ after u q s
same_after u {p = p} {q} {r} {s} e f = let a : p ≡ q = cc in let b : r ≡ s = cc in rw (a, b)

module _ {rs : List Rule} where
  pub runs_normal : {u z : Word} {c : ℕ} → Runs rs u z c → Normal (OfRules rs) u z
  runs_normal (halt {u} e) = record { reaches = stay; final = nothing_irreducible rs u e }
  runs_normal (turn {u} p r e t) = replaces_normal (found_replaces rs u p r e) (runs_normal t)

  agree : {u v z y : Word} {c d : ℕ} → u ≡ v → Runs rs u z c → Runs rs v y d → (z ≡ y) × (c ≡ d)
  agree h (halt e) (halt f) = (h, refl)
  agree h (halt e) (turn p r f t) = absurd (not_both e (rw (← h) at f))
  agree h (turn p r e t) (halt f) = absurd (not_both f (rw h at e))
  agree h (turn {u} p r e t) (turn q s f k) =
      let n = agree (same_after u e (rw (← h) at f) ∙ ap (λ (x : Word). after x q s) h) t k in
      (n.0, ap suc n.1)

  -- two runs of one word agree in word and count
  pub runs_once : {u z y : Word} {c d : ℕ} → Runs rs u z c → Runs rs u y d → (z ≡ y) × (c ≡ d)
  runs_once t k = agree refl t k

  module _ {cmp : Word → Word → Ordering} (o : IsOrder cmp) (sinks : Sinks cmp (OfRules rs)) where
    -- every word has a run
    pub runs_all : (u : Word) → (z : Word) × (c : ℕ) × Runs rs u z c
    runs_all u = recursion o.well_founded {C = λ (w : Word). (z : Word) × (c : ℕ) × Runs rs w z c} u (λ w ih. go w ih (search rs w) refl)
      where
        go : (w : Word)
            → ((v : Word) → Below cmp v w → (z : Word) × (c : ℕ) × Runs rs v z c)
            → (d : Due)
            → search rs w ≡ d
            → (z : Word) × (c : ℕ) × Runs rs w z c
        go w ih nothing e = (w, 0, halt e)
        go w ih (due p r) e =
            let t = ih (after w p r) (replaces_sinks o sinks (found_replaces rs w p r e)) in
            (t.0, suc t.1, turn p r e t.2)

-- The marked examples, P1 to P12, as one statement. Specification, "Examples": four of kachinuki, two of shortlex, five of normal words with their counts,
-- and a critical pair. They hold of the definitions that every promise cites.
use Prim.Native.Nat.{Ordering}
use Rattle.std.specs.Prelude.{ℕ, ◌≡◌, true}
use Prim.Native.String.{String}
use Rattle.words.specs.Kachinuki.{kachinuki}
use Rattle.words.specs.Shortlex.{shortlex}
use Rattle.words.specs.Refusal.{Result, answered, refused}
use Rattle.rewriting.specs.Normal.{Counted, normal_of, own_allowance}
use Rattle.rewriting.specs.Pairs.{is_pair, peak, reducts_of}
use Rattle.meaning.specs.Examples.{word, seven_rules, five_rules}

-- a normal word with its count
abbrev pub gives : String → ℕ → Result Counted
gives w n = answered (record { word = word w; count = n })

-- the rule aba to - overlaps itself at 2: peak ababa, reducts ba and ab
pub record OverlapsItself : Type 0 where
  pub counts : is_pair 0 0 2 (word "aba") (word "aba") ≡ true
  pub top : peak 2 (word "aba") (word "aba") ≡ word "ababa"
  pub reducts : reducts_of 2 (word "aba") (word "") (word "aba") (word "") ≡ record { first = word "ba"; second = word "ab" }

pub record Marked : Type 0 where
  pub p1 : kachinuki (word "ab") (word "ba") ≡ Ordering.lt
  pub p2 : kachinuki (word "aaaa") (word "b") ≡ Ordering.lt
  pub p3 : kachinuki (word "") (word "a") ≡ Ordering.lt
  pub p4 : kachinuki (word "baa") (word "bb") ≡ Ordering.lt
  pub p5 : shortlex (word "b") (word "aa") ≡ Ordering.lt
  pub p6 : shortlex (word "ab") (word "ba") ≡ Ordering.lt
  pub p7 : normal_of seven_rules own_allowance (word "cac") ≡ gives "c" 2
  pub p8 : normal_of seven_rules own_allowance (word "aca") ≡ gives "c" 2
  pub p9 : normal_of seven_rules own_allowance (word "bac") ≡ gives "bc" 1
  pub p10 : normal_of seven_rules 1 (word "cac") ≡ refused 5 0
  pub p11 : normal_of five_rules own_allowance (word "cac") ≡ gives "cac" 0
  pub p12 : OverlapsItself

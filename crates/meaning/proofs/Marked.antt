-- P1 to P12 hold of the definitions: both sides of each equation compute to the same value.
use mathlib.Core.Path.{refl}
use Rattle.words.specs.Kachinuki.{kachinuki}
use Rattle.words.specs.Shortlex.{shortlex}
use Rattle.rewriting.specs.Standing.{begins, stands_at}
use Rattle.rewriting.specs.Search.{rule_at, search_from, search}
use Rattle.rewriting.specs.Normal.{word_turn, normal_from, normal_of}
use Rattle.rewriting.specs.Pairs.{agree, place_counts, is_pair, reducts_of}
use Rattle.meaning.specs.Marked.{Marked}

pub marked : Marked
unfolding kachinuki shortlex begins stands_at rule_at search_from search word_turn normal_from normal_of agree place_counts is_pair reducts_of
marked = record {
  p1 = refl;
  p2 = refl;
  p3 = refl;
  p4 = refl;
  p5 = refl;
  p6 = refl;
  p7 = refl;
  p8 = refl;
  p9 = refl;
  p10 = refl;
  p11 = refl;
  p12 = record { counts = refl; top = refl; reducts = refl };
}

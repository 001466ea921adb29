-- Numbers written one behind the other: after each, those so far stand at the start.
use Rattle.std.proofs.Common.{ℕ, ◌+◌, ◌*◌, ◌<◌, ◌≤◌, ◌≡◌, refl, List, [], ◌∷◌, ◌++◌, length, take, get_or, add-one, arith, take_all, length-take-le}
use Rattle.std.proofs.Math.Seq.{take-suc}
use Rattle.buffers.specs.Bytes.{u16_bytes}
use Rattle.buffers.specs.Written.{written}
use Rattle.buffers.proofs.WrittenLaws.{written_none, written_more}
use Rattle.rewriting.specs.Sheet.{Step}
use Rattle.layout.specs.Header.{step_width}
use Rattle.writing.specs.Writing.{numbers_bytes, step_bytes}

pub numbers_long : (ns : List ℕ) → length (numbers_bytes ns) ≡ 2 * length ns
unfolding numbers_bytes
numbers_long [] = refl
numbers_long (n ∷ ns) = let h = numbers_long ns in omega (arith, h)

-- one number more
numbers_joined : (ns ms : List ℕ) → numbers_bytes (ns ++ ms) ≡ numbers_bytes ns ++ numbers_bytes ms
unfolding numbers_bytes
numbers_joined [] ms = refl
numbers_joined (n ∷ ns) ms = rw (numbers_joined ns ms) refl

pub numbers_start : (d ns : List ℕ) → d ≡ written d 0 (numbers_bytes (take 0 ns))
unfolding numbers_bytes
numbers_start d ns = written_none d

pub numbers_on : (d b c ns : List ℕ) (i : ℕ) → b ≡ written d 0 (numbers_bytes (take i ns)) → c ≡ written b (2 * i) (u16_bytes (get_or ns i 0)) → i < length ns
    → c ≡ written d 0 (numbers_bytes (take (i + 1) ns))
unfolding numbers_bytes
numbers_on d b c ns i e f h =
    let long : length (numbers_bytes (take i ns)) ≡ 2 * i = rw (numbers_long (take i ns), length-take-le i ns (omega arith)) refl in
    rw (add-one i, take-suc ns i 0 h, numbers_joined (take i ns) (get_or ns i 0 ∷ [])) (written_more d b c (numbers_bytes (take i ns)) (u16_bytes (get_or ns i 0)) (2 * i) e long f)

pub numbers_end : (b d ns : List ℕ) (i : ℕ) → b ≡ written d 0 (numbers_bytes (take i ns)) → length ns ≤ i → b ≡ written d 0 (numbers_bytes ns)
numbers_end b d ns i e h = rw (e, take_all i ns h) refl

pub ruleset numbers = (numbers_start, numbers_on, numbers_end)

-- every step has as many bytes
pub step_long : (s : Step) → length (step_bytes s) ≡ step_width
unfolding step_bytes
step_long s = refl

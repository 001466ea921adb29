-- Numbers in bytes, low byte first: a u16 in two, a u32 in four.
use Rattle.std.specs.Prelude.{ℕ, ◌+◌, ◌*◌, ◌/◌, ◌%◌, List, [], ◌∷◌, ◌++◌, get_or}

-- the u16 at the place p
abbrev pub u16_at : List ℕ → ℕ → ℕ
u16_at s p = get_or s p 0 + 256 * get_or s (p + 1) 0

-- a number below 65,536 as two bytes
abbrev pub u16_bytes : ℕ → List ℕ
u16_bytes n = n % 256 ∷ n / 256 ∷ []

-- the u32 at the place p: its low half, then its high half
abbrev pub u32_at : List ℕ → ℕ → ℕ
u32_at s p = u16_at s p + 65536 * u16_at s (p + 2)

-- a number below 4,294,967,296 as four bytes
abbrev pub u32_bytes : ℕ → List ℕ
u32_bytes n = u16_bytes (n % 65536) ++ u16_bytes (n / 65536)

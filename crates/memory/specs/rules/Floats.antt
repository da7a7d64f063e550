-- A float in two words of a list, the low word first.
use Rattle.std.specs.Prelude.{List, ℕ, ◌+◌, ◌*◌, ◌/◌, ◌%◌, ◌^◌, get_or, set, Float}
use Rattle.std.specs.Float.{binary64}
use Rattle.std.specs.Float.Ieee.{to_bits, of_bits}

-- the list with x in the words at and at + 1
abbrev pub with_float : List ℕ → ℕ → Float → List ℕ
with_float l at x = set (set l at (to_bits binary64 x % 2 ^ 32)) (at + 1) (to_bits binary64 x / 2 ^ 32)

-- the float that the words at and at + 1 are
abbrev pub float_at : List ℕ → ℕ → Float
float_at l at = of_bits binary64 (get_or l (at + 1) 0 * 2 ^ 32 + get_or l at 0)

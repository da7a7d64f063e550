-- Drift under a slope: each product is rounded once in f64, and then to the nearest whole number.
use Rattle.std.specs.Prelude.{ℕ, true, false, T, ℤ, pos, Float}
use Rattle.std.specs.Float.{fin, binary64}
use Rattle.std.specs.Float.Ieee.{mul, neg, of_int, le}
use Rattle.rounding.specs.rules.Rounding.{round_to_signed}

-- row drift of column c: round(c × slope) (01, part 3)
abbrev pub drift : Float → ℕ → ℤ
drift slope c = round_to_signed 63 (mul binary64 (of_int binary64 (pos c)) slope)

-- column drift of frame row r: round((−r) × slope) (01, part 3)
abbrev pub drift_x : Float → ℕ → ℤ
drift_x slope r = round_to_signed 63 (mul binary64 (neg (of_int binary64 (pos r))) slope)

-- a slope from -1 to 1: all that levelling takes (01, refusal 5)
abbrev pub WithinOne : Float → Type 0
WithinOne slope = T (le (fin true 1 (pos 0)) slope) × T (le slope (fin false 1 (pos 0)))

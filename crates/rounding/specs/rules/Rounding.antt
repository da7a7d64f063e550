-- Rounding to a whole number, halves away from zero.
use Rattle.std.specs.Prelude.{◌≡◌, ℕ, ◌+◌, ◌*◌, ◌/◌, cond, ℤ, pos, refl, Float}
use Rattle.std.specs.Float.{nan, inf, fin, binary64}
use Rattle.std.specs.Float.Ieee.{up, down, round, mul, div, eq, of_bits, of_int, to_unsigned, to_signed}

-- the whole number nearest to a / b, a half up (01, the forms that give way: "nearest whole number, halves away from zero")
abbrev pub nearest_whole : ℕ → ℕ → ℕ
nearest_whole a b = (2 * a + b) / (2 * b)

-- x at the nearest whole number, halves away from zero, its sign kept; an infinity or a NaN stays so (01, the same place)
unfoldable pub round_half_away : Float → Float
round_half_away nan = nan
round_half_away (inf s) = inf s
round_half_away (fin s m e) = round binary64 s (nearest_whole (m * up e) (down e)) 1

-- a cast after it to w bits: the nearer end of the range, for a NaN 0, as Rust's `as` does (01, the same place)
abbrev pub round_to_unsigned : ℕ → Float → ℕ
round_to_unsigned w x = to_unsigned w (round_half_away x)

-- a cast after it to h bits and a sign, in the same way (01, the same place)
abbrev pub round_to_signed : ℕ → Float → ℤ
round_to_signed h x = to_signed h (round_half_away x)

-- a million, math.rs's `OUTPUT_SCALE`, by its bits
abbrev pub output_scale : Float
output_scale = of_bits binary64 0x412e_8480_0000_0000

output_scale_is : output_scale ≡ of_int binary64 (pos 1000000)
unfolding of_bits of_int
output_scale_is = refl

-- 0.0
abbrev pub positive_zero : Float
positive_zero = of_bits binary64 0

-- 0.0 for either zero (math.rs, `round_output`)
abbrev pub unless_zero : Float → Float
unless_zero r = cond (eq r positive_zero) positive_zero r

-- x at six decimals, then 0.0 for either zero (01, part 1)
abbrev pub round_output : Float → Float
round_output x = unless_zero (div binary64 (round_half_away (mul binary64 x output_scale)) output_scale)

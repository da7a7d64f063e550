-- Lengths in f64, "each product rounded once" (01, "Which language form to use").
use Rattle.std.specs.Prelude.{ℕ, pos, Float}
use Rattle.std.specs.Float.{binary64}
use Rattle.std.specs.Float.Ieee.{mul, of_int}
use Rattle.rounding.specs.rules.Rounding.{round_to_unsigned}

-- a count as a float
abbrev pub float : ℕ → Float
float n = of_int binary64 (pos n)

infixl 7 ◌·◌
-- a product, rounded once
abbrev pub ◌·◌ : Float → Float → Float
a · b = mul binary64 a b

-- a length in whole dots, halves away from zero; no length of a valid sheet reaches the end of 32 bits
abbrev pub dots : Float → ℕ
dots x = round_to_unsigned 32 x

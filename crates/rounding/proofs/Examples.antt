-- Worked values. `fin s m e` is m * 2 ^ e, negative where s is true.
use Rattle.std.proofs.Common.{◌≡◌, true, false, [], ◌∷◌, pos, negsuc, refl}
use lib.Ieee.{binary64, nan, inf, fin, round, mul, div, eq, add, neg, of_bits, of_int, to_unsigned, to_signed}
use Rattle.rounding.specs.rules.Rounding.{round_half_away, round_to_unsigned, round_to_signed, round_output}
use Rattle.rounding.specs.rules.Sums.{pairwise_sum}
use Rattle.rounding.specs.rules.Drift.{drift, drift_x}

-- 2.5 gives 3, -2.5 gives -3 (01, leaves to try)
halves : (round_half_away (fin false 5 (negsuc 0)) ≡ fin false 3 (pos 0)) × (round_half_away (fin true 5 (negsuc 0)) ≡ fin true 3 (pos 0))
unfolding round_half_away round
halves = (refl, refl)

-- 0.5 gives 1, the float before it 0
around-a-half : (round_half_away (fin false 1 (negsuc 0)) ≡ fin false 1 (pos 0)) × (round_half_away (fin false 9007199254740991 (negsuc 53)) ≡ fin false 0 (pos 0))
unfolding round_half_away round
around-a-half = (refl, refl)

-- -0.0 stays, and -0.3 gives it
minus-zero : (round_half_away (fin true 0 (pos 0)) ≡ fin true 0 (pos 0)) × (round_half_away (fin true 5404319552844595 (negsuc 53)) ≡ fin true 0 (pos 0))
unfolding round_half_away round
minus-zero = (refl, refl)

-- 2^52 - 0.5 gives 2^52; 2^52 + 1 stays
around-2^52 : (round_half_away (fin false 9007199254740991 (negsuc 0)) ≡ fin false 1 (pos 52)) × (round_half_away (fin false 4503599627370497 (pos 0)) ≡ fin false 4503599627370497 (pos 0))
unfolding round_half_away round
around-2^52 = (refl, refl)

-- an infinity or a NaN stays so
not_finite : (round_half_away (inf true) ≡ inf true) × (round_half_away nan ≡ nan)
unfolding round_half_away
not_finite = (refl, refl)

-- the casts of a NaN, and past each end: 2^32 - 0.5 and -2.5; 2^31 - 0.5, -2^31 - 0.5 and an infinity
nan-is-zero : (round_to_unsigned 32 nan ≡ 0) × (round_to_signed 31 nan ≡ pos 0)
unfolding round_half_away to_unsigned to_signed
nan-is-zero = (refl, refl)

unsigned-ends : (round_to_unsigned 32 (fin false 8589934591 (negsuc 0)) ≡ 4294967295) × (round_to_unsigned 32 (fin true 5 (negsuc 0)) ≡ 0)
unfolding round_half_away round to_unsigned
unsigned-ends = (refl, refl)

signed-ends : (round_to_signed 31 (fin false 4294967295 (negsuc 0)) ≡ pos 2147483647) × (round_to_signed 31 (fin true 4294967297 (negsuc 0)) ≡ negsuc 2147483647) × (round_to_signed 31 (inf true) ≡ negsuc 2147483647)
unfolding round_half_away round to_signed
signed-ends = (refl, refl, refl)

-- 2^-20 has the six decimals 0.000001, -2^-30 has 0.0
six-decimals : (round_output (fin false 1 (negsuc 19)) ≡ round binary64 false 1 1000000) × (round_output (fin true 1 (negsuc 29)) ≡ fin false 0 (pos 0))
unfolding round_half_away round mul div eq of_bits
six-decimals = (refl, refl)

-- a sum starts from 0.0
sum-of-minus-zero : pairwise_sum (fin true 0 (pos 0) ∷ []) ≡ fin false 0 (pos 0)
unfolding pairwise_sum add round of_bits
sum-of-minus-zero = refl

-- nine values are four and five (01, leaves to try): 2^53 swallows three ones one by one, and then takes the six of the other part
nine-values : pairwise_sum (fin false 1 (pos 53) ∷ fin false 1 (pos 0) ∷ fin false 1 (pos 0) ∷ fin false 1 (pos 0) ∷ fin false 1 (pos 0) ∷ fin false 1 (pos 0) ∷ fin false 1 (pos 0) ∷ fin false 1 (pos 0) ∷ fin false 1 (pos 1) ∷ []) ≡ fin false 4503599627370499 (pos 1)
unfolding pairwise_sum add round of_bits
nine-values = refl

-- slope 0.3: the product at column 5 is 1.5 in f64, and gives 2; in row 5 it gives -2
drifts : (drift (fin false 5404319552844595 (negsuc 53)) 5 ≡ pos 2) × (drift_x (fin false 5404319552844595 (negsuc 53)) 5 ≡ negsuc 1)
unfolding round_half_away round mul neg of_int to_signed
drifts = (refl, refl)

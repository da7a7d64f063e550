use mathlib.Core.Path.{◌≡◌, refl, sym, ◌∙◌, subst}
use mathlib.Core.Bool.{Bool, not}
use Prim.Native.Nat.{ℕ, ◌%◌, ◌≤◌, ◌<◌, ◌^◌}
use lib.Dec.{T, lt→ltb}
use lib.Arith.{le→nltb}
use lib.Ieee.{Float, nan, inf, fin, binary64, of_bits, nan_bits, is_nan, div}
use lib.Ieee.Bits.{nan_bits_is, nan_bits_above}
use Rattle.memory.proofs.floats.from_bits.Goals as goal

pattern : (b : ℕ) → 0x7ff0_0000_0000_0000 < b % 2 ^ 63 → of_bits binary64 b ≡ nan
unfolding is_nan
pattern b h = only (of_bits binary64 b) (subst T (sym (nan_bits_above binary64 b) ∙ nan_bits_is binary64 b) (lt→ltb 0x7ff0_0000_0000_0000 (b % 2 ^ 63) h))
  where
    only : (x : Float) → T (is_nan x) → x ≡ nan
    only nan t = refl
    only (inf _) t = elim t [ ]
    only (fin _ _ _) t = elim t [ ]

no-pattern : (b : ℕ) → b % 2 ^ 63 ≤ 0x7ff0_0000_0000_0000 → T (not (nan_bits binary64 b))
no-pattern b h = subst (λ (z : Bool). T (not z)) (sym (nan_bits_above binary64 b)) (le→nltb 0x7ff0_0000_0000_0000 (b % 2 ^ 63) h)

pub float_from_bits-result : goal.float_from_bits-result
float_from_bits-result c = no-pattern c.args.b c.if-b-gt9218868437227405312.false

pub returns-then-b-gt9218868437227405312 : goal.returns-then-b-gt9218868437227405312
unfolding of_bits div
returns-then-b-gt9218868437227405312 c = sym (pattern c.args.b c.if-b-gt9218868437227405312.true)

-- The casts after rounding, over whole numbers: for a finite float that f64 holds, the nearest whole number of its size, cut to the range.
use Rattle.std.proofs.Common.{◌≡◌, ℕ, ◌-◌, ◌*◌, ◌/◌, ◌^◌, ◌<◌, min, Bool, cond, T, pos, neg_ℤ, sym, ap, ◌∙◌, mul-one, mul-div_cancel}
use lib.Ieee.{Float, fin, binary64, up, down, fits, to_unsigned, to_signed}
use lib.Ieee.Exact.{HasValue}
use lib.Ieee.Fits.{down_pos}
use lib.Ieee.Positive.{num, den}
use lib.Ieee.Scale.{finite}
use Rattle.rounding.specs.rules.Rounding.{nearest_whole, round_half_away, round_to_unsigned, round_to_signed}
use Rattle.rounding.proofs.HalfAway.{round_half_away-value}
use Rattle.rounding.proofs.Signs.{negative}

-- the whole part of a float that is a whole number
whole-part-is : (n d k : ℕ) → 0 < d → n * 1 ≡ k * d → n / d ≡ k
whole-part-is n d k D e = ap (λ (z : ℕ). z / d) (sym (mul-one n) ∙ e) ∙ mul-div_cancel k D

unsigned-of-whole : (w : ℕ) (x : Float) (s : Bool) (n : ℕ) → HasValue x s n 1 → to_unsigned w x ≡ cond s 0 (min n (2 ^ w - 1))
unfolding to_unsigned
unsigned-of-whole w lib.Ieee.nan s n v = elim v [ ]
unsigned-of-whole w (lib.Ieee.inf _) s n v = elim v [ ]
unsigned-of-whole w (fin t m e) s n v =
    let c : m * up e / down e ≡ n = whole-part-is (m * up e) (down e) n (down_pos e) v.1 in
    λ i. cond (v.0 i) 0 (min (c i) (2 ^ w - 1))

signed-of-whole : (h : ℕ) (x : Float) (s : Bool) (n : ℕ) → HasValue x s n 1 → to_signed h x ≡ cond s (neg_ℤ (pos (min n (2 ^ h)))) (pos (min n (2 ^ h - 1)))
unfolding to_signed
signed-of-whole h lib.Ieee.nan s n v = elim v [ ]
signed-of-whole h (lib.Ieee.inf _) s n v = elim v [ ]
signed-of-whole h (fin t m e) s n v =
    let c : m * up e / down e ≡ n = whole-part-is (m * up e) (down e) n (down_pos e) v.1 in
    λ i. cond (v.0 i) (neg_ℤ (pos (min (c i) (2 ^ h)))) (pos (min (c i) (2 ^ h - 1)))

pub round_to_unsigned-is : (w : ℕ) (x : Float) → T (fits binary64 x) → T (finite x) → round_to_unsigned w x ≡ cond (negative x) 0 (min (nearest_whole (num x) (den x)) (2 ^ w - 1))
round_to_unsigned-is w lib.Ieee.nan F p = elim p [ ]
round_to_unsigned-is w (lib.Ieee.inf _) F p = elim p [ ]
round_to_unsigned-is w (fin s m e) F p = unsigned-of-whole w (round_half_away (fin s m e)) s (nearest_whole (m * up e) (down e)) (round_half_away-value s m e F)

pub round_to_signed-is : (h : ℕ) (x : Float) → T (fits binary64 x) → T (finite x) → round_to_signed h x ≡ cond (negative x) (neg_ℤ (pos (min (nearest_whole (num x) (den x)) (2 ^ h)))) (pos (min (nearest_whole (num x) (den x)) (2 ^ h - 1)))
round_to_signed-is h lib.Ieee.nan F p = elim p [ ]
round_to_signed-is h (lib.Ieee.inf _) F p = elim p [ ]
round_to_signed-is h (fin s m e) F p = signed-of-whole h (round_half_away (fin s m e)) s (nearest_whole (m * up e) (down e)) (round_half_away-value s m e F)

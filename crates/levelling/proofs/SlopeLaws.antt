-- A slope from -1 to 1, and its two drifts by sign and size; the skew's magnitude.
use mathlib.Core.Path.{◌≡◌, refl, sym, ap, ◌∙◌}
use mathlib.Core.Bool.{Bool, true, false, not, ◌&&◌, ◌||◌}
use Prim.Native.Nat.{ℕ, ◌+◌, ◌*◌, ◌^◌, ◌≤◌, ◌<◌}
use native.Mathlib.Decide.{dec_lt}
use native.Mathlib.Omega.{arith}
use borrow.Author.Tests.{lt-ltb, le-ltb, eq-eqb}
use lib.IntN.{nat_abs}
use lib.Dec.{T, ltb, eqb, eqb→eq, lt→ltb}
use lib.Ieee.{Float, nan, inf, fin, le, neg, up, down}
use lib.Ieee.Fits.{down_pos}
use Rattle.rounding.specs.rules.Drift.{WithinOne, drift}
use Rattle.rounding.proofs.Tests.{at_most, first_so}
use Rattle.rounding.proofs.Signs.{negative}
use Rattle.rounding.proofs.DriftLaws.{signed, drift-signed, drift-negated, drift_x-is-drift}
use Rattle.levelling.specs.declared.shears.Drift.{Drift}
use Rattle.std.specs.Float.{float_with_sign}
use Rattle.levelling.specs.rules.Shears.{magnitude, drift_of}
use Rattle.levelling.proofs.Integers.{nat_abs-negated}

-- the drift's size
abbrev pub drift_size : Float → ℕ → ℕ
drift_size slope c = nat_abs (drift slope c)

-- ---- the slope with its sign turned
at-most-test : (a b : ℕ) → a ≤ b → T (ltb a b || (eqb a b && true)) × T (ltb a b || (eqb b a && true))
at-most-test a b l = go (dec_lt a b)
  where
    go : Dec (a < b) → T (ltb a b || (eqb a b && true)) × T (ltb a b || (eqb b a && true))
    go (yes k) = rw (lt-ltb a b k) (tt, tt)
    go (no k) = rw (le-ltb a b (omega arith), eq-eqb a b (omega arith), eq-eqb b a (omega arith)) (tt, tt)

within-negated : (slope : Float) → WithinOne slope → WithinOne (neg slope)
unfolding neg le
within-negated nan w = absurd w.0
within-negated (inf true) w = absurd w.0
within-negated (inf false) w = absurd w.1
within-negated (fin true m e) w =
    let a = m * up e * 1 in
    let b = 1 * 1 * down e in
    (first_so (ltb 0 (b + a)) _ (lt→ltb 0 (b + a) (omega (arith, down_pos e))), (at-most-test a b (at_most a b (eqb b a) (λ t. sym (eqb→eq b a t)) w.0)).0)
within-negated (fin false m e) w =
    let a = m * up e * 1 in
    let b = 1 * 1 * down e in
    ((at-most-test a b (at_most a b (eqb a b) (eqb→eq a b) w.1)).1, first_so (ltb 0 (a + b)) _ (lt→ltb 0 (a + b) (omega (arith, down_pos e))))

size-negated : (slope : Float) → WithinOne slope → (c : ℕ) → c ≤ 2 ^ 15 → drift_size (neg slope) c ≡ drift_size slope c
size-negated slope w c C = ap nat_abs (drift-negated slope w c C) ∙ nat_abs-negated (drift slope c)

negative-negated : (slope : Float) → WithinOne slope → negative (neg slope) ≡ not (negative slope)
unfolding neg le
negative-negated nan w = absurd w.0
negative-negated (inf true) w = absurd w.0
negative-negated (inf false) w = absurd w.1
negative-negated (fin s m e) w = refl

-- ---- either drift by sign and size
-- whether it falls: a row drift does under a slope written with a minus, a column drift under any other
abbrev pub falls : Drift → Float → Bool
falls Drift.Row slope = negative slope
falls Drift.Column slope = not (negative slope)

pub drift_of-signed : (which : Drift) (slope : Float) → WithinOne slope → (i : ℕ) → i ≤ 2 ^ 15 → drift_of which slope i ≡ signed (falls which slope) (drift_size slope i)
drift_of-signed Drift.Row slope w i few = drift-signed slope w i few
drift_of-signed Drift.Column slope w i few =
    drift_x-is-drift slope i
    ∙ (drift-signed (neg slope) (within-negated slope w) i few ∙ (λ k. signed (negative-negated slope w k) (size-negated slope w i few k)))

-- ---- the magnitude is the library's
pub magnitude-is : (x : Float) → float_with_sign false x ≡ magnitude x
unfolding magnitude float_with_sign
magnitude-is nan = refl
magnitude-is (inf s) = refl
magnitude-is (fin s m e) = refl

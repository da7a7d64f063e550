-- `nearest_whole` over whole numbers: at a whole number, below a half, in order, and between its neighbours.
use Rattle.std.proofs.Common.{◌≡◌, ℕ, suc, ◌+◌, ◌*◌, ◌/◌, ◌<◌, ◌≤◌, sym, ap, ◌∙◌, le_trans, le_of_eq, lt_of_lt_of_le, mul_assoc, mul_comm, div-lt_iff_lt-mul, add-mul, le-div_iff_mul-le, mul_left_comm, arith}
use lib.Ieee.Nearest.{div_mono}
use Rattle.rounding.specs.rules.Rounding.{nearest_whole}

pub nearest_whole-of-whole : (n : ℕ) → n ≡ nearest_whole n 1
nearest_whole-of-whole n = go n
  where
    go : (n : ℕ) → n ≡ (2 * n + 1) / 2
    go n = omega arith

two_pos : (d : ℕ) → 0 < d → 0 < 2 * d
two_pos d h = omega arith

pub nearest_whole-mono : (n d n' d' : ℕ) → 0 < d → 0 < d' → n * d' ≤ n' * d → nearest_whole n d ≤ nearest_whole n' d'
nearest_whole-mono n d n' d' D D' h = div_mono (2 * n + d) (2 * d) (2 * n' + d') (2 * d') (two_pos d D) (two_pos d' D') (le_trans (le_of_eq (out n d d')) (le_trans (go (n * d') (n' * d) (d * d') h) (le_of_eq (sym (out n' d' d ∙ ap (λ (z : ℕ). 4 * (n' * d) + 2 * z) (mul_comm d' d))))))
  where
    out : (n d e : ℕ) → (2 * n + d) * (2 * e) ≡ 4 * (n * e) + 2 * (d * e)
    out n d e = add-mul (2 * n) d (2 * e) ∙ ap (λ (z : ℕ). z + d * (2 * e)) (mul_assoc 2 n (2 * e) ∙ ap (λ (z : ℕ). 2 * z) (mul_left_comm n 2 e) ∙ four (n * e)) ∙ ap (λ (z : ℕ). 4 * (n * e) + z) (mul_left_comm d 2 e)
      where
        four : (z : ℕ) → 2 * (2 * z) ≡ 4 * z
        four z = omega arith

    go : (p q r : ℕ) → p ≤ q → 4 * p + 2 * r ≤ 4 * q + 2 * r
    go p q r h = omega arith

-- G is the nearest whole number: (2G - 1) d ≤ 2n < (2G + 1) d
pub nearest_whole-low : (n d : ℕ) → 2 * (nearest_whole n d * d) ≤ 2 * n + d
nearest_whole-low n d = le_trans (le_of_eq (sym (mul_left_comm (nearest_whole n d) 2 d))) (native.Mathlib.Nat.div-mul-le_self (2 * n + d) (2 * d))

pub nearest_whole-high : (n d : ℕ) → 0 < d → 2 * n < 2 * (nearest_whole n d * d) + d
nearest_whole-high n d D = go n d (nearest_whole n d * d) (lt_of_lt_of_le (native.Mathlib.Nat.lt-div-mul-add (two_pos d D)) (le_of_eq (ap (λ (z : ℕ). z + 2 * d) (mul_left_comm (nearest_whole n d) 2 d))))
  where
    go : (n d g : ℕ) → 2 * n + d < 2 * g + 2 * d → 2 * n < 2 * g + d
    go n d g h = omega arith

-- 2n < (2G + 1) d bounds it by G, and (2G + 1) d ≤ 2n puts it above G
pub nearest_whole-at-most : (n d g : ℕ) → 0 < d → 2 * n < 2 * (g * d) + d → nearest_whole n d ≤ g
nearest_whole-at-most n d g D h = native.Mathlib.Nat.le_of_suc-le-suc ((div-lt_iff_lt-mul (two_pos d D)).1 (lt_of_lt_of_le (go n d (g * d) h) (le_of_eq (sym (out g d)))))
  where
    go : (n d z : ℕ) → 2 * n < 2 * z + d → 2 * n + d < 2 * z + 2 * d
    go n d z h = omega arith

    out : (g d : ℕ) → suc g * (2 * d) ≡ 2 * (g * d) + 2 * d
    out g d = native.Mathlib.Nat.suc-mul g (2 * d) ∙ ap (λ (z : ℕ). z + 2 * d) (mul_left_comm g 2 d)

pub nearest_whole-above : (n d g : ℕ) → 0 < d → 2 * (g * d) + d ≤ 2 * n → g < nearest_whole n d
nearest_whole-above n d g D h = (le-div_iff_mul-le (two_pos d D)).1 (le_trans (le_of_eq (out g d)) (go n d (g * d) h))
  where
    go : (n d z : ℕ) → 2 * z + d ≤ 2 * n → 2 * z + 2 * d ≤ 2 * n + d
    go n d z h = omega arith

    out : (g d : ℕ) → suc g * (2 * d) ≡ 2 * (g * d) + 2 * d
    out g d = native.Mathlib.Nat.suc-mul g (2 * d) ∙ ap (λ (z : ℕ). z + 2 * d) (mul_left_comm g 2 d)

pub nearest_whole-below-half : (n d : ℕ) → 2 * n < d → nearest_whole n d ≡ 0
nearest_whole-below-half n d h = native.Mathlib.Nat.div-eq_of_lt (go n d h)
  where
    go : (n d : ℕ) → 2 * n < d → 2 * n + d < 2 * d
    go n d h = omega arith

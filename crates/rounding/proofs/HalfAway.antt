-- `round_half_away`: the library's rounding, the float of a whole number, its value, and where it is a zero.
use Rattle.std.proofs.Common.{◌≡◌, ℕ, zero, suc, ◌+◌, ◌*◌, ◌^◌, ◌<◌, ◌≤◌, Bool, true, false, ◌&&◌, T, eqb, ltb, leb, not, ◌||◌, ◌%◌, ℤ, pos, negsuc, sym, refl, ap, ◌∙◌, subst, zero-le, le_trans, le_of_eq, lt_of_lt_of_le, lt_of_le_of_lt, zero-lt-suc, mul_assoc, mul-lt-mul_of_pos_right, zero-mul, mul-zero, mul-one, arith, lit≤, nltb→le, ltb→lt, leb→le, lt_irrefl, pow_pos, pow-add}
use native.Mathlib.Nat.{div-le_of_le-mul}
use lib.Dec.{eqb_refl}
use lib.Arith.{lt_of_le-ne}
use lib.Ieee.{Float, nan, inf, fin, binary64, up, down, round, mul, neg, le, fits, of_int}
use Rattle.std.specs.Float.{float_round, round_with}
use lib.Ieee.Fits.{and_l, and_r, down_pos}
use lib.Ieee.Exact.{HasValue, round_exact}
use lib.Ieee.Scale.{round_same}
use lib.Ieee.Back.{round_whole}
use lib.Ieee.Positive.{num, den, positive}
use Rattle.rounding.specs.rules.Rounding.{nearest_whole, round_half_away}
use Rattle.rounding.proofs.NearestWhole.{nearest_whole-of-whole, nearest_whole-below-half}

-- ---- it is the library's
pub round_half_away-is : (x : Float) → float_round binary64 x ≡ round_half_away x
unfolding round_half_away round_with
round_half_away-is nan = refl
round_half_away-is (inf s) = refl
round_half_away-is (fin false m e) = refl
round_half_away-is (fin true m e) = refl

-- ---- the whole number as a float
pub round_half_away-of-positive : (x : Float) → T (positive x) → round_half_away x ≡ of_int binary64 (pos (nearest_whole (num x) (den x)))
unfolding round_half_away of_int
round_half_away-of-positive nan p = elim p [ ]
round_half_away-of-positive (inf _) p = elim p [ ]
round_half_away-of-positive (fin true m e) p = elim p [ ]
round_half_away-of-positive (fin false m e) p = refl

in-range : (n d : ℕ) → n ≤ 9007199254740991 * d → nearest_whole n d ≤ 2 ^ 53
in-range n d h = div-le_of_le-mul (2 * d) (go n d h)
  where
    go : (n d : ℕ) → n ≤ 9007199254740991 * d → 2 * n + d ≤ 2 * d * 9007199254740992
    go n d h = omega arith

-- ---- the value
-- what a positive float that f64 holds has: at most 53 digits, no unit below 2 ^ -1074, and a size below 2 ^ 1024
record Held (m : ℕ) (e : ℤ) : Type 0 where
  pub digits : m < 2 ^ 53
  pub unit : down e ≤ 2 ^ 1074
  pub top : m * up e < 2 ^ 1024 * down e

held : (m : ℕ) (e : ℤ) → T (fits binary64 (fin false m e)) → 0 < m → Held m e
unfolding fits
held zero e t h = absurd (lt_irrefl 0 h)
held (suc m) e t h =
    let a : Bool = eqb (suc m % 2) 1 in
    let b : Bool = ltb (suc m) (2 ^ 53) in
    let c : Bool = leb (down e) (2 ^ 1074) in
    let d : Bool = ltb (suc m * up e) (2 ^ 1024 * down e) in
    let l = and_l (a && b && c) d t in
    record { digits = ltb→lt (suc m) (2 ^ 53) (and_r a b (and_l (a && b) c l)); unit = leb→le (down e) (2 ^ 1074) (and_r (a && b) c l); top = ltb→lt (suc m * up e) (2 ^ 1024 * down e) (and_r (a && b && c) d t) }

-- `round_half_away` of a finite float is the whole number itself: below 2 ^ 53 there are no gaps, and from there on the float was whole
small-value : (s : Bool) (n d : ℕ) → n ≤ 9007199254740991 * d → HasValue (round binary64 s (nearest_whole n d) 1) s (nearest_whole n d) 1
small-value s n d h = round_whole binary64 s (nearest_whole n d) (in-range n d h)

large-value : (s : Bool) (m k : ℕ) → m < 2 ^ 53 → m * 2 ^ k < 2 ^ 1024 * 1 → HasValue (round binary64 s (nearest_whole (m * 2 ^ k) 1) 1) s (nearest_whole (m * 2 ^ k) 1) 1
large-value s m k M B =
    let N = m * 2 ^ k in
    let e : N * 2 ^ 1074 ≡ m * 2 ^ (k + 1074) = mul_assoc m (2 ^ k) (2 ^ 1074) ∙ ap (λ (z : ℕ). m * z) (sym (pow-add 2 k 1074)) in
    subst (λ (z : ℕ). HasValue (round binary64 s z 1) s z 1) (nearest_whole-of-whole N)
    (round_exact binary64 s N 1 m (k + 1074) (zero-lt-suc 0) M
    (lt_of_le_of_lt (le_of_eq (sym e)) (lt_of_lt_of_le (mul-lt-mul_of_pos_right B (pow_pos 1074)) (lit≤ tt)))
    (e ∙ sym (mul-one (m * 2 ^ (k + 1074)))))

zero-small : (u d : ℕ) → 0 * u ≤ 9007199254740991 * d
zero-small u d = le_trans (le_of_eq (zero-mul u)) zero-le

under_pow : (m p : ℕ) → m < 9007199254740992 → 0 < p → m * 1 ≤ 9007199254740991 * p
under_pow m p h k = omega arith

pub round_half_away-value : (s : Bool) (m : ℕ) (e : ℤ) → T (fits binary64 (fin s m e)) → HasValue (round_half_away (fin s m e)) s (nearest_whole (m * up e) (down e)) 1
unfolding round_half_away fits
round_half_away-value s zero e F = small-value s (0 * up e) (down e) (zero-small (up e) (down e))
round_half_away-value s (suc m) (pos k) F = large-value s (suc m) k (held (suc m) (pos k) F (zero-lt-suc m)).digits (held (suc m) (pos k) F (zero-lt-suc m)).top
round_half_away-value s (suc m) (negsuc k) F = small-value s (suc m * 1) (2 ^ suc k) (under_pow (suc m) (2 ^ suc k) (held (suc m) (negsuc k) F (zero-lt-suc m)).digits (pow_pos (suc k)))

-- ---- below a half, either way: a zero with x's sign
abbrev pub half : Float
half = fin false 1 (negsuc 0)

not-le→lt : (a b : ℕ) → T (not (ltb a b || (eqb a b && true))) → b < a
not-le→lt a b h = go (ltb a b) (eqb a b) h (nltb→le a b) (λ (e : a ≡ b). subst (λ (z : ℕ). T (eqb a z)) e (eqb_refl a))
  where
    go : (p q : Bool) → T (not (p || (q && true))) → (T (not p) → b ≤ a) → (a ≡ b → T q) → b < a
    go true q t f g = absurd t
    go false true t f g = absurd t
    go false false t f g = lt_of_le-ne (f tt) (λ (e : b ≡ a). g (sym e))

zero-of-small : (s : Bool) (n d : ℕ) → 0 < d → 2 * n < d → round binary64 s (n * (0 * 1)) (d * 1) ≡ round binary64 s (nearest_whole n d) 1
zero-of-small s n d D h =
    round_same binary64 s (n * (0 * 1)) (d * 1) (nearest_whole n d) 1 (subst (λ (z : ℕ). 0 < z) (sym (mul-one d)) D) (zero-lt-suc 0)
    (mul-one (n * 0) ∙ mul-zero n ∙ sym (ap (λ (z : ℕ). z * (d * 1)) (nearest_whole-below-half n d h) ∙ zero-mul (d * 1)))

below_half : (n d : ℕ) → n * 2 < 1 * 1 * d → 2 * n < d
below_half n d h = omega arith

pub round_half_away-small : (x : Float) → T (not (le half x)) → T (not (le half (neg x))) → mul binary64 x (fin false 0 (pos 0)) ≡ round_half_away x
unfolding le neg mul round_half_away
round_half_away-small nan a b = refl
round_half_away-small (inf true) a b = absurd b
round_half_away-small (inf false) a b = absurd a
round_half_away-small (fin true m e) a b = zero-of-small true (m * up e) (down e) (down_pos e) (below_half (m * up e) (down e) (not-le→lt (1 * 1 * down e) (m * up e * 2) b))
round_half_away-small (fin false m e) a b = zero-of-small false (m * up e) (down e) (down_pos e) (below_half (m * up e) (down e) (not-le→lt (1 * 1 * down e) (m * up e * 2) a))

-- Laws of `drift` and `drift_x` over whole numbers, for a slope from -1 to 1 and a column or row up to 2 ^ 15:
--   drift-signed         its sign is the slope's: `pos` for a slope written without a minus, `neg_ℤ` of `pos` with one
--   drift-within         its size is at most c
--   drift-rises          its size never falls as c grows, so that with drift-signed it runs one way
--   drift-step           from c to c + 1 its size stays or grows by one
--   drift-near           it is within 1/2 + 2 ^ -31 of c times the slope
--   drift-by-32-bits     the Rust's cast, to 32 bits, gives the same
--   drift-negated        the negated slope has the negated drift
--   drift_x-is-drift      drift_x is the drift of the negated slope, for any slope and row
--   drift_x-is-negated    so it is the negated drift
--   drift-zero           a slope of 0.0 or -0.0 has the drift 0, at any column
use Rattle.std.proofs.Common.{◌≡◌, ℕ, zero, suc, ◌+◌, ◌-◌, ◌*◌, ◌^◌, ◌<◌, ◌≤◌, Bool, true, false, cond, not, T, eqb, ℤ, pos, neg_ℤ, nat_abs, sym, refl, ap, ◌∙◌, subst, true≢false, le_trans, le_of_lt, zero-lt-suc, mul_assoc, mul_comm, mul-pos, mul-zero, zero-mul, mul-one, mul_left_comm, arith, lit≤, eqb→eq}
use native.Mathlib.Nat.{min-eq_left, le-suc}
use lib.Ieee.{Float, nan, inf, fin, binary64, up, down, round, le, mul, neg, of_int, unlike, fits, to_signed}
use lib.Ieee.Fits.{down_pos, round-fits, neg-fits}
use lib.Ieee.Exact.{HasValue}
use lib.Ieee.Back.{round_whole}
use lib.Ieee.Scale.{round_same}
use lib.Ieee.Positive.{num, den, den_pos}
use Rattle.rounding.specs.rules.Rounding.{nearest_whole, round_half_away, round_to_signed}
use Rattle.rounding.specs.rules.Drift.{drift, drift_x, WithinOne}
use Rattle.rounding.proofs.Tests.{at_most}
use Rattle.rounding.proofs.Signs.{negative, neg-round, mul-neg}
use Rattle.rounding.proofs.RoundedCasts.{round_to_signed-is}
use Rattle.rounding.proofs.RoundBounds.{finite-nonneg}
use Rattle.rounding.proofs.DriftSize.{size, bound, size-le, size_mono, size_step, size-near}

abbrev pub signed : Bool → ℕ → ℤ
signed s n = cond s (neg_ℤ (pos n)) (pos n)

-- ---- the drift is a size with the slope's sign
-- a whole number's float times a finite float
times : (x : Float) (c : ℕ) (s : Bool) (m : ℕ) (e : ℤ) → HasValue x false c 1 → mul binary64 x (fin s m e) ≡ round binary64 s (c * (m * up e)) (down e)
unfolding mul
times nan c s m e v = elim v [ ]
times (inf _) c s m e v = elim v [ ]
times (fin true m' e') c s m e v = absurd (true≢false v.0)
times (fin false m' e') c s m e v =
    ap (λ (t : Bool). round binary64 t (m' * up e' * (m * up e)) (down e' * down e)) (sign s)
    ∙ round_same binary64 s (m' * up e' * (m * up e)) (down e' * down e) (c * (m * up e)) (down e) (mul-pos (down_pos e') (down_pos e)) (down_pos e)
    (mul_assoc (m' * up e') (m * up e) (down e) ∙ ap (λ (z : ℕ). z * (m * up e * down e)) (sym (mul-one (m' * up e')) ∙ v.1) ∙ simp (mul_assoc, mul_comm, mul_left_comm))
  where
    sign : (s : Bool) → unlike false s ≡ s
    sign true = refl
    sign false = refl

product : (c : ℕ) (s : Bool) (m : ℕ) (e : ℤ) → c ≤ 2 ^ 15 → mul binary64 (of_int binary64 (pos c)) (fin s m e) ≡ round binary64 s (c * (m * up e)) (down e)
unfolding of_int
product c s m e C = times (round binary64 false c 1) c s m e (round_whole binary64 false c (le_trans C (lit≤ tt)))

-- a cast to h bits and a sign is wide enough
Wide : ℕ → Type 0
Wide h = 32768 ≤ 2 ^ h - 1

-- it does not cut a product of either sign
uncut : (h : ℕ) → Wide h → (y : Float) → T (fits binary64 y) → T (finite-nonneg y) → nearest_whole (num y) (den y) ≤ 2 ^ 15
    → (round_to_signed h y ≡ pos (nearest_whole (num y) (den y))) × (round_to_signed h (neg y) ≡ neg_ℤ (pos (nearest_whole (num y) (den y))))
unfolding neg Wide
uncut h wide nan F p l = elim p [ ]
uncut h wide (inf _) F p l = elim p [ ]
uncut h wide (fin true m e) F p l = elim p [ ]
uncut h wide (fin false m e) F p l = (
  round_to_signed-is h (fin false m e) F tt ∙ ap pos (min-eq_left (le_trans l wide)),
  round_to_signed-is h (fin true m e) (neg-fits binary64 (fin false m e) F) tt ∙ ap (λ (z : ℕ). neg_ℤ (pos z)) (min-eq_left (le_trans l (omega arith))),
)

cast-of-fin : (h : ℕ) → Wide h → (c : ℕ) (s : Bool) (m : ℕ) (e : ℤ) → c ≤ 2 ^ 15 → m * up e ≤ down e
    → round_to_signed h (mul binary64 (of_int binary64 (pos c)) (fin s m e)) ≡ signed s (size c (m * up e) (down e))
cast-of-fin h wide c s m e C S = ap (round_to_signed h) (product c s m e C) ∙ go s
  where
    both : (round_to_signed h (round binary64 false (c * (m * up e)) (down e)) ≡ pos (size c (m * up e) (down e))) × (round_to_signed h (neg (round binary64 false (c * (m * up e)) (down e))) ≡ neg_ℤ (pos (size c (m * up e) (down e))))
    both = uncut h wide (round binary64 false (c * (m * up e)) (down e)) (round-fits binary64 false (c * (m * up e)) (down e)) (bound (m * up e) (down e) (down_pos e) S c C).0 (le_trans (size-le (m * up e) (down e) (down_pos e) S c C) C)

    go : (s : Bool) → round_to_signed h (round binary64 s (c * (m * up e)) (down e)) ≡ signed s (size c (m * up e) (down e))
    go false = both.0
    go true = ap (round_to_signed h) (sym (neg-round binary64 false (c * (m * up e)) (down e))) ∙ both.1

drift-of-fin : (c : ℕ) (s : Bool) (m : ℕ) (e : ℤ) → c ≤ 2 ^ 15 → m * up e ≤ down e → drift (fin s m e) c ≡ signed s (size c (m * up e) (down e))
unfolding Wide
drift-of-fin = cast-of-fin 63 (lit≤ tt)

-- a slope within one has a size of at most one
tidy_one : (n d : ℕ) → n * 1 ≤ 1 * 1 * d → n ≤ d
tidy_one n d h = omega arith

slope-size : (x : Float) → WithinOne x → num x ≤ den x
unfolding le
slope-size nan w = absurd w.0
slope-size (inf true) w = absurd w.0
slope-size (inf false) w = absurd w.1
slope-size (fin true m e) w = tidy_one (m * up e) (down e) (at_most (m * up e * 1) (1 * 1 * down e) (eqb (1 * 1 * down e) (m * up e * 1)) (λ t. sym (eqb→eq (1 * 1 * down e) (m * up e * 1) t)) w.0)
slope-size (fin false m e) w = tidy_one (m * up e) (down e) (at_most (m * up e * 1) (1 * 1 * down e) (eqb (m * up e * 1) (1 * 1 * down e)) (eqb→eq (m * up e * 1) (1 * 1 * down e)) w.1)

signed_is : (slope : Float) → WithinOne slope → (c : ℕ) → c ≤ 2 ^ 15 → drift slope c ≡ signed (negative slope) (size c (num slope) (den slope))
signed_is nan w c C = absurd (unfold le in w.0)
signed_is (inf true) w c C = absurd (unfold le in w.0)
signed_is (inf false) w c C = absurd (unfold le in w.1)
signed_is (fin s m e) w c C = drift-of-fin c s m e C (slope-size (fin s m e) w)

abs-signed : (s : Bool) (n : ℕ) → nat_abs (signed s n) ≡ n
abs-signed false n = refl
abs-signed true zero = refl
abs-signed true (suc n) = refl

neg-signed : (s : Bool) (n : ℕ) → signed (not s) n ≡ neg_ℤ (signed s n)
neg-signed false n = refl
neg-signed true zero = refl
neg-signed true (suc n) = refl

-- ---- the laws
module _ (slope : Float) (w : WithinOne slope) where
  size_is : (c : ℕ) → c ≤ 2 ^ 15 → nat_abs (drift slope c) ≡ size c (num slope) (den slope)
  size_is c C = ap nat_abs (signed_is slope w c C) ∙ abs-signed (negative slope) (size c (num slope) (den slope))

  pub drift-signed : (c : ℕ) → c ≤ 2 ^ 15 → drift slope c ≡ signed (negative slope) (nat_abs (drift slope c))
  drift-signed c C = signed_is slope w c C ∙ ap (signed (negative slope)) (sym (size_is c C))

  pub drift-within : (c : ℕ) → c ≤ 2 ^ 15 → nat_abs (drift slope c) ≤ c
  drift-within c C = subst (λ (n : ℕ). n ≤ c) (sym (size_is c C)) (size-le (num slope) (den slope) (den_pos slope) (slope-size slope w) c C)

  pub drift-rises : (c c' : ℕ) → c ≤ c' → c' ≤ 2 ^ 15 → nat_abs (drift slope c) ≤ nat_abs (drift slope c')
  drift-rises c c' h C =
      subst (λ (n : ℕ). n ≤ nat_abs (drift slope c')) (sym (size_is c (le_trans h C)))
      (subst (λ (n : ℕ). size c (num slope) (den slope) ≤ n) (sym (size_is c' C)) (size_mono (num slope) (den slope) (den_pos slope) (slope-size slope w) c c' h C))

  pub drift-step : (c : ℕ) → c < 2 ^ 15 → (nat_abs (drift slope c) ≤ nat_abs (drift slope (suc c))) × (nat_abs (drift slope (suc c)) ≤ suc (nat_abs (drift slope c)))
  drift-step c C = (
    drift-rises c (suc c) (le-suc c) C,
    subst (λ (n : ℕ). n ≤ suc (nat_abs (drift slope c))) (sym (size_is (suc c) C))
        (subst (λ (n : ℕ). size (suc c) (num slope) (den slope) ≤ suc n) (sym (size_is c (le_of_lt C))) (size_step (num slope) (den slope) (den_pos slope) (slope-size slope w) c C)),
  )

  -- drift and c * num / den, in units of 2 ^ -32
  pub drift-near : (c : ℕ) → c ≤ 2 ^ 15
      → (nat_abs (drift slope c) * den slope * 2 ^ 32 ≤ c * num slope * 2 ^ 32 + (2 ^ 31 + 2) * den slope)
      × (c * num slope * 2 ^ 32 ≤ nat_abs (drift slope c) * den slope * 2 ^ 32 + (2 ^ 31 + 2) * den slope)
  drift-near c C =
      subst (λ (n : ℕ). (n * den slope * 2 ^ 32 ≤ c * num slope * 2 ^ 32 + (2 ^ 31 + 2) * den slope) × (c * num slope * 2 ^ 32 ≤ n * den slope * 2 ^ 32 + (2 ^ 31 + 2) * den slope))
      (sym (size_is c C)) (size-near (num slope) (den slope) (den_pos slope) (slope-size slope w) c C)

-- the Rust's cast, to 32 bits, gives the same
pub drift-by-32-bits : (slope : Float) → WithinOne slope → (c : ℕ) → c ≤ 2 ^ 15 → round_to_signed 31 (mul binary64 (of_int binary64 (pos c)) slope) ≡ drift slope c
unfolding Wide
drift-by-32-bits nan w c C = absurd (unfold le in w.0)
drift-by-32-bits (inf true) w c C = absurd (unfold le in w.0)
drift-by-32-bits (inf false) w c C = absurd (unfold le in w.1)
drift-by-32-bits (fin s m e) w c C = let S = slope-size (fin s m e) w in cast-of-fin 31 (lit≤ tt) c s m e C S ∙ sym (drift-of-fin c s m e C S)

-- ---- with the sign turned
pub drift-negated : (slope : Float) → WithinOne slope → (c : ℕ) → c ≤ 2 ^ 15 → drift (neg slope) c ≡ neg_ℤ (drift slope c)
unfolding neg
drift-negated nan w c C = absurd (unfold le in w.0)
drift-negated (inf true) w c C = absurd (unfold le in w.0)
drift-negated (inf false) w c C = absurd (unfold le in w.1)
drift-negated (fin s m e) w c C =
    let S = slope-size (fin s m e) w in
    drift-of-fin c (not s) m e C S ∙ neg-signed s (size c (m * up e) (down e)) ∙ ap neg_ℤ (sym (drift-of-fin c s m e C S))

pub drift_x-is-drift : (slope : Float) (r : ℕ) → drift_x slope r ≡ drift (neg slope) r
drift_x-is-drift slope r = ap (round_to_signed 63) (mul-neg binary64 (of_int binary64 (pos r)) slope)

pub drift_x-is-negated : (slope : Float) → WithinOne slope → (r : ℕ) → r ≤ 2 ^ 15 → drift_x slope r ≡ neg_ℤ (drift slope r)
drift_x-is-negated slope w r R = drift_x-is-drift slope r ∙ drift-negated slope w r R

-- ---- no slope: a product that is a zero, or for a column past f64's range a NaN
cast-zero : (s : Bool) → round_to_signed 63 (fin s 0 (pos 0)) ≡ pos 0
unfolding round_half_away round to_signed
cast-zero true = refl
cast-zero false = refl

round-zero : (s : Bool) → round binary64 s 0 1 ≡ fin s 0 (pos 0)
unfolding round
round-zero true = refl
round-zero false = refl

zero-product : (f : Float) (s : Bool) → round_to_signed 63 (mul binary64 f (fin s 0 (pos 0))) ≡ pos 0
unfolding mul
zero-product nan s = unfold round_half_away in unfold to_signed in refl
zero-product (inf t) s = unfold round_half_away in unfold to_signed in refl
zero-product (fin t m e) s = ap (round_to_signed 63) (round_same binary64 (unlike t s) (m * up e * (0 * 1)) (down e * 1) 0 1 (mul-pos (down_pos e) (zero-lt-suc 0)) (zero-lt-suc 0) (none (m * up e) (down e * 1)) ∙ round-zero (unlike t s)) ∙ cast-zero (unlike t s)
  where
    none : (n d : ℕ) → n * (0 * 1) * 1 ≡ 0 * d
    none n d = mul-one (n * 0) ∙ mul-zero n ∙ sym (zero-mul d)

pub drift-zero : (s : Bool) (c : ℕ) → drift (fin s 0 (pos 0)) c ≡ pos 0
drift-zero s c = zero-product (of_int binary64 (pos c)) s

-- What `round` gives for a / b lies where a / b lies, against any k / 2 ^ t that f64 holds.
use Rattle.std.proofs.Common.{◌≡◌, ℕ, zero, suc, ◌+◌, ◌-◌, ◌*◌, ◌^◌, ◌<◌, ◌≤◌, Bool, true, false, cond, not, T, eqb, ltb, sym, refl, ap, ◌∙◌, subst, lt_of_lt_of_le, mul_assoc, arith, eqb→eq, pow_pos, pow_mono, pow-add, shl_lt}
use lib.Ieee.{Float, nan, inf, fin, Format, binary64, prec, low, emax, up, down, odd, units, round, le}
use lib.Ieee.Fits.{round_is}
use lib.Ieee.Exact.{HasValue, round_exact}
use lib.Ieee.Order.{round_mono, transfer}
use lib.Ieee.Positive.{num, den, den_pos}
use Rattle.rounding.proofs.Tests.{at_most}

-- ---- `round f false` is not negative, and no NaN
abbrev nonneg : Float → Bool
nonneg nan = false
nonneg (inf s) = not s
nonneg (fin s m e) = not s

abbrev pub finite-nonneg : Float → Bool
finite-nonneg nan = false
finite-nonneg (inf s) = false
finite-nonneg (fin s m e) = not s

odd-nonneg : (d q k l : ℕ) → T (nonneg (odd d false q k l))
unfolding odd
odd-nonneg d zero k l = tt
odd-nonneg d (suc q) k l = tt

units-nonneg : (f : Format) (q k : ℕ) → T (nonneg (units f false q k))
unfolding units
units-nonneg f q k = go (ltb (q * 2 ^ k) (2 ^ (low f + suc (emax f))))
  where
    go : (b : Bool) → T (nonneg (cond b (odd (suc (prec f)) false q k (low f)) (inf false)))
    go true = odd-nonneg (suc (prec f)) q k (low f)
    go false = tt

round-nonneg : (f : Format) (a b : ℕ) → T (nonneg (round f false a b))
round-nonneg f a b = subst (λ (z : Float). T (nonneg z)) (sym (round_is f false a b)) (units-nonneg f _ _)

-- ---- the order of two such values, as one of fractions
cross : (x y : Float) → T (finite-nonneg x) → T (finite-nonneg y) → T (le x y) → num x * den y ≤ num y * den x
unfolding le
cross nan y p q h = elim p [ ]
cross (inf _) y p q h = elim p [ ]
cross (fin false m e) nan p q h = elim q [ ]
cross (fin false m e) (inf _) p q h = elim q [ ]
cross (fin false m e) (fin true n d) p q h = elim q [ ]
cross (fin true m e) y p q h = elim p [ ]
cross (fin false m e) (fin false n d) p q h = at_most (m * up e * down d) (n * up d * down e) (eqb (m * up e * down d) (n * up d * down e)) (eqb→eq (m * up e * down d) (n * up d * down e)) h

finite-below : (x y : Float) → T (nonneg x) → T (finite-nonneg y) → T (le x y) → T (finite-nonneg x)
unfolding le
finite-below nan y p q h = elim p [ ]
finite-below (inf false) nan p q h = elim q [ ]
finite-below (inf false) (inf _) p q h = elim q [ ]
finite-below (inf true) y p q h = elim p [ ]
finite-below (fin true m e) y p q h = elim p [ ]
finite-below (inf false) (fin s n d) p q h = absurd h
finite-below (fin false m e) y p q h = tt

finite-of-value : (x : Float) (a c : ℕ) → HasValue x false a c → T (finite-nonneg x)
finite-of-value nan a c v = elim v [ ]
finite-of-value (inf _) a c v = elim v [ ]
finite-of-value (fin true m e) a c v = absurd (mathlib.Core.Bool.true≢false v.0)
finite-of-value (fin false m e) a c v = tt

value-cross : (x : Float) (a c : ℕ) → HasValue x false a c → num x * c ≡ a * den x
value-cross nan a c v = elim v [ ]
value-cross (inf _) a c v = elim v [ ]
value-cross (fin s m e) a c v = v.1

-- ---- k / 2 ^ t is a value of the format
join : (t : ℕ) → t ≤ 1074 → 1074 - t + t ≡ 1074
join t h = omega arith

held : (k t : ℕ) → k < 2 ^ 53 → t ≤ 1074 → HasValue (round binary64 false k (2 ^ t)) false k (2 ^ t)
held k t K H =
    let j = 1074 - t in
    round_exact binary64 false k (2 ^ t) k j (pow_pos t) K
    (lt_of_lt_of_le (shl_lt 53 j K) (pow_mono (room t)))
    (ap (λ (z : ℕ). k * z) (ap (λ (z : ℕ). 2 ^ z) (sym (join t H)) ∙ pow-add 2 j t) ∙ sym (mul_assoc k (2 ^ j) (2 ^ t)))
  where
    room : (t : ℕ) → 53 + (1074 - t) ≤ 1074 + 1024
    room t = omega arith

module _ (k t a b : ℕ) (K : k < 2 ^ 53) (H : t ≤ 1074) (B : 0 < b) where
  abbrev y : Float
  y = round binary64 false a b

  abbrev g : Float
  g = round binary64 false k (2 ^ t)

  -- the cross product at g, moved to k / 2 ^ t
  pub round-at-most : a * 2 ^ t ≤ k * b → T (finite-nonneg y) × (num y * 2 ^ t ≤ k * den y)
  round-at-most h =
      let l : T (le y g) = round_mono binary64 a b k (2 ^ t) B (pow_pos t) h in
      let v = held k t K H in
      let p : T (finite-nonneg y) = finite-below y g (round-nonneg binary64 a b) (finite-of-value g k (2 ^ t) v) l in
      (p, transfer (num y) k (den y) (2 ^ t) (num y) (num g) (den y) (den g) (den_pos y) (den_pos g) refl (sym (value-cross g k (2 ^ t) v)) (cross y g p (finite-of-value g k (2 ^ t) v) l))

  pub round-at-least : T (finite-nonneg y) → k * b ≤ a * 2 ^ t → k * den y ≤ num y * 2 ^ t
  round-at-least p h =
      let l : T (le g y) = round_mono binary64 k (2 ^ t) a b (pow_pos t) B h in
      let v = held k t K H in
      transfer k (num y) (2 ^ t) (den y) (num g) (num y) (den g) (den y) (den_pos g) (den_pos y) (sym (value-cross g k (2 ^ t) v)) refl (cross g y (finite-of-value g k (2 ^ t) v) p l)

pub round-in-order : (a b c d : ℕ) → 0 < b → 0 < d → a * d ≤ c * b → T (finite-nonneg (round binary64 false a b)) → T (finite-nonneg (round binary64 false c d))
    → num (round binary64 false a b) * den (round binary64 false c d) ≤ num (round binary64 false c d) * den (round binary64 false a b)
round-in-order a b c d B D h p q = cross (round binary64 false a b) (round binary64 false c d) p q (round_mono binary64 a b c d B D h)

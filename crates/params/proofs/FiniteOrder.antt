-- Two finite floats are in order, one way or the other.
use mathlib.Core.Path.{◌≡◌}
use mathlib.Core.Bool.{Bool, true, false, not, ◌&&◌, ◌||◌}
use Prim.Native.Nat.{ℕ, ◌+◌, ◌*◌, ◌≤◌}
use native.Mathlib.Nat.{le_antisymm}
use native.Mathlib.Omega.{arith}
use lib.Dec.{T, ltb, eqb, nltb→le}
use lib.Ieee.{Float, fin, up, down, lt, le}
use lib.Ieee.Fits.{eq→eqb, and_i}
use lib.Ieee.Scale.{finite}

or_else : (p q : Bool) → (T (not p) → T q) → T (p || q)
or_else true q f = tt
or_else false q f = f tt

-- the sizes a and b of two floats of one sign, or of two signs
equal-sizes : (a b : ℕ) → a ≤ b → b ≤ a → T (eqb b a && true)
equal-sizes a b h k = and_i (eqb b a) true (eq→eqb (le_antisymm k h)) tt

no-sizes : (a b : ℕ) → a + b ≤ 0 → T (eqb b a && eqb b 0)
no-sizes a b h =
    let same : b ≡ a = omega arith in
    let none : b ≡ 0 = omega arith in
    and_i (eqb b a) (eqb b 0) (eq→eqb same) (eq→eqb none)

pub not-lt→le : (x y : Float) → T (finite x) → T (finite y) → T (not (lt x y)) → T (le y x)
unfolding le lt
not-lt→le lib.Ieee.nan y p q t = elim p [ ]
not-lt→le (lib.Ieee.inf _) y p q t = elim p [ ]
not-lt→le (fin false m e) lib.Ieee.nan p q t = elim q [ ]
not-lt→le (fin false m e) (lib.Ieee.inf _) p q t = elim q [ ]
not-lt→le (fin true m e) lib.Ieee.nan p q t = elim q [ ]
not-lt→le (fin true m e) (lib.Ieee.inf _) p q t = elim q [ ]
not-lt→le (fin false m e) (fin false n d) p q t =
    let a = m * up e * down d in
    let b = n * up d * down e in
    or_else (ltb b a) (eqb b a && true) (λ f. equal-sizes a b (nltb→le b a f) (nltb→le a b t))
not-lt→le (fin false m e) (fin true n d) p q t =
    let a = m * up e * down d in
    let b = n * up d * down e in
    or_else (ltb 0 (b + a)) (eqb b a && eqb b 0) (λ f. no-sizes a b (swapped b a (nltb→le 0 (b + a) f)))
  where
    swapped : (b a : ℕ) → b + a ≤ 0 → a + b ≤ 0
    swapped b a h = omega arith
not-lt→le (fin true m e) (fin false n d) p q t =
    let a = m * up e * down d in
    let b = n * up d * down e in
    no-sizes a b (nltb→le 0 (a + b) t)
not-lt→le (fin true m e) (fin true n d) p q t =
    let a = m * up e * down d in
    let b = n * up d * down e in
    or_else (ltb a b) (eqb b a && true) (λ f. equal-sizes a b (nltb→le b a t) (nltb→le a b f))

decided : (b : Bool) → (T (not b) → ⊥) → T b
decided true f = tt
decided false f = absurd (f tt)

refuted : (b : Bool) → T b → T (not b) → ⊥
refuted true t f = f
refuted false t f = t

pub not-le→lt : (x y : Float) → T (finite x) → T (finite y) → T (not (le x y)) → T (lt y x)
not-le→lt x y p q t = decided (lt y x) (λ f. refuted (le x y) (not-lt→le y x q p f) t)

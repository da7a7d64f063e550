-- Differences of natural numbers as integers, the lesser of two integers, and how the machine keeps them.
use mathlib.Core.Path.{◌≡◌, refl, sym, ap, ◌∙◌, subst}
use Prim.Native.Nat.{ℕ, zero, suc, ◌+◌, ◌-◌, ◌≤◌, ◌<◌, min, max}
use native.Mathlib.Decide.{dec_le}
use native.Mathlib.Omega.{arith}
use borrow.Author.Tests.{lt-ltb, le-ltb}
use lib.Dec.{T}
use lib.Signed.{non_neg}
use mir.Syntax.{w32, w64}
use mir.Val.{Fits, SFits, to_z, of_z}
use mir.ValLaws.{to_z-of_z}
use lib.IntN.{ℤ, pos, negsuc, sub_ℕ, neg_ℤ, nat_abs, ◌-ℤ◌, pos-ne-negsuc}
use Rattle.levelling.specs.rules.Shears.{minℤ, natural}

-- ---- differences
pub sub-at-least : (a b : ℕ) → b ≤ a → sub_ℕ a b ≡ pos (a - b)
sub-at-least a b l = rw (le-ltb a b l)

pub sub-added : (c s : ℕ) → sub_ℕ (c + s) s ≡ pos c
sub-added c s = sub-at-least (c + s) s (omega arith) ∙ ap pos (let e : c + s - s ≡ c = omega arith in e)

pub sub-is-pos : (a b n : ℕ) → sub_ℕ a b ≡ pos n → (b ≤ a) × (a - b ≡ n)
sub-is-pos a b n e = go (dec_le b a)
  where
    go : Dec (b ≤ a) → (b ≤ a) × (a - b ≡ n)
    go (yes l) = (l, ap natural (sym (sub-at-least a b l) ∙ e))
    go (no l) = absurd (let z : negsuc (b - suc a) ≡ pos n = sym (rw (lt-ltb a b (omega arith))) ∙ e in pos-ne-negsuc n (b - suc a) (sym z))

pub minus-zero : (a : ℕ) → pos a -ℤ pos 0 ≡ pos a
minus-zero a = ap pos (let e : a + 0 ≡ a = omega arith in e)

pub minus_negated : (a b : ℕ) → a ≤ b → neg_ℤ (pos a) -ℤ neg_ℤ (pos b) ≡ pos (b - a)
minus_negated zero zero l = refl
minus_negated (suc a) zero l = absurd (omega arith)
minus_negated zero (suc b) l = ap pos (let e : 0 + suc b ≡ suc b - 0 = omega arith in e)
minus_negated (suc a) (suc b) l = sub-at-least (suc b) (suc a) l

pub nat_abs-negated : (z : ℤ) → nat_abs (neg_ℤ z) ≡ nat_abs z
nat_abs-negated (pos zero) = refl
nat_abs-negated (pos (suc n)) = refl
nat_abs-negated (negsuc n) = refl

-- ---- the lesser of two
pub lesser-comm : (a b : ℤ) → minℤ a b ≡ minℤ b a
lesser-comm (pos a) (pos b) = ap pos (let e : min a b ≡ min b a = omega arith in e)
lesser-comm (pos a) (negsuc b) = refl
lesser-comm (negsuc a) (pos b) = refl
lesser-comm (negsuc a) (negsuc b) = ap negsuc (let e : max a b ≡ max b a = omega arith in e)

pub lesser-assoc : (a b c : ℤ) → minℤ (minℤ a b) c ≡ minℤ a (minℤ b c)
lesser-assoc (pos a) (pos b) (pos c) = ap pos (let e : min (min a b) c ≡ min a (min b c) = omega arith in e)
lesser-assoc (pos a) (pos b) (negsuc c) = refl
lesser-assoc (pos a) (negsuc b) (pos c) = refl
lesser-assoc (pos a) (negsuc b) (negsuc c) = refl
lesser-assoc (negsuc a) (pos b) (pos c) = refl
lesser-assoc (negsuc a) (pos b) (negsuc c) = refl
lesser-assoc (negsuc a) (negsuc b) (pos c) = refl
lesser-assoc (negsuc a) (negsuc b) (negsuc c) = ap negsuc (let e : max (max a b) c ≡ max a (max b c) = omega arith in e)

pub lesser-same : (a : ℤ) → minℤ a a ≡ a
lesser-same (pos a) = ap pos (let e : min a a ≡ a = omega arith in e)
lesser-same (negsuc a) = ap negsuc (let e : max a a ≡ a = omega arith in e)

pub zero-lesser : (a : ℕ) → minℤ (pos a) (pos 0) ≡ pos 0
zero-lesser a = ap pos (let e : min a 0 ≡ 0 = omega arith in e)

pub negated-lesser : (a b : ℕ) → a ≤ b → minℤ (neg_ℤ (pos a)) (neg_ℤ (pos b)) ≡ neg_ℤ (pos b)
negated-lesser zero zero l = ap pos (let e : min 0 0 ≡ 0 = omega arith in e)
negated-lesser (suc a) zero l = absurd (omega arith)
negated-lesser zero (suc b) l = refl
negated-lesser (suc a) (suc b) l = ap negsuc (let e : max a b ≡ b = omega arith in e)

-- ---- a difference of two words, as the machine has it
pub natural-sub : (a b : ℕ) → natural (sub_ℕ a b) ≡ a - b
natural-sub a b = go (dec_le b a)
  where
    go : Dec (b ≤ a) → natural (sub_ℕ a b) ≡ a - b
    go (yes l) = ap natural (sub-at-least a b l)
    go (no l) = rw (lt-ltb a b (omega arith)) (let e : 0 ≡ a - b = omega arith in e)

-- a signed number that is not below 0, and small: it may be cast to an unsigned one
module _ {z : ℤ} {n : ℕ} (e : z ≡ pos n) (small : n < 2147483648) where
  pub natural-fits : SFits w64 z
  natural-fits = subst (SFits w64) (sym e) (record { sfits = omega arith })

  pub natural-kept : to_z w64 (of_z w64 z) ≡ pos n
  natural-kept = ap (λ v. to_z w64 (of_z w64 v)) e ∙ to_z-of_z w64 (pos n) (record { sfits = omega arith })

  pub natural_casts : T (non_neg (to_z w64 (of_z w64 z))) × Fits w32 (nat_abs (to_z w64 (of_z w64 z)))
  natural_casts = subst (λ v. T (non_neg v) × Fits w32 (nat_abs v)) (sym natural-kept) (tt, record { fits = omega arith })

-- The greatest entry of a list.
use mathlib.Core.Path.{◌≡◌, ap, ◌∙◌}
use mathlib.Core.List.{List, [], ◌∷◌, ◌++◌}
use Prim.Native.Nat.{ℕ, zero, suc, ◌+◌, ◌≤◌, ◌<◌, max}
use native.Mathlib.Nat.{le_refl}
use native.Mathlib.Omega.{arith}
use native.Mathlib.Numerals.{add-one}
use lib.ListN.{get_or, length}
use Rattle.memory.specs.rules.Lists.{table, greatest}

greatest-snoc : (l : List ℕ) (a : ℕ) → greatest (l ++ (a ∷ [])) ≡ max (greatest l) a
unfolding greatest
greatest-snoc [] a = let e : max a 0 ≡ max 0 a = omega arith in e
greatest-snoc (b ∷ l) a = let e = greatest-snoc l a in omega arith

pub greatest-more : (f : ℕ → ℕ) (n : ℕ) → greatest (table f (n + 1)) ≡ max (greatest (table f n)) (f n)
unfolding table
greatest-more f n = ap (λ k. greatest (table f k)) (add-one n) ∙ greatest-snoc (table f n) (f n)

pub greatest-bounds : (l : List ℕ) (i : ℕ) → get_or l i 0 ≤ greatest l
unfolding greatest
greatest-bounds [] i = le_refl 0
greatest-bounds (a ∷ l) zero = let e : a ≤ max a (greatest l) = omega arith in e
greatest-bounds (a ∷ l) (suc i) = let e = greatest-bounds l i in omega arith

pub greatest-at-most : (l : List ℕ) (b : ℕ) → ((i : ℕ) → i < length l → get_or l i 0 ≤ b) → greatest l ≤ b
unfolding greatest
greatest-at-most [] b h = omega arith
greatest-at-most (a ∷ l) b h = let e = greatest-at-most l b (λ i k. h (suc i) (omega arith)) in let f = h 0 (omega arith) in omega arith

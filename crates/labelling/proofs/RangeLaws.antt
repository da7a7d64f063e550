-- What a loop has seen of a range of numbers, with one more.
use mathlib.Core.Path.{◌≡◌, sym, subst}
use Prim.Native.Nat.{ℕ, ◌+◌, ◌≤◌, ◌<◌}
use native.Mathlib.Decide.{ℕ_discrete}
use native.Mathlib.Omega.{arith}

pub range_none : (P : ℕ → Type 0) (i : ℕ) (a : ℕ) → i ≤ a → a < i → P a
range_none P i a l h = absurd (omega arith)

pub range-more : (P : ℕ → Type 0) (i k : ℕ) → ((a : ℕ) → i ≤ a → a < k → P a) → P k → (a : ℕ) → i ≤ a → a < k + 1 → P a
range-more P i k h p a l₁ l₂ = go (ℕ_discrete a k)
  where
    go : Dec (a ≡ k) → P a
    go (yes e) = subst P (sym e) p
    go (no ne) = h a l₁ (omega arith)

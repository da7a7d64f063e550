-- What a function leaves of a slice of words: the words it wrote, and all others as they were.
use Rattle.std.specs.Prelude.{◌≡◌, List, ℕ, ◌+◌, ◌≤◌, ◌<◌, get_or, length}

-- s' is s but for the words from a up to e
pub record Within (a e : ℕ) (s s' : List ℕ) : Type 0 where
  pub len : length s' ≡ length s
  pub before : (i : ℕ) → i < a → get_or s' i 0 ≡ get_or s i 0
  pub past : (i : ℕ) → e ≤ i → get_or s' i 0 ≡ get_or s i 0

-- s' is s with f 0, f 1, .., n of them, from word `at` on
pub record Stored (f : ℕ → ℕ) (at n : ℕ) (s s' : List ℕ) : Type 0 where
  pub within : Within at (at + n) s s'
  pub each : (i : ℕ) → i < n → get_or s' (at + i) 0 ≡ f i

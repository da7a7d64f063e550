-- What the functions hand on to each other: counts by value.
use Rattle.std.specs.Prelude.{◌≡◌, List, get_or, length, ℕ}
use Rattle.memory.specs.rules.Lists.{occurs}

-- counts by value of the n entries of a list
pub record CountsOf (counts : List ℕ) (n : ℕ) (l : List ℕ) : Type 0 where
  pub size : length l ≡ n
  pub each : (v : ℕ) → get_or counts v 0 ≡ occurs v l

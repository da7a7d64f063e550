-- What numbering gives: f is any naming of the runs that their parents lead to.
use Rattle.std.specs.Prelude.{◌≡◌, List, ℕ, ◌+◌, ◌≤◌, ◌<◌, min, get_or, length, set}
use Rattle.memory.specs.rules.Lists.{count_if}
use Rattle.union_find.specs.stages.Forests.{Forest}
use Rattle.labelling.specs.stages.InkRuns.{is_root, component_number}

-- run k: its own parent, or not
pub record NumberedOne (p p' : List ℕ) (k count r : ℕ) : Type 0 where
  pub len : length p' ≡ length p
  pub new : get_or p k 0 ≡ k → (r ≡ count + 1) × (p' ≡ set p k (count + 1))
  pub old : (get_or p k 0 ≡ k → ⊥) → (r ≡ count) × (p' ≡ set p k (get_or p (get_or p k 0) 0))

-- r is the count of components, or capacity + 1 where there are more; if not, p' has the number of each run's component
pub record Numbered (c capacity : ℕ) (p p' : List ℕ) (r : ℕ) : Type 0 where
  pub len : length p' ≡ length p
  pub count : (f : ℕ → ℕ) → ((k : ℕ) → f k ≤ k) → Forest f p c → r ≡ min (count_if (is_root f) c) (capacity + 1)
  pub numbers : (f : ℕ → ℕ) → ((k : ℕ) → f k ≤ k) → Forest f p c → r ≤ capacity → (k : ℕ) → k < c → get_or p' k 0 ≡ component_number f k

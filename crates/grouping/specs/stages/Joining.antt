-- What the walk over the pairs of lines keeps: the least gap of a line so far, a union-find over the lines (crate labelling, Forests).
use Rattle.std.specs.Prelude.{ℕ, min, ◌≤◌, ◌<◌, List, [], ◌∷◌, ◌≡◌, Bool, true, Float, length}
use Rattle.union_find.specs.rules.Chains.{Chain}
use Rattle.union_find.specs.stages.Forests.{Forest}
use Rattle.grouping.specs.rules.Blocks.{candidates}
use Rattle.grouping.specs.rules.HeldLines.{line_box}

-- the least of some numbers and d
unfoldable pub least_with : ℕ → List ℕ → ℕ
least_with d [] = d
least_with d (g ∷ l) = least_with (min d g) l

-- lines a before b belong together: a gap at most the limit, and overlapping
abbrev pub joins : Float → ℕ → List ℕ → ℕ → ℕ → Bool
joins overlap limit lines a b = candidates overlap limit (line_box lines a) (line_box lines b)

-- half way: the numbers below i have been joined with those after them, and i with those below j
pub record Pairs (r : ℕ → ℕ → Bool) (n : ℕ) (f : ℕ → ℕ) (i j : ℕ) : Type 0 where
  pub low : (k : ℕ) → f k ≤ k
  pub idem : (k : ℕ) → f (f k) ≡ f k
  pub sound : (k : ℕ) → Chain r n k (f k)
  pub full : (a b : ℕ) → a < i → a < b → b < n → r a b ≡ true → f a ≡ f b
  pub seen : (b : ℕ) → i < b → b < j → b < n → r i b ≡ true → f i ≡ f b

-- the parents p lead each of the n numbers to the first of its class so far
pub record Joined (r : ℕ → ℕ → Bool) (n : ℕ) (p : List ℕ) (i j : ℕ) : Type 0 where
  pub rep : ℕ → ℕ
  pub pairs : Pairs r n rep i j
  pub forest : Forest rep p n
  pub room : n ≤ length p

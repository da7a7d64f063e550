-- What the sizes of the components are made of, span by span.
use Rattle.std.specs.Prelude.{◌≡◌, cond, List, ◌++◌, ℕ, suc, ◌+◌, ◌-◌, ◌*◌, ◌/◌, ◌≤◌, ◌<◌, min, get_or, length, take, drop, ltb}
use Rattle.memory.specs.rules.Lists.{table, count_if}
use Rattle.memory.specs.rules.Words.{over}
use Rattle.memory.specs.rules.Records.{encoded}
use Rattle.memory.specs.rules.Limits.{max_mask_side, max_mask_dots, max_capacity}
use Rattle.labelling.specs.rules.Components.{no_dots}
use Rattle.labelling.specs.stages.Absorbing.{absorbed_span}
use Rattle.labelling.specs.stages.InkRuns.{start_of, end_of, is_root, component_number, component_runs}
use Rattle.labelling.specs.stages.Linking.{RunList, first_run}
use Rattle.labelling.specs.stages.Sizes.{size_words}
use Rattle.labelling.specs.declared.component.Component.{Component}

-- area and box that five words hold, with no sums
abbrev pub size_of : List ℕ → Component
size_of s = record { area = get_or s 0 0; x0 = get_or s 1 0; y0 = get_or s 2 0; x1 = get_or s 3 0; y1 = get_or s 4 0; sum_x = 0; sum_y = 0 }

-- the size of a component so far, where `count` have one
unfoldable pub held_size : List ℕ → ℕ → ℕ → Component
held_size s number count = cond (ltb count number) no_dots (size_of (take 5 (drop ((number - 1) * 5) s)))

-- the words with a span of row y absorbed: so many dots, from column x to column `last`
abbrev pub resized : List ℕ → ℕ → ℕ → ℕ → ℕ → ℕ → ℕ → List ℕ
resized s number count x last dots y =
    take ((number - 1) * 5) s ++ (size_words (absorbed_span (held_size s number count) x last dots 0 y) ++ drop ((number - 1) * 5 + 5) s)

-- a span within a row, a number that has room, and a size that has
pub record SpanSizable (s : List ℕ) (number count x last dots y : ℕ) : Type 0 where
  pub counted : 0 < number
  pub room : number * 5 ≤ length s
  pub order : x ≤ last
  pub narrow : last < max_mask_side
  pub few : dots ≤ max_mask_side
  pub low : y ≤ max_mask_dots
  pub small : (held_size s number count).area ≤ max_mask_dots

-- the words of the components' sizes, of the first k of the c runs that the words s hold
abbrev pub sizes : ℕ → ℕ → List ℕ → ℕ → List ℕ
sizes w c s k =
    encoded size_words
    (table (λ q. component_runs w (start_of (take (2 * c) s)) (end_of (take (2 * c) s) 0) (first_run w c (take (2 * c) s)) (suc q) k)
    (count_if (is_root (first_run w c (take (2 * c) s))) k))

-- runs of a plane, w wide and h high, with the numbers of their components behind them, and from `at` on room for a size of each
pub record Sizable (w h c : ℕ) (s : List ℕ) (at : ℕ) : Type 0 where
  pub list : RunList w c s
  pub dots : w * h ≤ max_mask_dots
  pub within : (k : ℕ) → k < c → end_of (take (2 * c) s) 0 k ≤ w * h
  pub row : (k i : ℕ) → k < c → start_of (take (2 * c) s) k ≤ i → i < end_of (take (2 * c) s) 0 k → i / w ≡ start_of (take (2 * c) s) k / w
  pub numbers : (k : ℕ) → k < c → get_or s (2 * c + k) 0 ≡ component_number (first_run w c (take (2 * c) s)) k
  pub before : 3 * c ≤ at
  pub room : at + count_if (is_root (first_run w c (take (2 * c) s))) c * 5 ≤ length s

-- the components of the first k runs have their sizes
pub record SizeSweep (w h c at : ℕ) (s₀ s : List ℕ) (k count : ℕ) : Type 0 where
  pub asks : Sizable w h c s₀ at
  pub upto : k ≤ c
  pub count_is : count ≡ count_if (is_root (first_run w c (take (2 * c) s₀))) k
  pub words : s ≡ take at s₀ ++ over (sizes w c s₀ k) (drop at s₀)

-- and row y is next, which run k lies in or past
pub record RowSizable (w h c : ℕ) (s : List ℕ) (at y k count : ℕ) : Type 0 where
  pub s₀ : List ℕ
  pub sweep : SizeSweep w h c at s₀ s k count
  pub low : y < h
  pub from : k < c → y * w ≤ start_of (take (2 * c) s) k

-- the components of the runs up to `next` have their sizes too, and that one lies in a row further down
pub record RowSized (w c : ℕ) (s s' : List ℕ) (at y k count next count' : ℕ) : Type 0 where
  pub sized : (h : ℕ) (s₀ : List ℕ) → SizeSweep w h c at s₀ s k count → SizeSweep w h c at s₀ s' next count'
  pub past : next < c → y * w + w ≤ start_of (take (2 * c) s) next

-- runs of a plane, w wide and h high, to be numbered
pub record RunsNumberable (w h c capacity : ℕ) (s : List ℕ) : Type 0 where
  pub list : RunList w c s
  pub low : h ≤ max_mask_side
  pub inside : (k : ℕ) → k < c → start_of s k < h * w
  pub few : capacity ≤ max_capacity

-- r is the count of components, or capacity + 1 where there are more; if not, the number of each run's component stands behind the runs
pub record RunsNumbered (w c capacity : ℕ) (s s' : List ℕ) (r : ℕ) : Type 0 where
  pub len : length s' ≡ length s
  pub runs : take (2 * c) s' ≡ take (2 * c) s
  pub count : r ≡ min (count_if (is_root (first_run w c (take (2 * c) s))) c) (capacity + 1)
  pub numbers : r ≤ capacity → (k : ℕ) → k < c → get_or s' (2 * c + k) 0 ≡ component_number (first_run w c (take (2 * c) s)) k

-- The components of any mask in scratch: its runs, the number of each run's component, and the size of each component.
use Rattle.std.specs.Prelude.{◌≡◌, List, [], ◌∷◌, ℕ, ◌+◌, ◌*◌, ◌≤◌, ◌<◌, min, get_or, length, take, drop}
use Rattle.memory.specs.rules.Records.{encoded}
use Rattle.memory.specs.rules.Limits.{max_mask_side, max_mask_dots, max_capacity}
use Rattle.labelling.specs.stages.InkRuns.{turns, run_count, start_of}
use Rattle.labelling.specs.rules.Labels.{labelling}
use Rattle.labelling.specs.declared.component.Component.{Component}

-- area and box of a component, five words: what the kinds are told by
abbrev pub size_words : Component → List ℕ
size_words c = c.area ∷ c.x0 ∷ c.y0 ∷ c.x1 ∷ c.y1 ∷ []

-- the words s start with the c runs of the mask m
pub record HoldsRuns (w h : ℕ) (m s : List ℕ) (c : ℕ) : Type 0 where
  pub count : c ≡ run_count w m (w * h)
  pub runs : take (2 * c) s ≡ turns w m (w * h)

-- behind its runs the number of each run's component: the label of its first dot
pub record HoldsNumbers (w h : ℕ) (m s : List ℕ) (c : ℕ) : Type 0 where
  pub held : HoldsRuns w h m s c
  pub numbers : (k : ℕ) → k < c → get_or s (2 * c + k) 0 ≡ get_or (labelling w h m).labels (start_of (turns w m (w * h)) k) 0

-- the sizes of these components, from word `at` on
abbrev pub HoldsSizes : List Component → List ℕ → ℕ → Type 0
HoldsSizes cs s at = take (5 * length cs) (drop at s) ≡ encoded size_words cs

-- the runs of a mask within the limits, with room for their parents before `at` and for P sizes from there on
pub record SizesRoom (w h : ℕ) (m s : List ℕ) (c P at : ℕ) : Type 0 where
  pub wide : 0 < w
  pub narrow : w ≤ max_mask_side
  pub low : h ≤ max_mask_side
  pub dots : w * h ≤ max_mask_dots
  pub few : P ≤ max_capacity
  pub held : HoldsRuns w h m s c
  pub before : 3 * c ≤ at
  pub room : at + 5 * P ≤ length s

-- r is the count of components, or P + 1 where there are more; if not, numbers and sizes stand in their places; all else is as it was
pub record SizesLeft (w h : ℕ) (m s s' : List ℕ) (c P at r : ℕ) : Type 0 where
  pub len : length s' ≡ length s
  pub count : r ≡ min (length (labelling w h m).components) (P + 1)
  pub numbered : r ≤ P → HoldsNumbers w h m s' c
  pub sizes : r ≤ P → HoldsSizes (labelling w h m).components s' at
  pub between : (i : ℕ) → 3 * c ≤ i → i < at → get_or s' i 0 ≡ get_or s i 0
  pub beyond : drop (at + 5 * P) s' ≡ drop (at + 5 * P) s

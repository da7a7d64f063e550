-- The plane of kinds: the ink copied, and each run after the cut painted with the kind of its component.
use Rattle.std.specs.Prelude.{◌≡◌, cond, List, ◌++◌, ℕ, ◌+◌, ◌-◌, ◌*◌, ◌≤◌, ◌<◌, get_or, length, drop}
use Rattle.memory.specs.rules.Lists.{table}
use Rattle.memory.specs.rules.Masks.{is_ink}
use Rattle.labelling.specs.rules.Labels.{labelling}
use Rattle.labelling.specs.stages.InkRuns.{start_of, end_of}
use Rattle.labelling.specs.stages.Sizes.{HoldsNumbers}
use Rattle.segmenting.specs.stages.Held.{held_kind}

-- the kind of dot i of an ink plane: that of its component in the mask m, by its label, or its own byte where m is blank
unfoldable pub painted_kind : List ℕ → List ℕ → List ℕ → ℕ → List ℕ → ℕ → ℕ
painted_kind m labels s kinds ink i = cond (is_ink m i) (held_kind s kinds (get_or labels i 0 - 1)) (get_or ink i 0)

-- dots with their f over the front, up to dot i
abbrev pub PaintedTo : (ℕ → ℕ) → List ℕ → List ℕ → ℕ → Type 0
PaintedTo f l₀ l i = l ≡ table f i ++ drop i l₀

-- run k of these runs, behind the dots up to `done`, its number that of a component whose kind is held
pub record RunPaintable (s : List ℕ) (runs kinds k done : ℕ) (ink out : List ℕ) : Type 0 where
  pub below : k < runs
  pub room : 3 * runs ≤ length s
  pub behind : done ≤ start_of s k
  pub some : start_of s k ≤ end_of s 0 k
  pub within : end_of s 0 k ≤ length ink
  pub plane : length ink ≤ length out
  pub number : 0 < get_or s (2 * runs + k) 0
  pub kind : kinds + get_or s (2 * runs + k) 0 ≤ length s

-- it is painted where f has the ink before it and its kind on it
pub record RunPainted (s : List ℕ) (runs kinds k done : ℕ) (ink l l' : List ℕ) (r : ℕ) : Type 0 where
  pub len : length l' ≡ length l
  pub end : r ≡ end_of s 0 k
  pub painted : (f : ℕ → ℕ) (l₀ : List ℕ) → PaintedTo f l₀ l done → ((i : ℕ) → done ≤ i → i < start_of s k → f i ≡ get_or ink i 0)
      → ((i : ℕ) → start_of s k ≤ i → i < end_of s 0 k → f i ≡ held_kind s kinds (get_or s (2 * runs + k) 0 - 1)) → PaintedTo f l₀ l' (end_of s 0 k)

-- an ink plane w wide and h high, the runs of a mask with their numbers, and a kind for each of its components
pub record Paintable (w h : ℕ) (m ink s : List ℕ) (runs kinds : ℕ) (out : List ℕ) : Type 0 where
  pub wide : 0 < w
  pub plane : length ink ≡ w * h
  pub numbered : HoldsNumbers w h m s runs
  pub room : 3 * runs ≤ length s
  pub kinds_room : kinds + length (labelling w h m).components ≤ length s
  pub out_room : w * h ≤ length out

-- What sorting an ink plane answers and leaves in scratch, whole and stage by stage.
use Rattle.std.specs.Prelude.{◌≡◌, false, List, map, ℕ, ◌+◌, ◌*◌, ◌≤◌, ◌<◌, min, get_or, length, take, drop, Option, Some, None}
use Rattle.memory.specs.rules.Lists.{occurs}
use Rattle.memory.specs.rules.Records.{encoded}
use Rattle.memory.specs.rules.Limits.{max_frame_width, max_frame_height, max_capacity, scratch_words}
use Rattle.labelling.specs.rules.Components.{box_of}
use Rattle.labelling.specs.stages.Sizes.{HoldsNumbers, HoldsSizes}
use Rattle.labelling.specs.stages.Marked.{passing}
use Rattle.labelling.specs.declared.marked.Test.{Test}
use Rattle.labelling.specs.declared.marked.Test.TheVariants.{Neither}
use Rattle.params.specs.declared.LayoutParams.{LayoutParams}
use Rattle.rulings.specs.rules.Rulings.{cut_horizontal, cut_vertical, after_cut}
use Rattle.rulings.specs.stages.Marks.{cut_mark, Blank}
use Rattle.rulings.specs.declared.scanlines.Found.{Found}
use Rattle.sorting.specs.rules.Units.{unit_of, unit_value}
use Rattle.sorting.specs.rules.Kinds.{kind_of}
use Rattle.sorting.specs.rules.Sorted.{sorted}
use Rattle.sorting.specs.stages.Scratch.{marks_at, horizontal_at, vertical_at, sizes_at, kinds_at, packed, HoldsSorted, SortedFigures}
use Rattle.memory.specs.stages.Stored.{Within}
use Rattle.sorting.specs.rules.Capacity.{most_components, components_of, most_cuts}
use Rattle.sorting.specs.declared.sort.Cuts.{Cuts}
use Rattle.sorting.specs.declared.sort.SortCounts.{SortCounts}

-- no labelling has more than P components; scratch holds the plane sorted, and the answer its figures
pub record SortHeld (p : LayoutParams) (w h : ℕ) (m : List ℕ) (P : ℕ) (s : List ℕ) (f : SortCounts) : Type 0 where
  pub few : most_components (sorted p w h m) ≤ P
  pub held : HoldsSorted p w h m P s f.runs
  pub figures : SortedFigures p w h m f.unit f.ink f.horizontal f.vertical f.component_count

-- what each answer says of the plane m and of the words s that are left: none where a labelling has more than P components
abbrev pub sort_left : Option SortCounts → LayoutParams → ℕ → ℕ → List ℕ → ℕ → List ℕ → Type 0
sort_left (Some f) p w h m P s = SortHeld p w h m P s f
sort_left None p w h m P s = P < most_components (sorted p w h m)

-- an ink plane within the limits of a frame, and scratch for it
pub record FrameRoom (w h : ℕ) (m : List ℕ) (P : ℕ) (s : List ℕ) : Type 0 where
  pub wide : 0 < w
  pub narrow : w ≤ max_frame_width
  pub high : 0 < h
  pub low : h ≤ max_frame_height
  pub whole : length m ≡ w * h
  pub few : P ≤ max_capacity
  pub room : scratch_words (w * h) P ≤ length s

-- the mask of the dots that pass, by the marks in scratch
abbrev pub passed : Test → ℕ → ℕ → List ℕ → List ℕ → List ℕ
passed t w h m s = passing t m (drop (marks_at (w * h)) s) (w * h)

-- their components labelled: how many, or P + 1 where there are more; if not, their boxes stand from word `to` on; marks and other boxes are as they were
pub record CutLabelled (t : Test) (w h : ℕ) (m : List ℕ) (P to : ℕ) (s s' : List ℕ) (r : ℕ) : Type 0 where
  pub len : length s' ≡ length s
  pub count : r ≡ min (length (components_of w h (passed t w h m s))) (P + 1)
  pub boxes : r ≤ P → take (2 * length (components_of w h (passed t w h m s))) (drop to s') ≡ encoded packed (map box_of (components_of w h (passed t w h m s)))
  pub before : (i : ℕ) → marks_at (w * h) ≤ i → i < to → get_or s' i 0 ≡ get_or s i 0

-- the marks in scratch are those of both cut masks; no dot is cut of a kind that is told false
pub record CutMarked (run_min thick_max w h : ℕ) (m s : List ℕ) (found : Found) : Type 0 where
  pub each : (i : ℕ) → i < w * h → get_or (drop (marks_at (w * h)) s) i 0 ≡ cut_mark run_min thick_max w h m i
  pub no_horizontal : found.horizontal ≡ false → Blank (cut_horizontal run_min thick_max w h m) (w * h)
  pub no_vertical : found.vertical ≡ false → Blank (cut_vertical run_min thick_max w h m) (w * h)

-- the ink is cut: the marks stand, and nothing has changed before word `at` and past the marks
pub record InkCut (run_min thick_max w h : ℕ) (m : List ℕ) (at : ℕ) (s s' : List ℕ) (found : Found) : Type 0 where
  pub marked : CutMarked run_min thick_max w h m s' found
  pub within : Within at (horizontal_at (w * h)) s s'

-- the ink before the cut labelled and measured: runs, numbers and sizes stand in scratch, and f has the unit, the ink and the counts, no cuts
pub record FirstHeld (p : LayoutParams) (w h : ℕ) (m : List ℕ) (P : ℕ) (s : List ℕ) (f : SortCounts) : Type 0 where
  pub few : f.component_count ≤ P
  pub numbered : HoldsNumbers w h m s f.runs
  pub sizes : HoldsSizes (components_of w h m) s (sizes_at (w * h) P)
  pub unit_is : f.unit ≡ unit_of p w h (components_of w h m)
  pub ink_is : f.ink ≡ occurs 1 m
  pub horizontal_is : f.horizontal ≡ 0
  pub vertical_is : f.vertical ≡ 0
  pub components_is : f.component_count ≡ length (components_of w h m)

-- no cut mask has more than P components; scratch holds their boxes, the marks pass the ink after the cut, and the answer has the counts
pub record CutsHeld (run_min thick_max w h : ℕ) (m : List ℕ) (P : ℕ) (s : List ℕ) (f : Cuts) : Type 0 where
  pub few : most_cuts run_min thick_max w h m ≤ P
  pub horizontal : take (2 * length (components_of w h (cut_horizontal run_min thick_max w h m))) (drop (horizontal_at (w * h)) s) ≡ encoded packed (map box_of (components_of w h (cut_horizontal run_min thick_max w h m)))
  pub vertical : take (2 * length (components_of w h (cut_vertical run_min thick_max w h m))) (drop (vertical_at (w * h) P) s) ≡ encoded packed (map box_of (components_of w h (cut_vertical run_min thick_max w h m)))
  pub rest : passed Neither w h m s ≡ after_cut w h (cut_horizontal run_min thick_max w h m) (cut_vertical run_min thick_max w h m) m
  pub horizontal_is : f.horizontal ≡ length (components_of w h (cut_horizontal run_min thick_max w h m))
  pub vertical_is : f.vertical ≡ length (components_of w h (cut_vertical run_min thick_max w h m))

-- the same by the answer: none where a cut mask has more than P components
abbrev pub cuts_left : Option Cuts → ℕ → ℕ → ℕ → ℕ → List ℕ → ℕ → List ℕ → Type 0
cuts_left (Some f) run_min thick_max w h m P s = CutsHeld run_min thick_max w h m P s f
cuts_left None run_min thick_max w h m P s = P < most_cuts run_min thick_max w h m

-- the ink after the cut, `rest`, labelled, measured and its kinds written; boxes of cuts are as they were
pub record RestHeld (p : LayoutParams) (w h : ℕ) (rest : List ℕ) (P ink : ℕ) (cuts : Cuts) (s s' : List ℕ) (f : SortCounts) : Type 0 where
  pub few : length (components_of w h rest) ≤ P
  pub numbered : HoldsNumbers w h rest s' f.runs
  pub sizes : HoldsSizes (components_of w h rest) s' (sizes_at (w * h) P)
  pub kinds : take (length (components_of w h rest)) (drop (kinds_at (w * h) P) s') ≡ map (kind_of p (unit_value (unit_of p w h (components_of w h rest))) w h) (components_of w h rest)
  pub kept : (i : ℕ) → horizontal_at (w * h) ≤ i → i < sizes_at (w * h) P → get_or s' i 0 ≡ get_or s i 0
  pub unit_is : f.unit ≡ unit_of p w h (components_of w h rest)
  pub ink_is : f.ink ≡ ink
  pub horizontal_is : f.horizontal ≡ cuts.horizontal
  pub vertical_is : f.vertical ≡ cuts.vertical
  pub components_is : f.component_count ≡ length (components_of w h rest)

-- the same by the answer
abbrev pub rest_left : Option SortCounts → LayoutParams → ℕ → ℕ → List ℕ → ℕ → ℕ → Cuts → List ℕ → List ℕ → Type 0
rest_left (Some f) p w h rest P ink cuts s s' = RestHeld p w h rest P ink cuts s s' f
rest_left None p w h rest P ink cuts s s' = P < length (components_of w h rest)

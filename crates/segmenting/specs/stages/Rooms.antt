-- What a segmentation asks of the memory lent to it.
use Rattle.std.specs.Prelude.{List, ℕ, ◌*◌, ◌≤◌}
use Rattle.params.specs.declared.LayoutParams.{LayoutParams}
use Rattle.sorting.specs.stages.Scratch.{SortRoom}
use Rattle.sorting.specs.stages.SortSteps.{SortHeld}
use Rattle.sorting.specs.declared.sort.SortCounts.{SortCounts}
use Rattle.segmenting.specs.rules.Results.{result_words}

-- an ink plane within the limits of a frame, a valid sheet, scratch for it, and room for results and kinds
pub record SegmentRoom (p : LayoutParams) (w h : ℕ) (m : List ℕ) (P : ℕ) (s : List ℕ) (results kinds : ℕ) : Type 0 where
  pub plane : SortRoom p w h m P s
  pub results_room : result_words w P ≤ results
  pub kinds_room : w * h ≤ kinds

-- the same with the plane sorted in scratch
pub record SortedRoom (p : LayoutParams) (w h : ℕ) (m : List ℕ) (P : ℕ) (s : List ℕ) (f : SortCounts) (results kinds : ℕ) : Type 0 where
  pub room : SegmentRoom p w h m P s results kinds
  pub held : SortHeld p w h m P s f

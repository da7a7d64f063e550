-- What a whole segmentation answers and leaves (01, parts 4 to 8, "Turned back": 20 and 21).
use Rattle.std.specs.Prelude.{cond, List, ℕ, eqb, Option, Some, None, Result, Ok, Err}
use Rattle.memory.specs.declared.refusals.Refusal.{Refusal}
use Rattle.memory.specs.rules.Refusals.{answer_number}
use Rattle.memory.specs.rules.Words.{over}
use Rattle.params.specs.declared.LayoutParams.{LayoutParams}
use Rattle.segmenting.specs.rules.Layouts.{Layout, layout, layout_refusal}
use Rattle.segmenting.specs.rules.Results.{results_left}
use Rattle.segmenting.specs.rules.Figures.{figures_of}
use Rattle.segmenting.specs.declared.results.Segmentation.{Segmentation}

-- the figures that an answer has: none where the page is refused
abbrev pub figures_found : Result Segmentation Refusal → Option Segmentation
figures_found (Ok f) = Some f
figures_found (Err r) = None

-- 01's number of an answer, 0 where the page is segmented, and its figures; what the words of results and the plane of kinds then hold
pub record SegmentOutcome : Type 0 where
  pub number : ℕ
  pub figures : Option Segmentation
  pub results : List ℕ
  pub plane : List ℕ

-- what a segmentation with the answer r leaves
abbrev pub segment_outcome : Result Segmentation Refusal → List ℕ → List ℕ → SegmentOutcome
segment_outcome r results plane = record { number = answer_number r; figures = figures_found r; results = results; plane = plane }

-- the layout l, refused with n: all is as it was; with 0: its figures, its lists in their places, its plane of kinds over the front
unfoldable pub segment_outcome_by : ℕ → ℕ → ℕ → Layout → List ℕ → List ℕ → SegmentOutcome
segment_outcome_by n w P l results plane =
    record {
      number = n;
      figures = cond (eqb n 0) (Some (figures_of l)) None;
      results = cond (eqb n 0) (results_left w P l results) results;
      plane = cond (eqb n 0) (over l.plane plane) plane;
    }

-- what the segmentation of an ink plane w wide and h high by a sheet leaves
unfoldable pub segment_plane : LayoutParams → ℕ → ℕ → List ℕ → ℕ → List ℕ → List ℕ → SegmentOutcome
segment_plane p w h m P results plane = segment_outcome_by (layout_refusal P (layout p w h m)) w P (layout p w h m) results plane

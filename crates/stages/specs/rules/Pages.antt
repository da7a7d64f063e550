-- What a whole segmentation answers at the stages, and what it leaves in the memory lent to it (01, Limits, "Turned back"). Assumes nothing.
use Rattle.std.specs.Prelude.{not, List, ℕ, ◌*◌, ltb, length, drop, Option, Some, None}
use Rattle.memory.specs.rules.Limits.{scratch_words}
use Rattle.memory.specs.rules.Masks.{is_mask}
use Rattle.memory.specs.rules.Refusals.{refuse_if}
use Rattle.memory.specs.rules.Words.{over}
use Rattle.params.specs.rules.Valid.{valid}
use Rattle.params.specs.declared.LayoutParams.{LayoutParams}
use Rattle.segmenting.specs.rules.Layouts.{layout, layout_refusal}
use Rattle.segmenting.specs.rules.Answers as Answers
use Rattle.segmenting.specs.rules.Figures.{figures_length, figure_words}
use Rattle.segmenting.specs.rules.Results.{result_words}
use Rattle.segmenting.specs.declared.results.Segmentation.{Segmentation}
use Rattle.stages.specs.rules.Frames.{frame_refusal, room_refusal}

-- 1: a side outside its limit; 2: ink length; 3: a byte above 1
unfoldable pub plane_refusal : ℕ → ℕ → List ℕ → ℕ → ℕ
plane_refusal w h m rest = frame_refusal w h (length m) (refuse_if (not (is_mask m)) 3 rest)

-- 6: the sheet; 7: capacity; 9: lent memory too short, scratch, results, kinds or figures
unfoldable pub lent_refusal : LayoutParams → ℕ → ℕ → ℕ → ℕ → ℕ → ℕ → ℕ → ℕ → ℕ
lent_refusal p w dots P words results kinds figures rest =
    refuse_if (not (valid p)) 6
    (room_refusal dots P words (refuse_if (ltb results (result_words w P)) 9 (refuse_if (ltb kinds dots) 9 (refuse_if (ltb figures figures_length) 9 rest))))

-- the number that the call is refused with, the lowest that applies; what the page itself gives where none does
abbrev pub page_refusal : LayoutParams → ℕ → ℕ → List ℕ → ℕ → ℕ → ℕ → ℕ → ℕ → ℕ → ℕ
page_refusal p w h m P words results kinds figures rest = plane_refusal w h m (lent_refusal p w (w * h) P words results kinds figures rest)

-- the figures found over the front; as it was where the page is refused
abbrev pub figures_left : Option Segmentation → List ℕ → List ℕ
figures_left (Some f) figures = over (figure_words f) figures
figures_left None figures = figures

-- the number, results, kinds and figures, the length of the words, and what lies in them past those needed
pub record Left : Type 0 where
  pub number : ℕ
  pub results : List ℕ
  pub kinds : List ℕ
  pub figures : List ℕ
  pub words : ℕ
  pub beyond : List ℕ

-- what a call that answers r leaves
abbrev pub left : ℕ → List ℕ → List ℕ → List ℕ → ℕ → List ℕ → Left
left r results kinds figures words beyond =
    record { number = r; results = results; kinds = kinds; figures = figures; words = words; beyond = beyond }

-- what it leaves where the segmentation leaves s
abbrev pub left_with : Answers.SegmentOutcome → List ℕ → ℕ → List ℕ → Left
left_with s figures words beyond = left s.number s.results s.plane (figures_left s.figures figures) words beyond

-- what `novlizeb_segment_plane` leaves: the layout of 01, unless the call is refused
abbrev pub paged : LayoutParams → ℕ → ℕ → List ℕ → ℕ → List ℕ → List ℕ → List ℕ → List ℕ → Left
paged p w h m P words results kinds figures =
    let l = layout p w h m in
    let n = page_refusal p w h m P (length words) (length results) (length kinds) (length figures) (layout_refusal P l) in
    left_with (Answers.segment_outcome_by n w P l results kinds) figures (length words) (drop (scratch_words (w * h) P) words)

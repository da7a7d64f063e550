-- A header that tells of a segmentation, as it is written.
use Rattle.std.specs.Prelude.{List, [], ◌∷◌, ℕ, Option, Some, None}
use Rattle.memory.specs.rules.Words.{over, put_at}
use Rattle.segmenting.specs.rules.Figures.{figure_words}
use Rattle.segmenting.specs.declared.results.Segmentation.{Segmentation}
use Rattle.judging.specs.rules.Header.{segmented_state, figures_at}

-- a header that tells of a segmentation
unfoldable pub head_segmented : Segmentation → List ℕ → List ℕ
head_segmented f s = put_at figures_at (figure_words f) (over (segmented_state ∷ []) s)

-- .. that found these figures: as it was where the page is refused
abbrev pub head_left : Option Segmentation → List ℕ → List ℕ
head_left (Some f) s = head_segmented f s
head_left None s = s

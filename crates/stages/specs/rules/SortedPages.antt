-- What sorting an ink plane answers at the stages, and what it leaves in the memory lent to it. Assumes nothing.
use Rattle.std.specs.Prelude.{not, List, [], ◌∷◌, ℕ, ◌*◌, ◌/◌, ◌%◌, ◌^◌, ltb, length}
use Rattle.std.specs.Float.{binary64}
use Rattle.std.specs.Float.Ieee.{to_bits}
use Rattle.memory.specs.rules.Lists.{occurs}
use Rattle.memory.specs.rules.Refusals.{refuse_if}
use Rattle.params.specs.rules.Valid.{valid}
use Rattle.params.specs.declared.LayoutParams.{LayoutParams}
use Rattle.sorting.specs.rules.Capacity.{most_components}
use Rattle.sorting.specs.rules.Sorted.{sorted}
use Rattle.sorting.specs.rules.Units.{unit_value}
use Rattle.sorting.specs.declared.Unit.{Unit}
use Rattle.stages.specs.rules.Frames.{room_refusal, Told, told_by}
use Rattle.segmenting.specs.rules.Figures.{measured_word}
use Rattle.stages.specs.rules.Pages.{plane_refusal}

-- how many words the figures take
abbrev pub sort_figures : ℕ
sort_figures = 7

-- 6: the sheet; 7: capacity; 9: lent memory too short, scratch or figures
unfoldable pub sort_lent : LayoutParams → ℕ → ℕ → ℕ → ℕ → ℕ → ℕ
sort_lent p dots P words figures rest = refuse_if (not (valid p)) 6 (room_refusal dots P words (refuse_if (ltb figures sort_figures) 9 rest))

-- 20 where one of the four labellings has more than P components
abbrev pub sort_many : LayoutParams → ℕ → ℕ → List ℕ → ℕ → ℕ
sort_many p w h m P = refuse_if (ltb P (most_components (sorted p w h m))) 20 0

-- the figures in words: the unit, low word first, the dots of ink before the cut, how many horizontal and vertical cuts and components after the cut
unfoldable pub sort_words : Unit → ℕ → ℕ → ℕ → ℕ → List ℕ
sort_words unit ink horizontal vertical components =
    measured_word unit ∷ (to_bits binary64 (unit_value unit) % 2 ^ 32) ∷ (to_bits binary64 (unit_value unit) / 2 ^ 32) ∷ ink ∷ horizontal ∷ vertical ∷ components ∷ []

-- those of an ink plane
abbrev pub sorted_words : LayoutParams → ℕ → ℕ → List ℕ → List ℕ
sorted_words p w h m =
    let s = sorted p w h m in
    sort_words s.unit (occurs 1 m) (length s.horizontal.components) (length s.vertical.components) (length s.rest.components)

-- what `novlizeb_sort` leaves
abbrev pub sorted_page : LayoutParams → ℕ → ℕ → List ℕ → ℕ → List ℕ → List ℕ → Told
sorted_page p w h m P words figures =
    told_by (plane_refusal w h m (sort_lent p (w * h) P (length words) (length figures) (sort_many p w h m P))) (sorted_words p w h m) (w * h) P words figures

-- The leaf that document 01 prints ("Leaves to try"): 6 x 4, skew and slope 0, computed through the whole chain.
use mathlib.Core.Path.{◌≡◌, refl}
use mathlib.Core.Bool.{true}
use mathlib.Core.List.{List, [], ◌∷◌}
use Prim.Native.Nat.{ℕ}
use Rattle.params.specs.rules.ShowSheets.{show_sheet}
use Rattle.params.specs.rules.Valid.{valid}
use Rattle.rounding.specs.rules.Lengths.{float}
use Rattle.segmenting.specs.rules.Layouts.{Page, page, layout_refusal}
use Rattle.segmenting.specs.rules.LayoutReadings.{twenty_line_measure}
use Rattle.grouping.specs.rules.Readings.{dot_list}
use Rattle.segmenting.proofs.Computed.{computed}

-- rows 00, 50, 50, 00
abbrev pub sample_mask : List ℕ
sample_mask =
    0 ∷ 0 ∷ 0 ∷ 0 ∷ 0 ∷ 0
    ∷ 0 ∷ 1 ∷ 0 ∷ 1 ∷ 0 ∷ 0
    ∷ 0 ∷ 1 ∷ 0 ∷ 1 ∷ 0 ∷ 0
    ∷ 0 ∷ 0 ∷ 0 ∷ 0 ∷ 0 ∷ 0 ∷ []

abbrev pub sample_leaf : Page
sample_leaf = page sample_mask 6 4 (float 0) (float 0) show_sheet show_sheet

pub sample-sheet-valid : valid show_sheet ≡ true
unfolding computed
sample-sheet-valid = refl

-- its kinds, dot by dot
pub sample-kinds :
    sample_leaf.layout.plane
    ≡ 0 ∷ 0 ∷ 0 ∷ 0 ∷ 0 ∷ 0
    ∷ 0 ∷ 4 ∷ 0 ∷ 4 ∷ 0 ∷ 0
    ∷ 0 ∷ 4 ∷ 0 ∷ 4 ∷ 0 ∷ 0
    ∷ 0 ∷ 0 ∷ 0 ∷ 0 ∷ 0 ∷ 0 ∷ []
unfolding computed
sample-kinds = refl

-- 64 components are room enough, and one is not: both glyphs are components of the ink
pub sample-accepted : layout_refusal 64 sample_leaf.layout ≡ 0
unfolding computed
sample-accepted = refl

pub sample-refused : layout_refusal 1 sample_leaf.layout ≡ 20
unfolding computed
sample-refused = refl

-- one line has no pitch
pub sample-twenty-lines : twenty_line_measure sample_leaf.layout ≡ 0
unfolding computed
sample-twenty-lines = refl

-- the glyph dots of the left half, column and row of each
pub sample-dots : dot_list sample_leaf.levelled.frame sample_leaf.layout.plane 4 (record { x0 = 0; y0 = 0; x1 = 2; y1 = 3 }) ≡ 1 ∷ 1 ∷ 1 ∷ 2 ∷ []
unfolding computed
sample-dots = refl

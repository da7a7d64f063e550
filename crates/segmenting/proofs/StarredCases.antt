-- Document 01's starred cases ("Leaves to try"), proved together as one table over the definitions.
use mathlib.Core.Path.{◌≡◌, refl}
use mathlib.Core.Bool.{false, true}
use mathlib.Core.List.{List, [], ◌∷◌, map}
use Prim.Native.Nat.{ℕ}
use lib.IntN.{pos, negsuc}
use lib.Ieee.{Float, fin, neg}
use Rattle.rounding.specs.rules.Rounding.{round_half_away}
use Rattle.labelling.specs.rules.Labels.{labelling}
use Rattle.memory.specs.declared.rect.Rect.{Rect}
use Rattle.labelling.specs.declared.component.Component.{Component}
use Rattle.params.specs.declared.LayoutParams.{LayoutParams}
use Rattle.levelling.specs.rules.Frames.{Frame, frame, row_of, column_of}
use Rattle.levelling.specs.rules.Mapping.{to_page}
use Rattle.rounding.specs.rules.Lengths.{float}
use Rattle.sorting.specs.rules.Units.{median}
use Rattle.smoothing.specs.rules.Smoothing.{smoothed}
use Rattle.grouping.specs.rules.Columns.{column, columns_of}
use Rattle.segmenting.proofs.Computed.{computed}
use Rattle.params.specs.rules.ShowSheets.{show_sheet}

-- 2.5 and 0.5 as the logic has them, 5 and 1 times 2 to the power -1
abbrev two-and-a-half : Float
two-and-a-half = fin false 5 (negsuc 0)

abbrev half : Float
half = fin false 1 (negsuc 0)

-- width 4, height 2, slope 0.5
abbrev sloping : Frame
sloping = frame 4 2 half

-- the show sheet, whose column gap is one unit, with a column gap of 0
abbrev no_column_gap : LayoutParams
no_column_gap = record {
  glyph_min_area = show_sheet.glyph_min_area;
  glyph_max_extent_frac = show_sheet.glyph_max_extent_frac;
  xheight_min_area = show_sheet.xheight_min_area;
  xheight_fallback_px = show_sheet.xheight_fallback_px;
  rule_min_len_xh = show_sheet.rule_min_len_xh;
  rule_max_thick_xh = show_sheet.rule_max_thick_xh;
  rule_run_xh = show_sheet.rule_run_xh;
  graphic_min_xh = show_sheet.graphic_min_xh;
  smear_xh = show_sheet.smear_xh;
  line_min_glyphs = show_sheet.line_min_glyphs;
  line_min_height_xh = show_sheet.line_min_height_xh;
  line_max_height_xh = show_sheet.line_max_height_xh;
  block_min_overlap = show_sheet.block_min_overlap;
  block_gap_margin_lines = show_sheet.block_gap_margin_lines;
  block_max_gap_lines = show_sheet.block_max_gap_lines;
  column_gap_xh = float 0;
  column_cover_frac = show_sheet.column_cover_frac;
  shear_min_deg = show_sheet.shear_min_deg;
}

-- a line over columns 1 to 3
abbrev line : Rect
line = record { x0 = 1; y0 = 0; x1 = 3; y1 = 0 }

-- the areas of the components of a mask
abbrev areas : ℕ → ℕ → List ℕ → List ℕ
areas w h m = map (λ (c : Component). c.area) (labelling w h m).components

pub record StarredCases : Type 0 where
  -- round: 2.5 gives 3, −2.5 gives −3
  pub round_up : round_half_away two-and-a-half ≡ fin false 3 (pos 0)
  pub round-down : round_half_away (neg two-and-a-half) ≡ fin true 3 (pos 0)
  -- width 4, height 2, slope 0.5: shear 0,1,1,2; shear_x 2,1,1,0; frame 6 × 4
  pub sloping-frame :
      sloping ≡ record { page_w = 4; page_h = 2; shear = 0 ∷ 1 ∷ 1 ∷ 2 ∷ []; shear_x = 2 ∷ 1 ∷ 1 ∷ 0 ∷ []; w = 6; h = 4 }
  -- dot (3,1) goes to (3,3) and back
  pub there-column : column_of sloping 3 1 ≡ 3
  pub there-row : row_of sloping 3 1 ≡ 3
  pub back : to_page sloping 3 3 ≡ record { x = pos 3; y = pos 1 }
  -- frame point (0,0) maps to (−2,0)
  pub outside : to_page sloping 0 0 ≡ record { x = negsuc 1; y = pos 0 }
  -- rows 10 / 01: one piece, area 2
  pub diagonal : areas 2 2 (1 ∷ 0 ∷ 0 ∷ 1 ∷ []) ≡ 2 ∷ []
  -- rows 101 / 111: one piece, area 5
  pub cup : areas 3 2 (1 ∷ 0 ∷ 1 ∷ 1 ∷ 1 ∷ 1 ∷ []) ≡ 5 ∷ []
  -- median of 3, 9 is 9; of none, 0
  pub median-of-two : median (3 ∷ 9 ∷ []) ≡ 9
  pub median-of-none : median [] ≡ 0
  -- gap 2: dots at 0 and 3 join, 0 and 4 don't
  pub joins : smoothed 2 4 1 (4 ∷ 0 ∷ 0 ∷ 4 ∷ []) ≡ 1 ∷ 1 ∷ 1 ∷ 1 ∷ []
  pub joins-not : smoothed 2 5 1 (4 ∷ 0 ∷ 0 ∷ 0 ∷ 4 ∷ []) ≡ 1 ∷ 0 ∷ 0 ∷ 0 ∷ 1 ∷ []
  -- line over columns 1 to 3: column gap 0 gives three columns, 1 gives one
  pub three-columns : columns_of no_column_gap (float 1) 6 (line ∷ []) ≡ column 1 1 ∷ column 2 2 ∷ column 3 3 ∷ []
  pub one-column : columns_of show_sheet (float 1) 6 (line ∷ []) ≡ column 1 3 ∷ []

pub starred-cases : StarredCases
unfolding computed
starred-cases =
    record {
      round_up = refl;
      round-down = refl;
      sloping-frame = refl;
      there-column = refl;
      there-row = refl;
      back = refl;
      outside = refl;
      diagonal = refl;
      cup = refl;
      median-of-two = refl;
      median-of-none = refl;
      joins = refl;
      joins-not = refl;
      three-columns = refl;
      one-column = refl;
    }

-- What is known of a sheet that `validate` passes: `valid-gives` of proofs/SheetLaws.antt.
use Rattle.std.specs.Prelude.{◌≤◌, T, Float}
use Rattle.std.specs.Float.Ieee.{lt, le}
use Rattle.std.specs.Float.Ieee.Scale.{finite}
use Rattle.params.specs.declared.LayoutParams.{LayoutParams}
use Rattle.params.specs.rules.Valid.{float_zero, float_one, ten_thousand}

-- a finite float from 0 to 10,000
pub record Length (v : Float) : Type 0 where
  pub is_finite : T (finite v)
  pub low : T (le float_zero v)
  pub high : T (le v ten_thousand)

-- each float is a length; then the tests that follow, in the Rust's order
pub record ValidSheet (p : LayoutParams) : Type 0 where
  pub glyph_max_extent : Length p.glyph_max_extent_frac
  pub xheight_fallback : Length p.xheight_fallback_px
  pub rule_min_len : Length p.rule_min_len_xh
  pub rule_max_thick : Length p.rule_max_thick_xh
  pub rule_run : Length p.rule_run_xh
  pub graphic_min : Length p.graphic_min_xh
  pub smear : Length p.smear_xh
  pub line_min_height : Length p.line_min_height_xh
  pub line_max_height : Length p.line_max_height_xh
  pub block_min_overlap : Length p.block_min_overlap
  pub block_gap_margin : Length p.block_gap_margin_lines
  pub block_max_gap : Length p.block_max_gap_lines
  pub column_gap : Length p.column_gap_xh
  pub column_cover : Length p.column_cover_frac
  pub shear_min : Length p.shear_min_deg
  pub extent_above_zero : T (lt float_zero p.glyph_max_extent_frac)
  pub extent_at_most_one : T (le p.glyph_max_extent_frac float_one)
  pub fallback_at_least_one : T (le float_one p.xheight_fallback_px)
  pub overlap_at_most_one : T (le p.block_min_overlap float_one)
  pub cover_below_one : T (lt p.column_cover_frac float_one)
  pub line_heights_in_order : T (le p.line_min_height_xh p.line_max_height_xh)
  pub some_glyph_area : 1 ≤ p.glyph_min_area
  pub some_line_glyphs : 1 ≤ p.line_min_glyphs

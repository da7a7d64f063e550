-- A parameter sheet of its eighteen numbers, as a host hands it.
use Rattle.std.specs.Prelude.{ℕ, Float}
use Rattle.params.specs.declared.LayoutParams.{LayoutParams}

-- the sheet whose fields are these, in the order in which it declares them
abbrev pub sheet_of :
    ℕ
    → Float
    → ℕ
    → Float
    → Float
    → Float
    → Float
    → Float
    → Float
    → ℕ
    → Float
    → Float
    → Float
    → Float
    → Float
    → Float
    → Float
    → Float
    → LayoutParams
sheet_of
    glyph_min_area
    glyph_max_extent_frac
    xheight_min_area
    xheight_fallback_px
    rule_min_len_xh
    rule_max_thick_xh
    rule_run_xh
    graphic_min_xh
    smear_xh
    line_min_glyphs
    line_min_height_xh
    line_max_height_xh
    block_min_overlap
    block_gap_margin_lines
    block_max_gap_lines
    column_gap_xh
    column_cover_frac
    shear_min_deg =
    record {
      glyph_min_area = glyph_min_area;
      glyph_max_extent_frac = glyph_max_extent_frac;
      xheight_min_area = xheight_min_area;
      xheight_fallback_px = xheight_fallback_px;
      rule_min_len_xh = rule_min_len_xh;
      rule_max_thick_xh = rule_max_thick_xh;
      rule_run_xh = rule_run_xh;
      graphic_min_xh = graphic_min_xh;
      smear_xh = smear_xh;
      line_min_glyphs = line_min_glyphs;
      line_min_height_xh = line_min_height_xh;
      line_max_height_xh = line_max_height_xh;
      block_min_overlap = block_min_overlap;
      block_gap_margin_lines = block_gap_margin_lines;
      block_max_gap_lines = block_max_gap_lines;
      column_gap_xh = column_gap_xh;
      column_cover_frac = column_cover_frac;
      shear_min_deg = shear_min_deg;
    }

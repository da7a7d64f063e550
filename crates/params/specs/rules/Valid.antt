-- Which sheets the Rust's `LayoutParams::validate` passes, test by test in its order.
use Rattle.std.specs.Prelude.{◌≡◌, refl, Bool, not, ◌&&◌, ◌||◌, eqb, pos, Float}
use Rattle.std.specs.Float.{binary64}
use Rattle.std.specs.Float.Ieee.{of_bits, of_int, lt, le}
use Rattle.std.specs.Float.Ieee.Scale.{finite}
use Rattle.params.specs.declared.LayoutParams.{LayoutParams}

-- the numbers that the tests compare with, by their bits
abbrev pub float_zero : Float
float_zero = of_bits binary64 0

abbrev pub float_one : Float
float_one = of_bits binary64 0x3ff0_0000_0000_0000

abbrev pub ten_thousand : Float
ten_thousand = of_bits binary64 0x40c3_8800_0000_0000

float_zero_is : float_zero ≡ of_int binary64 (pos 0)
unfolding of_bits of_int
float_zero_is = refl

float_one_is : float_one ≡ of_int binary64 (pos 1)
unfolding of_bits of_int
float_one_is = refl

ten_thousand_is : ten_thousand ≡ of_int binary64 (pos 10000)
unfolding of_bits of_int
ten_thousand_is = refl

-- `!v.is_finite() || v < 0.0 || v > 1.0e4` is bad
abbrev pub length_ok : Float → Bool
length_ok v = not (not (finite v) || lt v float_zero || lt ten_thousand v)

-- each of the list `lengths`
abbrev pub lengths_ok : LayoutParams → Bool
lengths_ok p =
    length_ok p.glyph_max_extent_frac
    && length_ok p.xheight_fallback_px
    && length_ok p.rule_min_len_xh
    && length_ok p.rule_max_thick_xh
    && length_ok p.rule_run_xh
    && length_ok p.graphic_min_xh
    && length_ok p.smear_xh
    && length_ok p.line_min_height_xh
    && length_ok p.line_max_height_xh
    && length_ok p.block_min_overlap
    && length_ok p.block_gap_margin_lines
    && length_ok p.block_max_gap_lines
    && length_ok p.column_gap_xh
    && length_ok p.column_cover_frac
    && length_ok p.shear_min_deg

-- `!(glyph_max_extent_frac > 0.0 && glyph_max_extent_frac <= 1.0)` is bad
abbrev pub extent_ok : LayoutParams → Bool
extent_ok p = lt float_zero p.glyph_max_extent_frac && le p.glyph_max_extent_frac float_one

-- `xheight_fallback_px < 1.0` is bad
abbrev pub fallback_ok : LayoutParams → Bool
fallback_ok p = not (lt p.xheight_fallback_px float_one)

-- `block_min_overlap > 1.0 || column_cover_frac >= 1.0` is bad
abbrev pub fractions_ok : LayoutParams → Bool
fractions_ok p = not (lt float_one p.block_min_overlap || le float_one p.column_cover_frac)

-- `line_min_height_xh > line_max_height_xh` is bad
abbrev pub heights_ok : LayoutParams → Bool
heights_ok p = not (lt p.line_max_height_xh p.line_min_height_xh)

-- `glyph_min_area == 0 || line_min_glyphs == 0` is bad
abbrev pub counts_ok : LayoutParams → Bool
counts_ok p = not (eqb p.glyph_min_area 0 || eqb p.line_min_glyphs 0)

-- the sheets that pass (01, refusal 6)
abbrev pub valid : LayoutParams → Bool
valid p = lengths_ok p && extent_ok p && fallback_ok p && fractions_ok p && heights_ok p && counts_ok p

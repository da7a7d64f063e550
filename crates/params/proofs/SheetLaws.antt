-- What a sheet that passes `valid` gives.
use mathlib.Core.Bool.{Bool, true, false, not, ◌&&◌, ◌||◌}
use Prim.Native.Nat.{ℕ, zero, suc, ◌≤◌}
use native.Mathlib.Omega.{arith}
use lib.Dec.{T, eqb}
use lib.Ieee.{Float, of_bits, lt, le}
use lib.Ieee.Scale.{finite}
use Rattle.params.specs.declared.LayoutParams.{LayoutParams}
use Rattle.params.specs.rules.Valid as sheet
use Rattle.params.specs.rules.Facts.{Length, ValidSheet}
use Rattle.params.proofs.FiniteOrder.{not-lt→le, not-le→lt}

-- none of two or three is so
neither : (a b : Bool) → T (not (a || b)) → T (not a) × T (not b)
neither false true t = elim t [ ]
neither true b t = elim t [ ]
neither false false t = (tt, tt)

finite-zero : T (finite sheet.float_zero)
unfolding of_bits
finite-zero = tt

finite-one : T (finite sheet.float_one)
unfolding of_bits
finite-one = tt

finite-ten-thousand : T (finite sheet.ten_thousand)
unfolding of_bits
finite-ten-thousand = tt

kept : (b : Bool) → T (not (not b)) → T b
kept false t = elim t [ ]
kept true t = tt

length-of : (v : Float) → T (sheet.length_ok v) → Length v
length-of v t =
    let inside = neither (not (finite v) || lt v sheet.float_zero) (lt sheet.ten_thousand v) t in
    let above = neither (not (finite v)) (lt v sheet.float_zero) inside.0 in
    let f = kept (finite v) above.0 in
    record { is_finite = f; low = not-lt→le v sheet.float_zero f finite-zero above.1; high = not-lt→le sheet.ten_thousand v finite-ten-thousand f inside.1 }

both : (a b : Bool) → T (a && b) → T a × T b
both false b t = elim t [ ]
both true false t = elim t [ ]
both true true t = (tt, tt)

six : (a b c d e f : Bool) → T (a && b && c && d && e && f) → T a × T b × T c × T d × T e × T f
six false b c d e f t = elim t [ ]
six true false c d e f t = elim t [ ]
six true true false d e f t = elim t [ ]
six true true true false e f t = elim t [ ]
six true true true true false f t = elim t [ ]
six true true true true true false t = elim t [ ]
six true true true true true true t = (tt, tt, tt, tt, tt, tt)

fifteen : (a b c d e f g h i j k l m n o : Bool) → T (a && b && c && d && e && f && g && h && i && j && k && l && m && n && o)
    → T a × T b × T c × T d × T e × T f × T g × T h × T i × T j × T k × T l × T m × T n × T o
fifteen false b c d e f g h i j k l m n o t = elim t [ ]
fifteen true false c d e f g h i j k l m n o t = elim t [ ]
fifteen true true false d e f g h i j k l m n o t = elim t [ ]
fifteen true true true false e f g h i j k l m n o t = elim t [ ]
fifteen true true true true false f g h i j k l m n o t = elim t [ ]
fifteen true true true true true false g h i j k l m n o t = elim t [ ]
fifteen true true true true true true false h i j k l m n o t = elim t [ ]
fifteen true true true true true true true false i j k l m n o t = elim t [ ]
fifteen true true true true true true true true false j k l m n o t = elim t [ ]
fifteen true true true true true true true true true false k l m n o t = elim t [ ]
fifteen true true true true true true true true true true false l m n o t = elim t [ ]
fifteen true true true true true true true true true true true false m n o t = elim t [ ]
fifteen true true true true true true true true true true true true false n o t = elim t [ ]
fifteen true true true true true true true true true true true true true false o t = elim t [ ]
fifteen true true true true true true true true true true true true true true false t = elim t [ ]
fifteen true true true true true true true true true true true true true true true t = (tt, tt, tt, tt, tt, tt, tt, tt, tt, tt, tt, tt, tt, tt, tt)

some : (n : ℕ) → T (not (eqb n 0)) → 1 ≤ n
some zero t = absurd t
some (suc n) t = omega arith

pub valid-gives : (p : LayoutParams) → T (sheet.valid p) → ValidSheet p
valid-gives p t =
    let parts = six (sheet.lengths_ok p) (sheet.extent_ok p) (sheet.fallback_ok p) (sheet.fractions_ok p) (sheet.heights_ok p) (sheet.counts_ok p) t in
    let lengths = fifteen
    (sheet.length_ok p.glyph_max_extent_frac)
    (sheet.length_ok p.xheight_fallback_px)
    (sheet.length_ok p.rule_min_len_xh)
    (sheet.length_ok p.rule_max_thick_xh)
    (sheet.length_ok p.rule_run_xh)
    (sheet.length_ok p.graphic_min_xh)
    (sheet.length_ok p.smear_xh)
    (sheet.length_ok p.line_min_height_xh)
    (sheet.length_ok p.line_max_height_xh)
    (sheet.length_ok p.block_min_overlap)
    (sheet.length_ok p.block_gap_margin_lines)
    (sheet.length_ok p.block_max_gap_lines)
    (sheet.length_ok p.column_gap_xh)
    (sheet.length_ok p.column_cover_frac)
    (sheet.length_ok p.shear_min_deg)
    parts.0 in
    let extent = both (lt sheet.float_zero p.glyph_max_extent_frac) (le p.glyph_max_extent_frac sheet.float_one) parts.1 in
    let fallback = length-of p.xheight_fallback_px lengths.1 in
    let lowest = length-of p.line_min_height_xh lengths.7 in
    let highest = length-of p.line_max_height_xh lengths.8 in
    let overlap = length-of p.block_min_overlap lengths.9 in
    let cover = length-of p.column_cover_frac lengths.13 in
    let fractions = neither (lt sheet.float_one p.block_min_overlap) (le sheet.float_one p.column_cover_frac) parts.3 in
    let counts = neither (eqb p.glyph_min_area 0) (eqb p.line_min_glyphs 0) parts.5 in
    record {
      glyph_max_extent = length-of p.glyph_max_extent_frac lengths.0;
      xheight_fallback = fallback;
      rule_min_len = length-of p.rule_min_len_xh lengths.2;
      rule_max_thick = length-of p.rule_max_thick_xh lengths.3;
      rule_run = length-of p.rule_run_xh lengths.4;
      graphic_min = length-of p.graphic_min_xh lengths.5;
      smear = length-of p.smear_xh lengths.6;
      line_min_height = lowest;
      line_max_height = highest;
      block_min_overlap = overlap;
      block_gap_margin = length-of p.block_gap_margin_lines lengths.10;
      block_max_gap = length-of p.block_max_gap_lines lengths.11;
      column_gap = length-of p.column_gap_xh lengths.12;
      column_cover = cover;
      shear_min = length-of p.shear_min_deg lengths.14;
      extent_above_zero = extent.0;
      extent_at_most_one = extent.1;
      fallback_at_least_one = not-lt→le p.xheight_fallback_px sheet.float_one fallback.is_finite finite-one parts.2;
      overlap_at_most_one = not-lt→le sheet.float_one p.block_min_overlap finite-one overlap.is_finite fractions.0;
      cover_below_one = not-le→lt sheet.float_one p.column_cover_frac finite-one cover.is_finite fractions.1;
      line_heights_in_order = not-lt→le p.line_max_height_xh p.line_min_height_xh highest.is_finite lowest.is_finite parts.4;
      some_glyph_area = some p.glyph_min_area counts.0;
      some_line_glyphs = some p.line_min_glyphs counts.1;
    }

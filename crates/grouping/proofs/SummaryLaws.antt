-- The summary, from the share that another function gave.
use mathlib.Core.Path.{◌≡◌, refl}
use Prim.Native.Nat.{ℕ, ◌*◌}
use lib.Ieee.{Float, binary64, div, of_bits, of_int, round}
use Rattle.rounding.specs.rules.Lengths.{float}
use Rattle.grouping.specs.rules.Readings.{two}
use Rattle.grouping.specs.declared.summary.Summary.{Summary}
use Rattle.grouping.specs.declared.summary.Totals.{Totals}

abbrev pub with_share : Float → Float → ℕ → ℕ → Totals → ℕ → ℕ → Float → Summary
with_share xheight skew w h t pitch glyph_height share =
    record {
      xheight_px = xheight;
      skew_deg_applied = skew;
      glyphs = float t.glyphs;
      lines = float t.lines;
      blocks = float t.blocks;
      columns = float t.columns;
      rules = float t.rules;
      graphics = float t.graphics;
      glyph_ink_fraction = div binary64 (float t.glyph_ink) (float (w * h));
      text_share_of_ink = share;
      median_line_pitch_xh = div binary64 (div binary64 (float pitch) two) xheight;
      median_glyph_height_xh = div binary64 (float glyph_height) xheight;
    }

pub two_is : two ≡ float 2
unfolding of_bits of_int round
two_is = refl

-- What is read from the results of a page: `summarize` (01, part 8) and the twenty-line measure (01, "Added by us").
use Rattle.std.specs.Prelude.{ℕ, List, map, Float, length}
use Rattle.levelling.specs.rules.Frames.{Frame}
use Rattle.sorting.specs.rules.Units.{median, unit_value}
use Rattle.segmenting.specs.rules.Layouts.{Layout}
use Rattle.smoothing.specs.rules.Lines.{TextLine}
use Rattle.grouping.specs.declared.summary.Summary.{Summary}
use Rattle.grouping.specs.declared.summary.Totals.{Totals}
use Rattle.grouping.specs.rules.Readings.{pitches, twenty_of, summarized}

abbrev pub pitches_of : Layout → List ℕ
pitches_of l = pitches (map (λ (t : TextLine). t.bbox) l.lines) l.blocks

unfoldable pub twenty_line_measure : Layout → ℕ
twenty_line_measure l = twenty_of (pitches_of l)

-- what is counted of a layout
abbrev pub totals_of : Layout → Totals
totals_of l =
    record {
      glyphs = length l.glyphs;
      lines = length l.lines;
      blocks = length l.blocks;
      columns = length l.columns;
      rules = length l.rules;
      graphics = length l.graphics;
      glyph_ink = l.counts.glyph;
      ink = l.ink_pixels;
    }

-- `summarize`
unfoldable pub summary : Frame → Float → Layout → Summary
summary f skew l =
    summarized (unit_value l.unit) skew f.w f.h (totals_of l) (median (pitches_of l)) (median (map (λ (t : TextLine). t.glyph_height) l.lines))

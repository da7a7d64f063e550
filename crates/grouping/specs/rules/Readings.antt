-- What is read from lines and blocks, and from the plane of kinds: pitches, the figures of `summarize` (01, part 8), the dots of one kind in a box (01, "Added by us").
use Rattle.std.specs.Prelude.{ℕ, ◌+◌, ◌-◌, ◌*◌, ◌/◌, ◌%◌, Bool, cond, ◌&&◌, List, [], ◌∷◌, ◌++◌, map, Float, get_or, eqb, leb}
use Rattle.std.specs.Float.{binary64}
use Rattle.std.specs.Float.Ieee.{div, of_bits}
use Rattle.memory.specs.rules.Lists.{upto, keep}
use Rattle.rounding.specs.rules.Rounding.{positive_zero}
use Rattle.memory.specs.declared.rect.Rect.{Rect}
use Rattle.levelling.specs.rules.Frames.{Frame, row_of, column_of}
use Rattle.rounding.specs.rules.Lengths.{float}
use Rattle.sorting.specs.rules.Units.{median}
use Rattle.grouping.specs.rules.Blocks.{Block, no_rect}
use Rattle.grouping.specs.declared.summary.Summary.{Summary}
use Rattle.grouping.specs.declared.summary.Totals.{Totals}

-- from each number of the list to the next, below 0 as 0
unfoldable pub differences : List ℕ → List ℕ
differences [] = []
differences (a ∷ []) = []
differences (a ∷ (b ∷ l)) = (b - a) ∷ differences (b ∷ l)

-- differences of y0 + y1 between following lines of a block, of all blocks together
unfoldable pub pitches : List Rect → List Block → List ℕ
pitches ls [] = []
pitches ls (b ∷ bs) = differences (map (λ i. (get_or ls i no_rect).y0 + (get_or ls i no_rect).y1) b.lines) ++ pitches ls bs

-- the twenty-line measure of differences: 10 times their median, and 0 without any
abbrev pub twenty_of : List ℕ → ℕ
twenty_of l = 10 * median l

-- 2.0 (`two_is` of proofs/SummaryLaws.antt)
abbrev pub two : Float
two = of_bits binary64 0x4000_0000_0000_0000

-- the glyph dots as a part of the ink; 0 on a page without any
abbrev pub text_share : ℕ → ℕ → Float
text_share glyph_ink ink = cond (eqb ink 0) positive_zero (div binary64 (float glyph_ink) (float ink))

-- the twelve numbers of `summarize`, from the unit, the applied skew, the frame's sides, what was counted, the median pitch and the median
-- glyph height of the lines
abbrev pub summarized : Float → Float → ℕ → ℕ → Totals → ℕ → ℕ → Summary
summarized xheight skew w h t pitch glyph_height =
    record {
      xheight_px = xheight;
      skew_deg_applied = skew;
      glyphs = float t.glyphs;
      lines = float t.lines;
      blocks = float t.blocks;
      columns = float t.columns;
      rules = float t.rules;
      graphics = float t.graphics;
      glyph_ink_fraction = div binary64 (float t.glyph_ink) (float (w * h));
      text_share_of_ink = text_share t.glyph_ink t.ink;
      median_line_pitch_xh = div binary64 (div binary64 (float pitch) two) xheight;
      median_glyph_height_xh = div binary64 (float glyph_height) xheight;
    }

-- its numbers in the order in which the Rust puts them
abbrev pub summary_numbers : Summary → List Float
summary_numbers s =
    s.xheight_px
    ∷ s.skew_deg_applied
    ∷ s.glyphs
    ∷ s.lines
    ∷ s.blocks
    ∷ s.columns
    ∷ s.rules
    ∷ s.graphics
    ∷ s.glyph_ink_fraction
    ∷ s.text_share_of_ink
    ∷ s.median_line_pitch_xh
    ∷ s.median_glyph_height_xh
    ∷ []

-- whether a frame point lies in a box
abbrev pub in_box : Rect → ℕ → ℕ → Bool
in_box r x y = leb r.x0 x && leb x r.x1 && leb r.y0 y && leb y r.y1

-- whether page dot i has the kind k and its frame place lies in the box r
unfoldable pub listed : Frame → List ℕ → ℕ → Rect → ℕ → Bool
listed f kinds k r i =
    let c = i % f.page_w in
    let y = i / f.page_w in
    eqb (get_or kinds (row_of f c y * f.w + column_of f c y) 0) k && in_box r (column_of f c y) (row_of f c y)

-- page dots as two words each: page column, then page row
unfoldable pub columns_and_rows : ℕ → List ℕ → List ℕ
columns_and_rows w [] = []
columns_and_rows w (i ∷ l) = i % w ∷ i / w ∷ columns_and_rows w l

-- the page dots of one kind inside a frame box, ordered by page row, then page column
unfoldable pub dot_list : Frame → List ℕ → ℕ → Rect → List ℕ
dot_list f kinds k r = columns_and_rows f.page_w (keep (listed f kinds k r) (upto (f.page_w * f.page_h)))

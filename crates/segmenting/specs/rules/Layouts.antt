-- One record of all results of a page, as a function of its mask, sides, skew, slope and two sheets (01, parts 3 to 8 and "Added by us").
use Rattle.std.specs.Prelude.{ℕ, List, [], ◌∷◌, map, Float, get_or, length, ltb}
use Rattle.memory.specs.rules.Lists.{table, occurs, greatest}
use Rattle.memory.specs.rules.Limits.{max_lines}
use Rattle.memory.specs.rules.Refusals.{refuse_if}
use Rattle.labelling.specs.rules.Labels.{labelling}
use Rattle.memory.specs.declared.rect.Rect.{Rect}
use Rattle.params.specs.declared.LayoutParams.{LayoutParams}
use Rattle.levelling.specs.rules.Planes.{Levelling, levelling}
use Rattle.sorting.specs.rules.Sorted.{sorted, rules_of, graphics_of, KindCounts, kind_counts}
use Rattle.sorting.specs.rules.Units.{unit_value}
use Rattle.sorting.specs.declared.Unit.{Unit}
use Rattle.smoothing.specs.rules.Smoothing.{smoothing_gap, smoothed}
use Rattle.smoothing.specs.rules.Lines.{labelled_glyphs, SmoothedLine, no_smoothed_line, kept_lines, TextLine, GlyphBox, glyph_box}
use Rattle.grouping.specs.rules.Blocks.{Block, block_firsts, block_number, blocks_of}
use Rattle.grouping.specs.rules.Columns.{columns_of}
use Rattle.grouping.specs.declared.column.Column.{Column}

-- how many components each labelling of a segmentation has
pub record ComponentCounts : Type 0 where
  pub ink : ℕ
  pub horizontal_cuts : ℕ
  pub vertical_cuts : ℕ
  pub ink_after_cut : ℕ
  -- smoothed glyphs
  pub smears : ℕ

-- all results of a segmentation
pub record Layout : Type 0 where
  pub unit : Unit
  pub lines : List TextLine
  pub blocks : List Block
  pub rules : List Rect
  pub graphics : List Rect
  pub glyphs : List GlyphBox
  pub columns : List Column
  -- 01's sort plane
  pub plane : List ℕ
  -- counted before the cut
  pub ink_pixels : ℕ
  pub counts : KindCounts
  pub components : ComponentCounts

-- line i with its block
unfoldable pub text_line : List SmoothedLine → List ℕ → ℕ → TextLine
text_line ls fs i =
    let l = get_or ls i no_smoothed_line in
    record { bbox = l.bbox; glyphs = l.glyphs; ink_area = l.ink_area; glyph_height = l.glyph_height; block = block_number fs i }

-- the segmentation of an ink plane w wide and h high by a sheet
unfoldable pub layout : LayoutParams → ℕ → ℕ → List ℕ → Layout
layout p w h m =
    let s = sorted p w h m in
    let unit = unit_value s.unit in
    let smears = labelling w h (smoothed (smoothing_gap p unit) w h s.plane) in
    let gs = labelled_glyphs s.rest s.kinds smears in
    let ls = kept_lines p unit gs smears.components in
    let boxes = map (λ (l : SmoothedLine). l.bbox) ls in
    let fs = block_firsts p boxes in
    record {
      unit = s.unit;
      lines = table (text_line ls fs) (length ls);
      blocks = blocks_of boxes fs;
      rules = rules_of p w h s;
      graphics = graphics_of p w h s;
      glyphs = map (glyph_box ls) gs;
      columns = columns_of p unit w boxes;
      plane = s.plane;
      ink_pixels = occurs 1 m;
      counts = kind_counts s.plane;
      components = record {
        ink = length s.ink.components;
        horizontal_cuts = length s.horizontal.components;
        vertical_cuts = length s.vertical.components;
        ink_after_cut = length s.rest.components;
        smears = length smears.components;
      };
    }

-- a page: what levelling gives, and the segmentation of its ink
pub record Page : Type 0 where
  pub levelled : Levelling
  pub layout : Layout

-- all results for a mask w wide and h high, its skew and slope, the sheet of the levelling and the sheet of the segmenting
unfoldable pub page : List ℕ → ℕ → ℕ → Float → Float → LayoutParams → LayoutParams → Page
page mask w h skew slope level_sheet segment_sheet =
    let l = levelling mask w h skew slope level_sheet in
    record { levelled = l; layout = layout segment_sheet l.frame.w l.frame.h l.ink }

-- the greatest of the five counts
abbrev pub greatest_count : ComponentCounts → ℕ
greatest_count n = greatest (n.ink ∷ n.horizontal_cuts ∷ n.vertical_cuts ∷ n.ink_after_cut ∷ n.smears ∷ [])

-- 20 for more than P components in any labelling, 21 for more than 4,095 lines, else 0
unfoldable pub layout_refusal : ℕ → Layout → ℕ
layout_refusal P l = refuse_if (ltb P (greatest_count l.components)) 20 (refuse_if (ltb max_lines (length l.lines)) 21 0)

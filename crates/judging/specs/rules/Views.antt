-- What a store and its plane of kinds say of a segmentation, whatever they hold: each list is as many records as its count says.
use Rattle.std.specs.Prelude.{List, ℕ, ◌+◌, ◌*◌, Float, take}
use Rattle.memory.specs.rules.Floats.{float_at}
use Rattle.memory.specs.rules.Records.{encoded}
use Rattle.memory.specs.rules.Words.{word_at}
use Rattle.levelling.specs.rules.Frames.{Frame}
use Rattle.segmenting.specs.rules.Layouts.{Layout}
use Rattle.smoothing.specs.rules.LineRecords.{line_words, glyph_words, line_record, glyph_record}
use Rattle.grouping.specs.rules.BlockRecords.{block_words, column_words, block_record, column_record}
use Rattle.memory.specs.rules.Rects.{box_words}
use Rattle.segmenting.specs.rules.Results.{rules_at, graphics_at, glyph_records_at, lines_at, blocks_at}
use Rattle.segmenting.specs.rules.Figures.{figures_of, figures_length, figure_words}
use Rattle.judging.specs.rules.Header.{held, frame_held, figures_at, lists_at, part}

-- the words of a box
abbrev pub box_length : ℕ
box_length = 4

-- words of a record: a glyph's line, a line's glyph height and block, a block's count of lines
abbrev pub glyph_line_at : ℕ
glyph_line_at = 5

abbrev pub glyph_height_at : ℕ
glyph_height_at = 6

abbrev pub line_block_at : ℕ
line_block_at = 7

abbrev pub block_lines_at : ℕ
block_lines_at = 4

-- the frame, the applied skew, the words that tell of a segmentation, the words of each list, the kind of each frame dot
pub record View : Type 0 where
  pub frame : Frame
  pub skew : Float
  pub figures : List ℕ
  pub columns : List ℕ
  pub rules : List ℕ
  pub graphics : List ℕ
  pub glyphs : List ℕ
  pub lines : List ℕ
  pub blocks : List ℕ
  pub kinds : List ℕ

-- the places of the figures: the unit's case and value, then how long each list is, then the dots of ink and of each kind
abbrev pub unit_case : List ℕ → ℕ
unit_case figures = word_at figures 0

abbrev pub unit_held : List ℕ → Float
unit_held figures = float_at figures 1

abbrev pub rule_count : List ℕ → ℕ
rule_count figures = word_at figures 3

abbrev pub graphic_count : List ℕ → ℕ
graphic_count figures = word_at figures 4

abbrev pub glyph_count : List ℕ → ℕ
glyph_count figures = word_at figures 5

abbrev pub line_count : List ℕ → ℕ
line_count figures = word_at figures 6

abbrev pub block_count : List ℕ → ℕ
block_count figures = word_at figures 7

abbrev pub column_count : List ℕ → ℕ
column_count figures = word_at figures 8

-- where the dots of ink stand among the figures; those of kind k stand k words on
abbrev pub ink_dots_at : ℕ
ink_dots_at = 9

abbrev pub dots_of_kind : ℕ → List ℕ → ℕ
dots_of_kind k figures = word_at figures (ink_dots_at + k)

-- what the words s say, with the figures and the frame that they say
unfoldable pub view_with : List ℕ → Frame → Float → ℕ → List ℕ → List ℕ → View
view_with figures f skew P s kinds =
    let at = lists_at f.page_w f.h in
    record {
      frame = f;
      skew = skew;
      figures = figures;
      columns = part at (column_count figures * column_words) s;
      rules = part (at + rules_at f.w) (rule_count figures * box_length) s;
      graphics = part (at + graphics_at f.w P) (graphic_count figures * box_length) s;
      glyphs = part (at + glyph_records_at f.w P) (glyph_count figures * glyph_words) s;
      lines = part (at + lines_at f.w P) (line_count figures * line_words) s;
      blocks = part (at + blocks_at f.w P) (block_count figures * block_words) s;
      kinds = take (f.w * f.h) kinds;
    }

-- what the words of a store and the bytes of a plane say
unfoldable pub view_of : List ℕ → List ℕ → View
view_of s kinds = view_with (part figures_at figures_length s) (frame_held (held s)) (held s).skew (held s).capacity s kinds

-- what they say of a layout in a frame, by the rules alone (01, parts 4 to 8)
unfoldable pub view_of_layout : Frame → Float → Layout → View
view_of_layout f skew l =
    record {
      frame = f;
      skew = skew;
      figures = figure_words (figures_of l);
      columns = encoded column_record l.columns;
      rules = encoded box_words l.rules;
      graphics = encoded box_words l.graphics;
      glyphs = encoded glyph_record l.glyphs;
      lines = encoded line_record l.lines;
      blocks = encoded block_record l.blocks;
      kinds = l.plane;
    }

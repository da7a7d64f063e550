-- The lists of a segmentation in the words of its results, and the sheet of these words.
use Rattle.std.specs.Prelude.{ℕ, ◌+◌, ◌*◌, ◌≤◌, List, length}
use Rattle.segmenting.specs.rules.Figures.{figures_length}
use Rattle.segmenting.specs.declared.places.ResultPlaces.{ResultPlaces}
use Rattle.judging.specs.rules.Views.{rule_count, graphic_count, glyph_count, line_count, block_count, column_count}
use Rattle.listing.specs.declared.sheet.SheetSides.{SheetSides}
use Rattle.listing.specs.rules.Pages.{edition}
use Rattle.listing.specs.rules.Sheets.{field_count, sheet_text}
use Rattle.listing.specs.stages.Parts.{entries_at}

-- all figures are there, and each list has the words of as many entries as they say behind its place
pub record ListsIn (figures : List ℕ) (q : ResultPlaces) (words : ℕ) : Type 0 where
  pub all_figures : figures_length ≤ length figures
  pub all_lines : q.lines + line_count figures * field_count 1 ≤ words
  pub all_blocks : q.blocks + block_count figures * field_count 2 ≤ words
  pub all_rules : q.rules + rule_count figures * field_count 3 ≤ words
  pub all_graphics : q.graphics + graphic_count figures * field_count 4 ≤ words
  pub all_glyphs : q.glyphs + glyph_count figures * field_count 5 ≤ words
  pub all_columns : q.columns + column_count figures * field_count 6 ≤ words

-- the words of each list
abbrev pub lines_in : List ℕ → List ℕ → ResultPlaces → List ℕ
lines_in figures words q = entries_at words q.lines 1 (line_count figures)

abbrev pub blocks_in : List ℕ → List ℕ → ResultPlaces → List ℕ
blocks_in figures words q = entries_at words q.blocks 2 (block_count figures)

abbrev pub rules_in : List ℕ → List ℕ → ResultPlaces → List ℕ
rules_in figures words q = entries_at words q.rules 3 (rule_count figures)

abbrev pub graphics_in : List ℕ → List ℕ → ResultPlaces → List ℕ
graphics_in figures words q = entries_at words q.graphics 4 (graphic_count figures)

abbrev pub glyphs_in : List ℕ → List ℕ → ResultPlaces → List ℕ
glyphs_in figures words q = entries_at words q.glyphs 5 (glyph_count figures)

abbrev pub columns_in : List ℕ → List ℕ → ResultPlaces → List ℕ
columns_in figures words q = entries_at words q.columns 6 (column_count figures)

-- the sheet of the words
abbrev pub sheet_in : SheetSides → List ℕ → List ℕ → ResultPlaces → List ℕ
sheet_in sides figures words q =
    sheet_text edition sides.w sides.h sides.page_w sides.page_h figures (lines_in figures words q) (blocks_in figures words q) (rules_in figures words q)
    (graphics_in figures words q) (glyphs_in figures words q) (columns_in figures words q)

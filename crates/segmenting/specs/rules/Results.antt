-- The lists of a segmentation in the words lent for results, one after the other (01, "Records lie in lent words").
use Rattle.std.specs.Prelude.{List, ℕ, ◌+◌, ◌*◌}
use Rattle.memory.specs.rules.Words.{over, put_at}
use Rattle.memory.specs.rules.Records.{encoded}
use Rattle.memory.specs.rules.Rects.{box_words}
use Rattle.segmenting.specs.rules.Layouts.{Layout}
use Rattle.grouping.specs.rules.BlockRecords.{column_record, block_record}
use Rattle.smoothing.specs.rules.LineRecords.{glyph_record, line_record}

-- columns come first, at most one a frame column; then room for at most 3 × P rules
abbrev pub rules_at : ℕ → ℕ
rules_at w = 2 * w

-- P graphics
abbrev pub graphics_at : ℕ → ℕ → ℕ
graphics_at w P = rules_at w + 12 * P

-- P glyphs
abbrev pub glyph_records_at : ℕ → ℕ → ℕ
glyph_records_at w P = rules_at w + 16 * P

-- P lines
abbrev pub lines_at : ℕ → ℕ → ℕ
lines_at w P = rules_at w + 22 * P

-- P blocks
abbrev pub blocks_at : ℕ → ℕ → ℕ
blocks_at w P = rules_at w + 30 * P

-- all of them
abbrev pub result_words : ℕ → ℕ → ℕ
result_words w P = rules_at w + 35 * P

-- the lists of a layout in their places
unfoldable pub results_left : ℕ → ℕ → Layout → List ℕ → List ℕ
results_left w P l s =
    over (encoded column_record l.columns)
    (put_at (lines_at w P) (encoded line_record l.lines)
    (put_at (blocks_at w P) (encoded block_record l.blocks)
    (put_at (glyph_records_at w P) (encoded glyph_record l.glyphs)
    (put_at (graphics_at w P) (encoded box_words l.graphics)
    (put_at (rules_at w) (encoded box_words l.rules) s)))))

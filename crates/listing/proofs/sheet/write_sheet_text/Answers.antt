use Rattle.judging.specs.rules.Views.{rule_count, graphic_count, glyph_count, line_count, block_count, column_count}
use Rattle.listing.specs.rules.Pages.{edition}
use Rattle.listing.specs.stages.Lists.{lines_in, blocks_in, rules_in, graphics_in, glyphs_in, columns_in}
use Rattle.listing.proofs.EntryLaws.{found-long}
use Rattle.listing.proofs.SheetLaws.{found-room, found-put, first-room, second-room, dots-room, sheet-put}
use native.Mathlib.Omega.{arith}
use Rattle.listing.proofs.sheet.write_sheet_text.Goals as goal

pub put_three_kinds-q-requires : goal.put_three_kinds-q-requires
put_three_kinds-q-requires c =
    let a = c.args in
    let f = a.figures.now in
    let w = a.words.now in
    let q = a.places in (
      omega arith,
      found-long w q.lines 1 (line_count f) c.entries_at-lines.ensures c.requires.0.all_lines,
      found-long w q.blocks 2 (block_count f) c.entries_at-blocks.ensures c.requires.0.all_blocks,
      found-long w q.rules 3 (rule_count f) c.entries_at-rules.ensures c.requires.0.all_rules,
      found-room 1 c.entries_at-lines.ensures c.entries_at-blocks.ensures c.entries_at-rules.ensures c.put_head-p.new.out c.put_head-p.result (first-room edition a.sides.w a.sides.h a.sides.page_w a.sides.page_h f (lines_in f w q) (blocks_in f w q) (rules_in f w q) (graphics_in f w q) (glyphs_in f w q) (columns_in f w q) a.out.now c.requires.1 c.put_head-p.new.out c.put_head-p.result c.put_head-p.ensures),
    )

pub put_three_kinds-r-requires : goal.put_three_kinds-r-requires
put_three_kinds-r-requires c =
    let a = c.args in
    let f = a.figures.now in
    let w = a.words.now in
    let q = a.places in
    let one = found-put 1 c.entries_at-lines.ensures c.entries_at-blocks.ensures c.entries_at-rules.ensures c.put_three_kinds-q.ensures in (
      omega arith,
      found-long w q.graphics 4 (graphic_count f) c.entries_at-graphics.ensures c.requires.0.all_graphics,
      found-long w q.glyphs 5 (glyph_count f) c.entries_at-glyphs.ensures c.requires.0.all_glyphs,
      found-long w q.columns 6 (column_count f) c.entries_at-columns.ensures c.requires.0.all_columns,
      found-room 4 c.entries_at-graphics.ensures c.entries_at-glyphs.ensures c.entries_at-columns.ensures c.put_three_kinds-q.new.out c.put_three_kinds-q.result (second-room edition a.sides.w a.sides.h a.sides.page_w a.sides.page_h f (lines_in f w q) (blocks_in f w q) (rules_in f w q) (graphics_in f w q) (glyphs_in f w q) (columns_in f w q) a.out.now c.requires.1 c.put_head-p.new.out c.put_three_kinds-q.new.out c.put_head-p.result c.put_three_kinds-q.result c.put_head-p.ensures one),
    )

pub put_entry-requires : goal.put_entry-requires
put_entry-requires c =
    let a = c.args in
    let f = a.figures.now in
    let w = a.words.now in
    let q = a.places in
    let one = found-put 1 c.entries_at-lines.ensures c.entries_at-blocks.ensures c.entries_at-rules.ensures c.put_three_kinds-q.ensures in
    let two = found-put 4 c.entries_at-graphics.ensures c.entries_at-glyphs.ensures c.entries_at-columns.ensures c.put_three_kinds-r.ensures in
    (omega arith, c.requires.0.all_figures, dots-room edition a.sides.w a.sides.h a.sides.page_w a.sides.page_h f (lines_in f w q) (blocks_in f w q) (rules_in f w q) (graphics_in f w q) (glyphs_in f w q) (columns_in f w q) a.out.now c.requires.1 c.put_head-p.new.out c.put_three_kinds-q.new.out c.put_three_kinds-r.new.out c.put_head-p.result c.put_three_kinds-q.result c.put_three_kinds-r.result c.put_head-p.ensures one two)

pub returns : goal.returns
returns c =
    let a = c.args in
    let f = a.figures.now in
    let w = a.words.now in
    let q = a.places in
    let one = found-put 1 c.entries_at-lines.ensures c.entries_at-blocks.ensures c.entries_at-rules.ensures c.put_three_kinds-q.ensures in
    let two = found-put 4 c.entries_at-graphics.ensures c.entries_at-glyphs.ensures c.entries_at-columns.ensures c.put_three_kinds-r.ensures in
    sheet-put edition a.sides.w a.sides.h a.sides.page_w a.sides.page_h f (lines_in f w q) (blocks_in f w q) (rules_in f w q) (graphics_in f w q) (glyphs_in f w q) (columns_in f w q) a.out.now c.requires.1 c.put_head-p.new.out c.put_three_kinds-q.new.out c.put_three_kinds-r.new.out c.put_entry.new.out c.put_head-p.result c.put_three_kinds-q.result c.put_three_kinds-r.result c.put_entry.result c.put_head-p.ensures one two c.put_entry.ensures

-- One name that opens every definition of the chain: an example that says `unfolding computed` is computed whole.
use lib.Ieee.{round, mul, neg, add, div, le, lt, eq, of_int, of_bits, to_bits, to_unsigned, to_signed}
use Rattle.memory.specs.rules.Lists.{table, upto, keep, count_if, occurs, total, greatest, index_from, insert_by, sort_by}
use Rattle.memory.specs.rules.Refusals.{refuse_if}
use Rattle.rounding.specs.rules.Rounding.{round_half_away}
use Rattle.union_find.specs.rules.Classes.{renamed, join, join_if, join_one, join_all, firsts}
use Rattle.memory.specs.rules.Masks.{is_ink}
use Rattle.labelling.specs.rules.Labels.{touches, is_first, label_at, component_to, labelling}
use Rattle.levelling.specs.rules.Shears.{magnitude, applied, least_entry, shear_of}
use Rattle.levelling.specs.rules.Frames.{frame, row_of, column_of}
use Rattle.levelling.specs.rules.Mapping.{to_page, rect_to_page}
use Rattle.levelling.specs.rules.Planes as Planes
use Rattle.levelling.specs.rules.Planes.{level_at, levelled}
use Rattle.extents.specs.rules.Extents.{ink_at, mask_of, behind, ahead, run_through, extent, row_extents, column_extents}
use Rattle.rulings.specs.rules.Rulings.{run_min, thick_max, widened, in_thin_ruling, cut_horizontal, cut_vertical, after_cut}
use Rattle.sorting.specs.rules.Units.{median, under_extents, measurable, unit_from, unit_of}
use Rattle.sorting.specs.rules.Kinds.{kind_at}
use Rattle.sorting.specs.rules.Sorted.{sorted, boxes_of, rules_of, graphics_of, kind_counts}
use Rattle.smoothing.specs.rules.Smoothing.{smoothing_gap, glyph_at, joined, smoothed}
use Rattle.smoothing.specs.stages.ClosedRuns.{closed_from, closed}
use Rattle.smoothing.specs.rules.Lines.{first_dot, labelled_glyphs, smoothed_line, is_line, keys_at_most, kept_lines, line_number, glyph_box}
use Rattle.grouping.specs.rules.Blocks.{line_height, hard_cap, candidates, least_of, nearest_gaps, max_gap, together, block_firsts, opens_block, block_number, union_all, block_of, blocks_of}
use Rattle.grouping.specs.rules.Columns.{cover, covered, columns_from, column_runs, columns_of}
use Rattle.segmenting.specs.rules.Layouts.{text_line, layout, page, layout_refusal}
use Rattle.grouping.specs.rules.Readings.{differences, pitches, listed, columns_and_rows, dot_list}
use Rattle.segmenting.specs.rules.LayoutReadings.{twenty_line_measure, summary}

unfoldable pub computed : Unit {0}
unfolding round mul neg add div le lt eq of_int of_bits to_bits to_unsigned to_signed table upto keep count_if occurs total greatest index_from insert_by sort_by refuse_if round_half_away renamed join join_if join_one join_all firsts is_ink touches is_first label_at component_to labelling magnitude applied least_entry shear_of frame row_of column_of to_page rect_to_page level_at levelled Planes.levelling ink_at mask_of behind ahead run_through extent row_extents column_extents run_min thick_max widened in_thin_ruling cut_horizontal cut_vertical after_cut median under_extents measurable unit_from unit_of kind_at sorted boxes_of rules_of graphics_of kind_counts smoothing_gap glyph_at joined smoothed closed_from closed first_dot labelled_glyphs smoothed_line is_line keys_at_most kept_lines line_number line_height hard_cap candidates least_of nearest_gaps max_gap together block_firsts opens_block block_number union_all block_of blocks_of cover covered columns_from column_runs columns_of text_line glyph_box layout page layout_refusal differences pitches twenty_line_measure summary listed columns_and_rows dot_list
computed = tt

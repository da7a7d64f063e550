-- The ink account: a plain machine fed with the calls alone, never with what store or planes contain, nor with answers (01, demand 3's paragraph).
use Rattle.std.specs.Prelude.{Bool, false, cond, List, [], ◌∷◌, ℕ, eqb, ltb, length}
use Rattle.memory.specs.rules.Records.{encoded}
use Rattle.memory.specs.rules.Words.{over}
use Rattle.rounding.specs.rules.Rounding.{positive_zero}
use Rattle.params.specs.declared.LayoutParams.{LayoutParams}
use Rattle.levelling.specs.rules.Planes.{Levelling}
use Rattle.segmenting.specs.rules.Layouts.{Layout, layout_refusal}
use Rattle.segmenting.specs.rules.LayoutReadings as readings
use Rattle.segmenting.specs.rules.LayoutReadings.{twenty_line_measure}
use Rattle.grouping.specs.rules.Readings.{summary_numbers, dot_list}
use Rattle.smoothing.specs.rules.LineRecords.{line_record, glyph_record}
use Rattle.grouping.specs.rules.BlockRecords.{block_record, column_record}
use Rattle.memory.specs.rules.Rects.{box_words}
use Rattle.segmenting.specs.rules.Figures.{figures_of, figure_words}
use Rattle.judging.specs.rules.Header.{Held, frame_held, empty_state, levelled_state, segmented_state}
use Rattle.judging.specs.rules.Leaves.{Leaf, levelling_of, leaf_held, layout_of}
use Rattle.judging.specs.rules.Refusals.{level_refusal, segment_refusal, result_refusal, level_reading_refusal, clear_refusal}
use Rattle.listing.specs.rules.Pages.{page_sheet}
use Rattle.store.specs.rules.Readings.{Output, filled, lacking_level, bad_level, fill_level, lent_level, Which, ResultReading, lacking_result, bad_result, lent_result, dot_count}
use Rattle.store.specs.rules.Readings.Output.{none, words, floats}
use Rattle.store.specs.rules.Readings.Which.{columns, rules, graphics, glyphs, lines, blocks}
use Rattle.store.specs.rules.Readings.ResultReading.{figures, summary, list, twenty_lines, count_dots, dots, listing}
use Rattle.store.specs.rules.Outcomes.{Told, told_by}
use Rattle.account.specs.rules.Calls.{Lent, Act, Call}
use Rattle.account.specs.rules.Calls.Act.{level, segment, clear, read_level, read_result}

-- nothing; the arguments of the last accepted levelling; those and the sheet of the last accepted segmenting since
pub data Account : Type 0 where
  nothing : Account
  levelled : Leaf → Account
  segmented : Leaf → LayoutParams → Account

-- what a store would say of it
abbrev pub held_by : Account → Held
held_by nothing = record { state = empty_state; page_w = 0; page_h = 0; w = 0; h = 0; capacity = 0; skew = positive_zero; slope = positive_zero }
held_by (levelled a) = leaf_held levelled_state a
held_by (segmented a sheet) = leaf_held segmented_state a

-- 20 or 21, by the rules, for a page segmented with this sheet
abbrev pub pieces_by : Account → LayoutParams → ℕ
pieces_by nothing sheet = 0
pieces_by (levelled a) sheet = layout_refusal a.capacity (layout_of a sheet)
pieces_by (segmented a old) sheet = layout_refusal a.capacity (layout_of a sheet)

-- Answers by the rules: those of a layout and its levelling

-- the words of a list, and how long it is
abbrev pub list_by : Which → Layout → List ℕ
list_by columns l = encoded column_record l.columns
list_by rules l = encoded box_words l.rules
list_by graphics l = encoded box_words l.graphics
list_by glyphs l = encoded glyph_record l.glyphs
list_by lines l = encoded line_record l.lines
list_by blocks l = encoded block_record l.blocks

abbrev pub length_by : Which → Layout → ℕ
length_by columns l = length l.columns
length_by rules l = length l.rules
length_by graphics l = length l.graphics
length_by glyphs l = length l.glyphs
length_by lines l = length l.lines
length_by blocks l = length l.blocks

-- the printed sheet of the page that they are
abbrev pub sheet_by : Levelling → Layout → List ℕ
sheet_by v l = page_sheet (record { levelled = v; layout = l })

-- an output shorter than the answer
abbrev pub short_of : ResultReading → Levelling → Layout → Bool
short_of (figures out) v l = false
short_of (summary out) v l = false
short_of (list k out) v l = ltb (length out) (length (list_by k l))
short_of twenty_lines v l = false
short_of (count_dots k r) v l = false
short_of (dots k r out) v l = ltb (length out) (length (dot_list v.frame l.plane k r))
short_of (listing out) v l = ltb (length out) (length (sheet_by v l))

-- the value of an answer
abbrev pub value_of : ResultReading → Levelling → Layout → ℕ
value_of (figures out) v l = 0
value_of (summary out) v l = 0
value_of (list k out) v l = length_by k l
value_of twenty_lines v l = twenty_line_measure l
value_of (count_dots k r) v l = dot_count v.frame l.plane k r
value_of (dots k r out) v l = dot_count v.frame l.plane k r
value_of (listing out) v l = length (sheet_by v l)

-- what an answer fills
abbrev pub fill_of : ResultReading → Levelling → Layout → Output
fill_of (figures out) v l = words (over (figure_words (figures_of l)) out)
fill_of (summary out) v l = floats (filled (summary_numbers (readings.summary v.frame v.skew l)) out)
fill_of (list k out) v l = words (over (list_by k l) out)
fill_of twenty_lines v l = none
fill_of (count_dots k r) v l = none
fill_of (dots k r out) v l = words (over (dot_list v.frame l.plane k r) out)
fill_of (listing out) v l = words (over (sheet_by v l) out)

-- the same for what the account holds; a reading of results finds nothing where it does not hold both
abbrev pub short_by : Account → ResultReading → Bool
short_by nothing q = false
short_by (levelled a) q = false
short_by (segmented a sheet) q = short_of q (levelling_of a) (layout_of a sheet)

abbrev pub value_by : Account → ResultReading → ℕ
value_by nothing q = 0
value_by (levelled a) q = 0
value_by (segmented a sheet) q = value_of q (levelling_of a) (layout_of a sheet)

abbrev pub fill_by : Account → ResultReading → Output
fill_by nothing q = lent_result q
fill_by (levelled a) q = lent_result q
fill_by (segmented a sheet) q = fill_of q (levelling_of a) (layout_of a sheet)

-- The machine

-- the number that a call gets, 0 where it is accepted: the refusals, from what the account holds and is fed, and nothing spoiled
abbrev pub tell : Account → Lent → Act → ℕ
tell m l (level a) = level_refusal a l.store l.ink (held_by m).state
tell m l (segment sheet x) = segment_refusal sheet l.store l.ink l.kinds x (held_by m) false (pieces_by m sheet)
tell m l clear = clear_refusal l.store
tell m l (read_level q) = level_reading_refusal l.store (held_by m) (lacking_level q (held_by m)) false (bad_level q (held_by m))
tell m l (read_result q) = result_refusal l.store l.ink l.kinds (held_by m) (lacking_result q) false (bad_result q (frame_held (held_by m))) (short_by m q)

-- its value and what it fills, where it is accepted
abbrev pub gives : Account → Act → ℕ
gives m (level a) = 0
gives m (segment sheet x) = 0
gives m clear = 0
gives m (read_level q) = 0
gives m (read_result q) = value_by m q

abbrev pub fills : Account → Act → Output
fills m (level a) = none
fills m (segment sheet x) = none
fills m clear = none
fills m (read_level q) = fill_level q (held_by m)
fills m (read_result q) = fill_by m q

-- what it is lent for the answer
abbrev pub lends : Act → Output
lends (level a) = none
lends (segment sheet x) = none
lends clear = none
lends (read_level q) = lent_level q
lends (read_result q) = lent_result q

abbrev pub reply : Account → Call → Told
reply m c = told_by (tell m c.lent c.act) (gives m c.act) (fills m c.act) (lends c.act)

-- what an accepted call makes of the account
abbrev pub took : Account → Act → Account
took m (level a) = levelled a
took nothing (segment sheet x) = nothing
took (levelled a) (segment sheet x) = segmented a sheet
took (segmented a old) (segment sheet x) = segmented a sheet
took m clear = nothing
took m (read_level q) = m
took m (read_result q) = m

abbrev pub next : Account → Call → Account
next m c = cond (eqb (tell m c.lent c.act) 0) (took m c.act) m

abbrev pub account : Account → List Call → Account
account m [] = m
account m (c ∷ cs) = account (next m c) cs

abbrev pub replies : Account → List Call → List Told
replies m [] = []
replies m (c ∷ cs) = reply m c ∷ replies (next m c) cs

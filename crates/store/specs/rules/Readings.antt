-- What each reading asks and answers, from what the store says (01, part 8, "Added by us"): for any store, not only for one that was segmented.
use Rattle.std.specs.Prelude.{Bool, false, cond, not, ◌&&◌, ◌||◌, List, [], ◌∷◌, ◌++◌, ℕ, ◌*◌, eqb, ltb, leb, ℤ, pos, Float, length, drop}
use Rattle.memory.specs.rules.Lists.{upto, keep}
use Rattle.memory.specs.rules.Words.{word_at, over}
use Rattle.memory.specs.declared.rect.Rect.{Rect}
use Rattle.levelling.specs.rules.Frames.{Frame}
use Rattle.levelling.specs.rules.Mapping.{to_page, rect_to_page}
use Rattle.levelling.specs.rules.Planes.{level_gray}
use Rattle.levelling.specs.declared.Point.{Point}
use Rattle.sorting.specs.rules.Kinds.{glyph_kind, speck_kind}
use Rattle.sorting.specs.rules.Units.{median}
use Rattle.grouping.specs.rules.HeldLines.{centre_at, block_at, pitches_below}
use Rattle.memory.specs.rules.Records.{fields}
use Rattle.grouping.specs.rules.Readings.{twenty_of, summarized, summary_numbers, listed, dot_list}
use Rattle.smoothing.specs.rules.LineRecords.{line_words}
use Rattle.grouping.specs.declared.summary.Summary.{Summary}
use Rattle.grouping.specs.declared.summary.Totals.{Totals}
use Rattle.segmenting.specs.rules.Figures.{figures_length}
use Rattle.judging.specs.rules.Header.{Held, frame_held, dots_held, low_word, high_word}
use Rattle.judging.specs.rules.Views.{glyph_height_at, View, unit_case, unit_held, ink_dots_at, dots_of_kind, rule_count, graphic_count, glyph_count, line_count, block_count, column_count}
use Rattle.listing.specs.rules.Sheets.{sheet_held}

-- what a reading fills: nothing, words or bytes, signed numbers, floats
pub data Output : Type 0 where
  none : Output
  words : List ℕ → Output
  integers : List ℤ → Output
  floats : List Float → Output

-- values over the front of what is lent
abbrev pub filled : {A : Type 0} → List A → List A → List A
filled v s = v ++ drop (length v) s

-- a box with both corners inside the frame, x0 ≤ x1 and y0 ≤ y1 (01, refusal 8)
abbrev pub box_inside : Frame → Rect → Bool
box_inside f r = leb r.x0 r.x1 && ltb r.x1 f.w && leb r.y0 r.y1 && ltb r.y1 f.h

-- Readings that need only a levelled page

-- a point, a box, a gray plane, the frame's figures; each with what is lent for the answer
pub data LevelReading : Type 0 where
  point : ℕ → ℕ → List ℤ → LevelReading
  box : Rect → List ℤ → LevelReading
  gray : List ℕ → List ℕ → LevelReading
  frame_figures : List ℕ → LevelReading

-- the numbers of a point, of a box, of the frame's figures
abbrev pub point_length : ℕ
point_length = 2

abbrev pub rect_length : ℕ
rect_length = 4

abbrev pub frame_length : ℕ
frame_length = 8

-- what it is lent is too short, or its gray plane not of page size (01, refusal 9)
abbrev pub lacking_level : LevelReading → Held → Bool
lacking_level (point x y out) g = ltb (length out) point_length
lacking_level (box r out) g = ltb (length out) rect_length
lacking_level (gray plane out) g = not (eqb (length plane) (g.page_w * g.page_h)) || ltb (length out) (dots_held g)
lacking_level (frame_figures out) g = ltb (length out) frame_length

-- a point outside the frame, a box with a corner outside or reversed (01, refusal 8)
abbrev pub bad_level : LevelReading → Held → Bool
bad_level (point x y out) g = not (ltb x (frame_held g).w && ltb y (frame_held g).h)
bad_level (box r out) g = not (box_inside (frame_held g) r)
bad_level (gray plane out) g = false
bad_level (frame_figures out) g = false

-- page column, then page row
abbrev pub point_numbers : Point → List ℤ
point_numbers p = p.x ∷ p.y ∷ []

abbrev pub rect_numbers : Rect → List ℤ
rect_numbers r = pos r.x0 ∷ pos r.y0 ∷ pos r.x1 ∷ pos r.y1 ∷ []

-- page sides, frame sides, applied skew, applied slope
abbrev pub frame_words : Held → List ℕ
frame_words g =
    g.page_w ∷ g.page_h ∷ (frame_held g).w ∷ (frame_held g).h ∷ low_word g.skew ∷ high_word g.skew ∷ low_word g.slope ∷ high_word g.slope ∷ []

-- what it fills
abbrev pub fill_level : LevelReading → Held → Output
fill_level (point x y out) g = integers (filled (point_numbers (to_page (frame_held g) x y)) out)
fill_level (box r out) g = integers (filled (rect_numbers (rect_to_page (frame_held g) r)) out)
fill_level (gray plane out) g = words (over (level_gray (frame_held g) plane) out)
fill_level (frame_figures out) g = words (over (frame_words g) out)

-- what it is lent
abbrev pub lent_level : LevelReading → Output
lent_level (point x y out) = integers out
lent_level (box r out) = integers out
lent_level (gray plane out) = words out
lent_level (frame_figures out) = words out

-- Readings of results

-- one of the six lists
pub data Which : Type 0 where
  columns : Which
  rules : Which
  graphics : Which
  glyphs : Which
  lines : Which
  blocks : Which

-- the figures, `summarize`, a list, the twenty-line measure, how many dots of one kind lie in a box, those dots, the printed sheet
pub data ResultReading : Type 0 where
  figures : List ℕ → ResultReading
  summary : List Float → ResultReading
  list : Which → List ℕ → ResultReading
  twenty_lines : ResultReading
  count_dots : ℕ → Rect → ResultReading
  dots : ℕ → Rect → List ℕ → ResultReading
  listing : List ℕ → ResultReading

-- the numbers of `summarize`
abbrev pub summary_length : ℕ
summary_length = 12

-- an output of fixed length that is too short
abbrev pub lacking_result : ResultReading → Bool
lacking_result (figures out) = ltb (length out) figures_length
lacking_result (summary out) = ltb (length out) summary_length
lacking_result (list k out) = false
lacking_result twenty_lines = false
lacking_result (count_dots k r) = false
lacking_result (dots k r out) = false
lacking_result (listing out) = false

-- a kind outside 1 to 5, or a bad box (01, refusal 8)
abbrev pub bad_dots : Frame → ℕ → Rect → Bool
bad_dots f k r = not (ltb 0 k && leb k speck_kind) || not (box_inside f r)

abbrev pub bad_result : ResultReading → Frame → Bool
bad_result (figures out) f = false
bad_result (summary out) f = false
bad_result (list k out) f = false
bad_result twenty_lines f = false
bad_result (count_dots k r) f = bad_dots f k r
bad_result (dots k r out) f = bad_dots f k r
bad_result (listing out) f = false

-- the words of a list, and how many records they are
abbrev pub list_words : Which → View → List ℕ
list_words columns v = v.columns
list_words rules v = v.rules
list_words graphics v = v.graphics
list_words glyphs v = v.glyphs
list_words lines v = v.lines
list_words blocks v = v.blocks

abbrev pub list_count : Which → View → ℕ
list_count columns v = column_count v.figures
list_count rules v = rule_count v.figures
list_count graphics v = graphic_count v.figures
list_count glyphs v = glyph_count v.figures
list_count lines v = line_count v.figures
list_count blocks v = block_count v.figures

-- the figures with 1 for any case of the unit but 0
abbrev pub figures_told : List ℕ → List ℕ
figures_told c = cond (eqb (unit_case c) 0) 0 1 ∷ drop 1 c

-- the differences of y0 + y1 between following lines of a block, by the block number that each line holds
abbrev pub pitches_held : View → List ℕ
pitches_held v = pitches_below (centre_at v.lines) (block_at v.lines) (line_count v.figures) (block_count v.figures)

-- what is counted
abbrev pub totals_held : List ℕ → Totals
totals_held c =
    record {
      glyphs = glyph_count c;
      lines = line_count c;
      blocks = block_count c;
      columns = column_count c;
      rules = rule_count c;
      graphics = graphic_count c;
      glyph_ink = dots_of_kind glyph_kind c;
      ink = word_at c ink_dots_at;
    }

-- the twelve numbers of `summarize`
unfoldable pub summary_held : View → Summary
summary_held v =
    summarized (unit_held v.figures) v.skew v.frame.w v.frame.h (totals_held v.figures) (median (pitches_held v))
    (median (fields line_words glyph_height_at v.lines (line_count v.figures)))

-- the twenty-line measure of these
unfoldable pub twenty_held : View → ℕ
twenty_held v = twenty_of (pitches_held v)

-- how many page dots of one kind have their frame place in the box
unfoldable pub dot_count : Frame → List ℕ → ℕ → Rect → ℕ
dot_count f kinds k r = length (keep (listed f kinds k r) (upto (f.page_w * f.page_h)))

-- an output shorter than what is held
abbrev pub short_result : ResultReading → View → Bool
short_result (figures out) v = false
short_result (summary out) v = false
short_result (list k out) v = ltb (length out) (length (list_words k v))
short_result twenty_lines v = false
short_result (count_dots k r) v = false
short_result (dots k r out) v = ltb (length out) (length (dot_list v.frame v.kinds k r))
short_result (listing out) v = ltb (length out) (length (sheet_held v))

-- the value that it answers
abbrev pub value_result : ResultReading → View → ℕ
value_result (figures out) v = 0
value_result (summary out) v = 0
value_result (list k out) v = list_count k v
value_result twenty_lines v = twenty_held v
value_result (count_dots k r) v = dot_count v.frame v.kinds k r
value_result (dots k r out) v = dot_count v.frame v.kinds k r
value_result (listing out) v = length (sheet_held v)

-- what it fills
abbrev pub fill_result : ResultReading → View → Output
fill_result (figures out) v = words (over (figures_told v.figures) out)
fill_result (summary out) v = floats (filled (summary_numbers (summary_held v)) out)
fill_result (list k out) v = words (over (list_words k v) out)
fill_result twenty_lines v = none
fill_result (count_dots k r) v = none
fill_result (dots k r out) v = words (over (dot_list v.frame v.kinds k r) out)
fill_result (listing out) v = words (over (sheet_held v) out)

-- what it is lent
abbrev pub lent_result : ResultReading → Output
lent_result (figures out) = words out
lent_result (summary out) = floats out
lent_result (list k out) = words out
lent_result twenty_lines = none
lent_result (count_dots k r) = none
lent_result (dots k r out) = words out
lent_result (listing out) = words out

-- The lists of a store by their places: each is an area behind the shears, a record width and a word of the header that counts its records.
use Rattle.std.specs.Prelude.{Bool, true, Result, Ok, Err, ◌≡◌, List, [], ◌∷◌, ℕ, ◌+◌, ◌*◌, ◌≤◌, ◌<◌, length, get_or, take, drop}
use Rattle.memory.specs.rules.Floats.{float_at}
use Rattle.memory.specs.rules.Limits.{max_page_side, max_frame_width, max_frame_height, max_capacity}
use Rattle.memory.specs.declared.refusals.Refusal.{Refusal}
use Rattle.memory.specs.rules.Refusals.{number}
use Rattle.levelling.specs.rules.Frames.{Frame, frame_of}
use Rattle.levelling.specs.declared.frame.FrameSize.{FrameSize}
use Rattle.grouping.specs.stages.Dots.{FrameWords, OneWay}
use Rattle.sorting.specs.rules.Units.{median}
use Rattle.grouping.specs.rules.Readings.{twenty_of, summarized}
use Rattle.grouping.specs.declared.summary.Summary.{Summary}
use Rattle.grouping.specs.rules.HeldLines.{centre_at, block_at, pitches_below}
use Rattle.memory.specs.rules.Records.{fields}
use Rattle.grouping.specs.stages.Pitches.{BlockedLines}
use Rattle.smoothing.specs.rules.LineRecords.{line_words, glyph_words}
use Rattle.grouping.specs.rules.BlockRecords.{block_words, column_words}
use Rattle.segmenting.specs.rules.Figures.{figures_length}
use Rattle.segmenting.specs.stages.Places.{result_places}
use Rattle.segmenting.specs.declared.places.ResultPlaces.{ResultPlaces}
use Rattle.judging.specs.rules.Header.{held, frame_held, low_word, high_word, part, figures_at, lists_at}
use Rattle.judging.specs.rules.Spoiled.{limits_ok}
use Rattle.judging.specs.stages.Judged.{frame_judged, level_judged}
use Rattle.judging.specs.rules.Views.{glyph_height_at, box_length}
use Rattle.listing.specs.rules.Pages.{edition}
use Rattle.listing.specs.rules.Sheets.{sheet_text}
use Rattle.store.specs.rules.Readings.{Which}
use Rattle.store.specs.declared.lists.ListName as lists
use Rattle.store.specs.declared.lists.ListName.TheVariants as named
use Rattle.store.specs.rules.Readings.Which.{columns, rules, graphics, glyphs, lines, blocks}

-- the list that is named
abbrev pub which_of : lists.ListName → Which
which_of named.Columns = columns
which_of named.Rules = rules
which_of named.Graphics = graphics
which_of named.Glyphs = glyphs
which_of named.Lines = lines
which_of named.Blocks = blocks

-- where it begins behind the shears, by the places of the lists
abbrev pub place_in : Which → ResultPlaces → ℕ
place_in columns q = q.columns
place_in rules q = q.rules
place_in graphics q = q.graphics
place_in glyphs q = q.glyphs
place_in lines q = q.lines
place_in blocks q = q.blocks

-- .. in a frame w wide with capacity P
abbrev pub area_at : Which → ℕ → ℕ → ℕ
area_at k w P = place_in k (result_places w P)

-- the words of a record
abbrev pub record_words : Which → ℕ
record_words columns = column_words
record_words rules = box_length
record_words graphics = box_length
record_words glyphs = glyph_words
record_words lines = line_words
record_words blocks = block_words

-- the word of the header that counts them
abbrev pub count_at : Which → ℕ
count_at columns = 18
count_at rules = 13
count_at graphics = 14
count_at glyphs = 15
count_at lines = 16
count_at blocks = 17

-- where a list of a store begins, how many records it has, their words
abbrev pub list_start : Which → List ℕ → ℕ
list_start k s = lists_at (get_or s 1 0) (get_or s 4 0) + area_at k (get_or s 3 0) (get_or s 5 0)

abbrev pub list_size : Which → List ℕ → ℕ
list_size k s = get_or s (count_at k) 0

abbrev pub list_read : Which → List ℕ → List ℕ
list_read k s = part (list_start k s) (list_size k s * record_words k) s

-- they lie in the store
pub record ListsAt (s : List ℕ) : Type 0 where
  pub words : 64 ≤ length s
  pub low : (get_or s 1 0 ≤ max_page_side) × (get_or s 3 0 ≤ max_frame_width) × (get_or s 4 0 ≤ max_frame_height) × (get_or s 5 0 ≤ max_capacity)
  pub room : (k : Which) → list_start k s + list_size k s * record_words k ≤ length s
  pub few : (k : Which) → list_size k s ≤ 3 * max_capacity

-- the sheet of a store by its words
abbrev pub sheet_read : List ℕ → List ℕ
sheet_read s =
    sheet_text edition (get_or s 3 0) (get_or s 4 0) (get_or s 1 0) (get_or s 2 0) (part figures_at figures_length s)
    (list_read lines s) (list_read blocks s) (list_read rules s) (list_read graphics s) (list_read glyphs s) (list_read columns s)

-- the frame that the words of a store say, with their shears
abbrev pub words_frame : List ℕ → Frame
words_frame s =
    frame_of (get_or s 1 0) (get_or s 2 0) (take (get_or s 1 0) (drop 64 s)) (take (get_or s 4 0) (drop (64 + get_or s 1 0) s)) (get_or s 3 0) (get_or s 4 0)

-- the frame's figures by its words
abbrev pub frame_put : List ℕ → List ℕ
frame_put s =
    get_or s 1 0 ∷ get_or s 2 0 ∷ get_or s 3 0 ∷ get_or s 4 0 ∷ low_word (float_at s 6) ∷ high_word (float_at s 6) ∷ low_word (float_at s 8) ∷ high_word (float_at s 8) ∷ []

-- the kinds of its dots
abbrev pub words_kinds : List ℕ → List ℕ → List ℕ
words_kinds s kinds = take (get_or s 3 0 * get_or s 4 0) kinds

-- they lie in the store and keep each page dot inside the frame
pub record FrameHere (s kinds : List ℕ) : Type 0 where
  pub words : 64 ≤ length s
  pub frame : FrameWords (words_frame s) (words_kinds s kinds)
  pub one_way : OneWay (words_frame s)
  pub room : 64 + (get_or s 1 0 + get_or s 4 0) ≤ length s
  pub dots : get_or s 3 0 * get_or s 4 0 ≤ length kinds
  pub page : get_or s 1 0 * get_or s 2 0 ≤ 67108864

-- n lines of a frame h high in m blocks, with their glyph heights
pub record LinesHere (h n m : ℕ) (s : List ℕ) : Type 0 where
  pub lines : BlockedLines h n m s
  pub heights : (i : ℕ) → i < n → get_or s (i * line_words + glyph_height_at) 0 ≤ h
  pub few : n ≤ max_capacity
  pub few_blocks : m ≤ max_capacity
  pub low : h ≤ max_frame_height

-- the words of the lines of a store
abbrev pub lines_words : List ℕ → List ℕ
lines_words s = list_read lines s

-- they lie in the store
pub record LinesAt (s : List ℕ) : Type 0 where
  pub lists : ListsAt s
  pub lines : LinesHere (get_or s 4 0) (get_or s 16 0) (get_or s 17 0) (lines_words s)

-- the median pitch and the median glyph height of these lines
unfoldable pub pitch_read : List ℕ → ℕ
pitch_read s = median (pitches_below (centre_at (lines_words s)) (block_at (lines_words s)) (get_or s 16 0) (get_or s 17 0))

unfoldable pub height_read : List ℕ → ℕ
height_read s = median (fields line_words glyph_height_at (lines_words s) (get_or s 16 0))

-- their twenty-line measure
unfoldable pub twenty_read : List ℕ → ℕ
twenty_read s = twenty_of (pitches_below (centre_at (lines_words s)) (block_at (lines_words s)) (get_or s 16 0) (get_or s 17 0))

-- the twelve numbers of `summarize`, from the words of a store
unfoldable pub summary_words : List ℕ → Summary
summary_words s =
    summarized (float_at s 11) (float_at s 6) (get_or s 3 0) (get_or s 4 0)
    (record {
      glyphs = get_or s 15 0;
      lines = get_or s 16 0;
      blocks = get_or s 17 0;
      columns = get_or s 18 0;
      rules = get_or s 13 0;
      graphics = get_or s 14 0;
      glyph_ink = get_or s 23 0;
      ink = get_or s 19 0;
    })
    (pitch_read s) (height_read s)

-- what the header of a levelled page gives: the size of the frame, and that the judgement of what follows is the whole judgement
pub record HeaderPassed (s : List ℕ) (size : FrameSize) : Type 0 where
  pub words : 64 ≤ length s
  pub limits : limits_ok (held s) ≡ true
  pub wide : size.w ≡ (frame_held (held s)).w
  pub high : size.h ≡ (frame_held (held s)).h
  pub w_fits : size.w ≤ max_frame_width
  pub h_fits : size.h ≤ max_frame_height
  pub judged : (lacking bad : Bool) → frame_judged s lacking bad ≡ level_judged s lacking bad

-- .. or the refusal, whatever follows
abbrev pub HeaderJudged : List ℕ → Result FrameSize Refusal → Type 0
HeaderJudged s (Ok size) = HeaderPassed s size
HeaderJudged s (Err r) = (lacking bad : Bool) → number r ≡ level_judged s lacking bad

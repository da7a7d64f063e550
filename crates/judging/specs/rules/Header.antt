-- The words of the store, and what they say of a levelling (01, "Added by us": the store, its first word the state).
use Rattle.std.specs.Prelude.{List, ℕ, ◌+◌, ◌*◌, ◌/◌, ◌%◌, ◌^◌, Float, take, drop}
use Rattle.std.specs.Float.{binary64}
use Rattle.std.specs.Float.Ieee.{to_bits}
use Rattle.memory.specs.rules.Floats.{float_at}
use Rattle.memory.specs.rules.Limits.{store_words, scratch_words}
use Rattle.memory.specs.rules.Words.{word_at}
use Rattle.levelling.specs.rules.Frames.{Frame, frame}

-- 0 empty, 1 levelled, 2 segmented
abbrev pub empty_state : ℕ
empty_state = 0

abbrev pub levelled_state : ℕ
levelled_state = 1

abbrev pub segmented_state : ℕ
segmented_state = 2

-- the header's words
abbrev pub header_words : ℕ
header_words = 64

-- the places of its words: the state, the page's sides, the frame's sides, P, the applied skew and slope, two words each
abbrev pub state_at : ℕ
state_at = 0

abbrev pub page_width_at : ℕ
page_width_at = 1

abbrev pub page_height_at : ℕ
page_height_at = 2

abbrev pub frame_width_at : ℕ
frame_width_at = 3

abbrev pub frame_height_at : ℕ
frame_height_at = 4

abbrev pub capacity_at : ℕ
capacity_at = 5

abbrev pub skew_at : ℕ
skew_at = 6

abbrev pub slope_at : ℕ
slope_at = 8

-- .. and where the figures begin that tell of a segmentation: the unit, the lengths of the lists, the dots of ink and of each kind
abbrev pub figures_at : ℕ
figures_at = 10

-- behind the header the two shears, and behind them the lists, for a page pw wide and a frame h high
abbrev pub lists_at : ℕ → ℕ → ℕ
lists_at pw h = header_words + pw + h

-- n words from word `at` on
unfoldable pub part : ℕ → ℕ → List ℕ → List ℕ
part at n s = take n (drop at s)

-- what the header says of a levelling: the state, the page's sides, the frame's sides, P, the applied skew and slope
pub record Held : Type 0 where
  pub state : ℕ
  pub page_w : ℕ
  pub page_h : ℕ
  pub w : ℕ
  pub h : ℕ
  pub capacity : ℕ
  pub skew : Float
  pub slope : Float

-- what the words of a store say
unfoldable pub held : List ℕ → Held
held s =
    record {
      state = word_at s state_at;
      page_w = word_at s page_width_at;
      page_h = word_at s page_height_at;
      w = word_at s frame_width_at;
      h = word_at s frame_height_at;
      capacity = word_at s capacity_at;
      skew = float_at s skew_at;
      slope = float_at s slope_at;
    }

-- the frame that the held slope gives: the lengths asked of lent memory go by it, and not by the held frame words
abbrev pub frame_held : Held → Frame
frame_held g = frame g.page_w g.page_h g.slope

-- its dots
abbrev pub dots_held : Held → ℕ
dots_held g = (frame_held g).w * (frame_held g).h

-- the words of the store that it asks
abbrev pub store_held : Held → ℕ
store_held g = store_words g.page_w (frame_held g).w (frame_held g).h g.capacity

-- the words of scratch that it asks
abbrev pub scratch_held : Held → ℕ
scratch_held g = scratch_words (dots_held g) g.capacity

-- a float's two words, low word first
abbrev pub low_word : Float → ℕ
low_word x = to_bits binary64 x % 2 ^ 32

abbrev pub high_word : Float → ℕ
high_word x = to_bits binary64 x / 2 ^ 32

-- Document 01's section "Limits": each number has its name here and is written nowhere else in the definitions.
use Rattle.std.specs.Prelude.{ℕ, ◌+◌, ◌*◌, ◌^◌}

-- the longest side of a page
abbrev pub max_page_side : ℕ
max_page_side = 8192

-- the widest levelled frame
abbrev pub max_frame_width : ℕ
max_frame_width = 24574

-- the highest levelled frame
abbrev pub max_frame_height : ℕ
max_frame_height = 16383

-- the greatest capacity of components, 01's P
abbrev pub max_capacity : ℕ
max_capacity = 65535

-- the most lines of a page
abbrev pub max_lines : ℕ
max_lines = 4095

-- the mark of a glyph that is in no line
abbrev pub no_line : ℕ
no_line = 0xFFF

-- the longest side of a mask for labelling and run extents called by themselves
abbrev pub max_mask_side : ℕ
max_mask_side = 131072

-- the most dots of such a mask
abbrev pub max_mask_dots : ℕ
max_mask_dots = 2 ^ 30

-- the greatest run extent told
abbrev pub max_extent : ℕ
max_extent = 65534

-- the words of a component's record when labelling is called by itself
abbrev pub component_words : ℕ
component_words = 9

-- the words of a store: page width, frame width, frame height, P
abbrev pub store_words : ℕ → ℕ → ℕ → ℕ → ℕ
store_words page_w w h P = 64 + page_w + h + 2 * w + 40 * P

-- the words of scratch for so many dots: those of the frame, or of a mask labelled by itself
abbrev pub scratch_words : ℕ → ℕ → ℕ
scratch_words dots P = 4 * dots + 16 * P + 64

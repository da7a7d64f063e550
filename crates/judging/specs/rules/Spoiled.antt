-- Which stores are spoiled (01, "Turned back by what is held": 16), test by test in 01's order.
use Rattle.std.specs.Prelude.{Bool, true, false, cond, not, ◌&&◌, ◌||◌, List, ◌++◌, ℕ, zero, suc, ◌+◌, ◌*◌, eqb, ltb, leb, pos, Float, take, get_or}
use Rattle.std.specs.Bool.{beq}
use Rattle.std.specs.Float.{fin}
use Rattle.std.specs.Float.Ieee.{le, lt}
use Rattle.std.specs.Float.Ieee.Scale.{finite}
use Rattle.memory.specs.rules.Limits.{max_page_side, max_capacity, max_lines, no_line}
use Rattle.memory.specs.rules.Words.{word_at, same_words}
use Rattle.params.specs.rules.Valid.{float_one, length_ok}
use Rattle.levelling.specs.rules.Frames.{Frame}
use Rattle.sorting.specs.rules.Kinds.{speck_kind}
use Rattle.smoothing.specs.rules.LineRecords.{line_words, glyph_words}
use Rattle.grouping.specs.rules.BlockRecords.{block_words}
use Rattle.memory.specs.rules.Masks.{is_mask}
use Rattle.judging.specs.rules.Header.{segmented_state, header_words, part, Held, held, frame_held, dots_held}
use Rattle.judging.specs.rules.Views.{view_of, glyph_height_at, block_lines_at, glyph_line_at, line_block_at, View, box_length, unit_case, unit_held, rule_count, graphic_count, glyph_count, line_count, block_count, column_count}

-- a page side within its limit
abbrev pub side_ok : ℕ → Bool
side_ok n = ltb 0 n && leb n max_page_side

abbrev pub capacity_ok : ℕ → Bool
capacity_ok P = ltb 0 P && leb P max_capacity

-- finite and at most 45 degrees in magnitude: no NaN passes a comparison (01, refusal 4)
unfoldable pub skew_ok : Float → Bool
skew_ok x = le (fin true 45 (pos 0)) x && le x (fin false 45 (pos 0))

-- finite and at most 1 in magnitude (01, refusal 5)
unfoldable pub slope_ok : Float → Bool
slope_ok x = le (fin true 1 (pos 0)) x && le x (fin false 1 (pos 0))

-- state word above 2
abbrev pub state_spoiled : Held → Bool
state_spoiled g = ltb segmented_state g.state

-- sizes, P, skew or slope outside limits
unfoldable pub limits_ok : Held → Bool
limits_ok g = side_ok g.page_w && side_ok g.page_h && capacity_ok g.capacity && skew_ok g.skew && slope_ok g.slope

-- the held frame words and the words of the shears are not those of the frame f
unfoldable pub frame_differs : Held → Frame → List ℕ → Bool
frame_differs g f s = not (eqb g.w f.w && eqb g.h f.h && same_words (part header_words (g.page_w + f.h) s) (f.shear ++ f.shear_x))

-- shears or frame other than the held slope gives
unfoldable pub frame_spoiled : List ℕ → Bool
frame_spoiled s = frame_differs (held s) (frame_held (held s)) s

-- ink bytes above 1
unfoldable pub ink_spoiled : ℕ → List ℕ → Bool
ink_spoiled dots ink = not (is_mask (take dots ink))

-- for readings of results also:

-- each number below n passes
unfoldable pub every : (ℕ → Bool) → ℕ → Bool
every p zero = true
every p (suc n) = every p n && p n

-- a measured unit not finite or below 1, an assumed one that `validate` rejects as `xheight_fallback_px`, is spoiled
abbrev pub unit_ok : List ℕ → Bool
unit_ok figures =
    let x = unit_held figures in
    cond (eqb (unit_case figures) 0) (length_ok x && not (lt x float_one)) (finite x && le float_one x)

-- counts within the limits: rules 3 × P, columns the frame width, others P, and lines 4,095 besides
abbrev pub counts_ok : ℕ → ℕ → List ℕ → Bool
counts_ok w P c =
    leb (rule_count c) (3 * P)
    && leb (graphic_count c) P
    && leb (glyph_count c) P
    && leb (line_count c) P
    && leb (line_count c) max_lines
    && leb (block_count c) P
    && leb (column_count c) w

-- the box in four words from word `at` on lies inside the frame and is not reversed
abbrev pub box_ok : ℕ → ℕ → List ℕ → ℕ → Bool
box_ok w h s at =
    leb (word_at s at) (word_at s (at + 2)) && ltb (word_at s (at + 2)) w && leb (word_at s (at + 1)) (word_at s (at + 3)) && ltb (word_at s (at + 3)) h

-- the boxes of n records of k words each
unfoldable pub boxes_ok : ℕ → ℕ → ℕ → List ℕ → ℕ → Bool
boxes_ok w h k s n = every (λ i. box_ok w h s (i * k)) n

-- word j of each of n records of k words passes
unfoldable pub fields_ok : (ℕ → Bool) → ℕ → ℕ → List ℕ → ℕ → Bool
fields_ok p k j s n = every (λ i. p (word_at s (i * k + j))) n

-- a kind at most 5, and 0 just where ink is 0
abbrev pub kind_ok : ℕ → ℕ → Bool
kind_ok ink kind = leb kind speck_kind && beq (eqb kind 0) (eqb ink 0)

-- the kinds of n dots
unfoldable pub kinds_ok : List ℕ → List ℕ → ℕ → Bool
kinds_ok ink kinds n = every (λ i. kind_ok (get_or ink i 0) (get_or kinds i 0)) n

-- unit, counts, a line's glyph height, a block's line count, boxes, line and block numbers, kinds
unfoldable pub results_ok : ℕ → List ℕ → View → Bool
results_ok P ink v =
    let w = v.frame.w in
    let h = v.frame.h in
    let c = v.figures in
    unit_ok c
    && counts_ok w P c
    && fields_ok (λ n. leb n h) line_words glyph_height_at v.lines (line_count c)
    && fields_ok (λ n. leb n (line_count c)) block_words block_lines_at v.blocks (block_count c)
    && boxes_ok w h box_length v.rules (rule_count c)
    && boxes_ok w h box_length v.graphics (graphic_count c)
    && boxes_ok w h glyph_words v.glyphs (glyph_count c)
    && boxes_ok w h line_words v.lines (line_count c)
    && boxes_ok w h block_words v.blocks (block_count c)
    && fields_ok (λ n. eqb n no_line || ltb n (line_count c)) glyph_words glyph_line_at v.glyphs (glyph_count c)
    && fields_ok (λ n. ltb n (block_count c)) line_words line_block_at v.lines (line_count c)
    && kinds_ok ink v.kinds (w * h)

-- the ink of the frame that a store tells
abbrev pub ink_held : Held → List ℕ → List ℕ
ink_held g ink = take (dots_held g) ink

-- what a store and its planes hold is spoiled for a reading of results
abbrev pub results_spoiled : List ℕ → List ℕ → List ℕ → Bool
results_spoiled s ink kinds =
    let g = held s in
    frame_spoiled s || ink_spoiled (dots_held g) ink || not (results_ok g.capacity (ink_held g ink) (view_of s kinds))

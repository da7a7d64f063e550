-- What segmenting judges before it looks at the page itself, and what readings judge, over the words that they are lent.
use Rattle.std.specs.Prelude.{Bool, ◌&&◌, ◌||◌, List, ℕ, ◌+◌, ◌*◌, eqb, ltb, leb, length}
use Rattle.memory.specs.rules.Limits.{no_line, scratch_words}
use Rattle.memory.specs.rules.Refusals.{refuse_if}
use Rattle.params.specs.declared.LayoutParams.{LayoutParams}
use Rattle.smoothing.specs.rules.LineRecords.{line_words, glyph_words}
use Rattle.grouping.specs.rules.BlockRecords.{block_words}
use Rattle.segmenting.specs.rules.Results.{rules_at, graphics_at, glyph_records_at, lines_at, blocks_at}
use Rattle.judging.specs.rules.Header.{held, part, dots_held, store_held}
use Rattle.judging.specs.rules.Views.{box_length, glyph_line_at, glyph_height_at, line_block_at, block_lines_at, rule_count, graphic_count, glyph_count, line_count, block_count}
use Rattle.judging.specs.rules.Spoiled.{frame_spoiled, ink_spoiled, unit_ok, counts_ok, boxes_ok, fields_ok, results_spoiled}
use Rattle.judging.specs.rules.Refusals.{segment_refusal, level_reading_refusal}

-- 9 where planes or scratch are too short for so many dots
abbrev pub length_refusal : ℕ → ℕ → ℕ → ℕ → ℕ → ℕ → ℕ
length_refusal dots P ink kinds scratch rest =
    refuse_if (ltb ink dots) 9 (refuse_if (ltb kinds dots) 9 (refuse_if (ltb scratch (scratch_words dots P)) 9 rest))

-- behind the header: 9 for the store and the other lengths, 16 for frame, shears and ink bytes
unfoldable pub behind_refusal : List ℕ → List ℕ → ℕ → ℕ → ℕ → ℕ
behind_refusal s ink kinds scratch rest =
    let g = held s in
    refuse_if (ltb (length s) (store_held g)) 9
    (length_refusal (dots_held g) g.capacity (length ink) kinds scratch (refuse_if (frame_spoiled s || ink_spoiled (dots_held g) ink) 16 rest))

-- all of it: 0 where only the page itself can still refuse
unfoldable pub segment_judged : LayoutParams → List ℕ → List ℕ → ℕ → ℕ → ℕ
segment_judged sheet s ink kinds scratch =
    segment_refusal sheet (length s) (length ink) kinds scratch (held s) (frame_spoiled s || ink_spoiled (dots_held (held s)) ink) 0

-- a reading that needs only a levelled page: behind the header 9 for the store, 9, 16 for frame and shears, 8
abbrev pub frame_judged : List ℕ → Bool → Bool → ℕ
frame_judged s lacking bad =
    refuse_if (ltb (length s) (store_held (held s))) 9 (refuse_if lacking 9 (refuse_if (frame_spoiled s) 16 (refuse_if bad 8 0)))

-- all of it
unfoldable pub level_judged : List ℕ → Bool → Bool → ℕ
level_judged s lacking bad = level_reading_refusal (length s) (held s) lacking (frame_spoiled s) bad

-- the tests of `results_ok` on the words of lists that begin at word `at`, with so many rules, graphics, glyphs, lines and blocks
unfoldable pub lists_ok : ℕ → ℕ → List ℕ → ℕ → ℕ → ℕ → ℕ → ℕ → ℕ → ℕ → Bool
lists_ok w h s at P r g y l b =
    fields_ok (λ n. leb n h) line_words glyph_height_at (part (at + lines_at w P) (l * line_words) s) l
    && fields_ok (λ n. leb n l) block_words block_lines_at (part (at + blocks_at w P) (b * block_words) s) b
    && boxes_ok w h box_length (part (at + rules_at w) (r * box_length) s) r
    && boxes_ok w h box_length (part (at + graphics_at w P) (g * box_length) s) g
    && boxes_ok w h glyph_words (part (at + glyph_records_at w P) (y * glyph_words) s) y
    && boxes_ok w h line_words (part (at + lines_at w P) (l * line_words) s) l
    && boxes_ok w h block_words (part (at + blocks_at w P) (b * block_words) s) b
    && fields_ok (λ n. eqb n no_line || ltb n l) glyph_words glyph_line_at (part (at + glyph_records_at w P) (y * glyph_words) s) y
    && fields_ok (λ n. ltb n b) line_words line_block_at (part (at + lines_at w P) (l * line_words) s) l

-- all tests of `results_ok` but that of the kinds, on the figures c and the lists that begin at word `at`
unfoldable pub words_ok : ℕ → ℕ → ℕ → List ℕ → ℕ → List ℕ → Bool
words_ok w h P c at s =
    unit_ok c && counts_ok w P c && lists_ok w h s at P (rule_count c) (graphic_count c) (glyph_count c) (line_count c) (block_count c)

-- what follows the header of a reading of results: 9 for lengths, 16 for what is spoiled
unfoldable pub rest_refusal : List ℕ → List ℕ → List ℕ → Bool → ℕ
rest_refusal s ink kinds lacking =
    let g = held s in
    refuse_if (ltb (length s) (store_held g)) 9
    (refuse_if (ltb (length ink) (dots_held g)) 9
    (refuse_if (ltb (length kinds) (dots_held g)) 9
    (refuse_if lacking 9
    (refuse_if (results_spoiled s ink kinds) 16 0))))

-- A script: a list of calls as words, played on one store, its planes and four outputs; what is left and logged (01, demand 3's paragraph).
use Rattle.std.specs.Prelude.{◌≡◌, Bool, true, false, cond, ◌&&◌, List, [], ◌∷◌, ◌++◌, ℕ, zero, suc, ◌+◌, ◌-◌, ◌*◌, ◌/◌, min, eqb, leb, ℤ, Float, length, get_or, take, drop}
use Rattle.std.specs.Float.{nan}
use Rattle.memory.specs.rules.Records.{encoded}
use Rattle.memory.specs.rules.Words.{word_at, over}
use Rattle.params.specs.rules.Sheets.{sheet_of}
use Rattle.params.specs.declared.LayoutParams.{LayoutParams}
use Rattle.memory.specs.declared.rect.Rect.{Rect}
use Rattle.judging.specs.rules.Header.{empty_state}
use Rattle.judging.specs.rules.Leaves.{Leaf, leaf_of}
use Rattle.store.specs.rules.Readings.{Output, filled, LevelReading, Which, ResultReading}
use Rattle.store.specs.rules.Readings.Output.{none, words, integers, floats}
use Rattle.store.specs.rules.Readings.LevelReading.{point, box, gray, frame_figures}
use Rattle.store.specs.rules.Readings.Which.{columns, rules, graphics, glyphs, lines, blocks}
use Rattle.store.specs.rules.Readings.ResultReading.{figures, summary, list, twenty_lines, count_dots, dots, listing}
use Rattle.store.specs.rules.Outcomes.{Told}
use Rattle.account.specs.rules.Calls.{Lent, Act, Call, call, World, step, says}
use Rattle.account.specs.rules.Calls.Act.{level, segment, clear, read_level, read_result}
use Rattle.account.specs.rules.Claims.{Claim}

-- What a script is played on

-- the words of its calls, the floats and bytes that they name, and how many words of scratch there are
pub record Script : Type 0 where
  pub calls : List ℕ
  pub floats : List Float
  pub bytes : List ℕ
  pub scratch : ℕ

abbrev pub script_of : List ℕ → List Float → List ℕ → ℕ → Script
script_of cs fs bs x = record { calls = cs; floats = fs; bytes = bs; scratch = x }

-- what readings fill: words; bytes, as a gray plane or a sheet; integers; numbers
pub record Outputs : Type 0 where
  pub words : List ℕ
  pub gray : List ℕ
  pub integers : List ℤ
  pub numbers : List Float

abbrev pub outputs : List ℕ → List ℕ → List ℤ → List Float → Outputs
outputs ws gs is ns = record { words = ws; gray = gs; integers = is; numbers = ns }

-- one store, its planes and the outputs
pub record Memory : Type 0 where
  pub world : World
  pub outputs : Outputs

abbrev pub memory : World → Outputs → Memory
memory v o = record { world = v; outputs = o }

-- The words of a call

-- how many they are
abbrev pub call_words : ℕ
call_words = 21

-- what is called
abbrev pub op_at : ℕ
op_at = 0

-- how much it is lent of store, ink plane, plane of kinds, scratch and output
abbrev pub store_at : ℕ
store_at = 1

abbrev pub ink_at : ℕ
ink_at = 2

abbrev pub kinds_at : ℕ
kinds_at = 3

abbrev pub scratch_at : ℕ
scratch_at = 4

abbrev pub out_at : ℕ
out_at = 5

-- the page's sides, the capacity, the kind of dots
abbrev pub width_at : ℕ
width_at = 6

abbrev pub height_at : ℕ
height_at = 7

abbrev pub capacity_at : ℕ
capacity_at = 8

abbrev pub kind_at : ℕ
kind_at = 9

-- a box, or a point as its first corner
abbrev pub left_at : ℕ
left_at = 10

abbrev pub top_at : ℕ
top_at = 11

abbrev pub right_at : ℕ
right_at = 12

abbrev pub bottom_at : ℕ
bottom_at = 13

-- where its mask or gray plane begins among the bytes, and how long it is
abbrev pub bytes_at : ℕ
bytes_at = 14

abbrev pub bytes_length_at : ℕ
bytes_length_at = 15

-- where skew and slope stand among the floats
abbrev pub turns_at : ℕ
turns_at = 16

-- where the fifteen floats of the sheet begin; its three words
abbrev pub sheet_at : ℕ
sheet_at = 17

abbrev pub glyph_area_at : ℕ
glyph_area_at = 18

abbrev pub xheight_area_at : ℕ
xheight_area_at = 19

abbrev pub line_glyphs_at : ℕ
line_glyphs_at = 20

-- the words of call i
abbrev pub words_of : List ℕ → ℕ → List ℕ
words_of cs i = take call_words (drop (i * call_words) cs)

-- as much as the word at k says, or all that is there
abbrev pub cut : {A : Type 0} → List ℕ → ℕ → List A → ℕ
cut w k s = min (word_at w k) (length s)

-- the front part that it is lent of a list
abbrev pub lent_of : {A : Type 0} → List ℕ → ℕ → List A → List A
lent_of w k s = take (cut w k s) s

-- how much it is lent of store and planes
abbrev pub lent_by : List ℕ → World → Lent
lent_by w v = record { store = cut w store_at v.store; ink = cut w ink_at v.ink; kinds = cut w kinds_at v.kinds }

-- its mask or gray plane: the bytes from a start on, as many as it says and are there
unfoldable pub bytes_of : List ℕ → List ℕ → List ℕ
bytes_of w bs = let from = cut w bytes_at bs in take (min (word_at w bytes_length_at) (length bs - from)) (drop from bs)

-- a float, NaN past the end
abbrev pub number_at : List Float → ℕ → Float
number_at fs k = get_or fs k nan

-- its sheet
unfoldable pub sheet_from : List ℕ → List Float → LayoutParams
sheet_from w fs =
    let f = word_at w sheet_at in
    sheet_of
    (word_at w glyph_area_at)
    (number_at fs f)
    (word_at w xheight_area_at)
    (number_at fs (f + 1))
    (number_at fs (f + 2))
    (number_at fs (f + 3))
    (number_at fs (f + 4))
    (number_at fs (f + 5))
    (number_at fs (f + 6))
    (word_at w line_glyphs_at)
    (number_at fs (f + 7))
    (number_at fs (f + 8))
    (number_at fs (f + 9))
    (number_at fs (f + 10))
    (number_at fs (f + 11))
    (number_at fs (f + 12))
    (number_at fs (f + 13))
    (number_at fs (f + 14))

-- its box
unfoldable pub box_from : List ℕ → Rect
box_from w = record { x0 = word_at w left_at; y0 = word_at w top_at; x1 = word_at w right_at; y1 = word_at w bottom_at }

-- what levelling is handed
unfoldable pub leaf_from : List ℕ → List Float → List ℕ → Leaf
leaf_from w fs bs =
    leaf_of (bytes_of w bs) (word_at w width_at) (word_at w height_at) (number_at fs (word_at w turns_at)) (number_at fs (word_at w turns_at + 1)) (sheet_from w fs) (word_at w capacity_at)

-- What is called, by the word at op_at: 1 levelling, 2 segmenting; of a levelled page 3 a point, 4 a box, 5 a gray plane, 6 the frame's figures;
-- of results 7 the figures, 8 the summary, 9 the twenty-line measure, 10 a count of dots, 11 those dots, 12 to 17 the six lists, 18 the printed sheet; any other word clearing

-- 12 columns, 13 rules, 14 graphics, 15 glyphs, 16 lines, 17 blocks
abbrev pub list_named : ℕ → Which
list_named n =
    cond (eqb n 12) columns (cond (eqb n 13) rules (cond (eqb n 14) graphics (cond (eqb n 15) glyphs (cond (eqb n 16) lines blocks))))

-- 3 to 6: the frame's figures fill words, a gray plane bytes, the others integers
unfoldable pub level_reading : List ℕ → List ℕ → Outputs → LevelReading
level_reading w bs o =
    cond (eqb (word_at w op_at) 3) (point (word_at w left_at) (word_at w top_at) (lent_of w out_at o.integers))
    (cond (eqb (word_at w op_at) 4) (box (box_from w) (lent_of w out_at o.integers))
    (cond (eqb (word_at w op_at) 5) (gray (bytes_of w bs) (lent_of w out_at o.gray)) (frame_figures (lent_of w out_at o.words))))

-- 7 and 11 to 17: those that fill words
unfoldable pub words_reading : List ℕ → List ℕ → ResultReading
words_reading w out =
    cond (eqb (word_at w op_at) 7) (figures out)
    (cond (eqb (word_at w op_at) 11) (dots (word_at w kind_at) (box_from w) out) (list (list_named (word_at w op_at)) out))

-- 7 to 18: the summary fills numbers, the twenty-line measure and a count of dots nothing, the sheet bytes
unfoldable pub result_reading : List ℕ → Outputs → ResultReading
result_reading w o =
    cond (eqb (word_at w op_at) 8) (summary (lent_of w out_at o.numbers))
    (cond (eqb (word_at w op_at) 9) twenty_lines
    (cond (eqb (word_at w op_at) 10) (count_dots (word_at w kind_at) (box_from w))
    (cond (eqb (word_at w op_at) 18) (listing (lent_of w out_at o.gray)) (words_reading w (lent_of w out_at o.words)))))

-- the act, with x words of scratch
unfoldable pub act_of : List Float → List ℕ → ℕ → List ℕ → Outputs → Act
act_of fs bs x w o =
    cond (eqb (word_at w op_at) 1) (level (leaf_from w fs bs))
    (cond (eqb (word_at w op_at) 2) (segment (sheet_from w fs) (min (word_at w scratch_at) x))
    (cond (leb 3 (word_at w op_at) && leb (word_at w op_at) 6) (read_level (level_reading w bs o))
    (cond (leb 7 (word_at w op_at) && leb (word_at w op_at) 18) (read_result (result_reading w o)) clear)))

-- the call that these words make on what it finds
abbrev pub call_of : List Float → List ℕ → ℕ → List ℕ → Memory → Call
call_of fs bs x w m = call (lent_by w m.world) (act_of fs bs x w m.outputs)

-- call i
abbrev pub call_at : Script → Memory → ℕ → Call
call_at s m i = call_of s.floats s.bytes s.scratch (words_of s.calls i) m

-- What a call leaves

-- a reading that fills bytes
abbrev pub fills_bytes : Act → Bool
fills_bytes (level a) = false
fills_bytes (segment sheet x) = false
fills_bytes clear = false
fills_bytes (read_level (point x y out)) = false
fills_bytes (read_level (box r out)) = false
fills_bytes (read_level (gray plane out)) = true
fills_bytes (read_level (frame_figures out)) = false
fills_bytes (read_result (figures out)) = false
fills_bytes (read_result (summary out)) = false
fills_bytes (read_result (list k out)) = false
fills_bytes (read_result twenty_lines) = false
fills_bytes (read_result (count_dots k r)) = false
fills_bytes (read_result (dots k r out)) = false
fills_bytes (read_result (listing out)) = true

-- an answer put back over the front of its output
abbrev pub put_back : Output → Bool → Outputs → Outputs
put_back none g o = o
put_back (words x) true o = outputs o.words (over x o.gray) o.integers o.numbers
put_back (words x) false o = outputs (over x o.words) o.gray o.integers o.numbers
put_back (integers x) g o = outputs o.words o.gray (filled x o.integers) o.numbers
put_back (floats x) g o = outputs o.words o.gray o.integers (filled x o.numbers)

-- one call: what it leaves in store and planes, and in the outputs
abbrev pub stepped : Memory → Call → Memory
stepped m c = memory (step m.world c) (put_back (says m.world c).output (fills_bytes c.act) m.outputs)

-- Calls one after the other

-- what the first n leave
unfoldable pub after : Script → Memory → ℕ → Memory
after s m zero = m
after s m (suc n) = stepped (after s m n) (call_at s (after s m n) n)

-- those calls, each as it found its memory
unfoldable pub calls_made : Script → Memory → ℕ → List Call
calls_made s m zero = []
calls_made s m (suc n) = calls_made s m n ++ (call_at s (after s m n) n ∷ [])

-- what each was told
unfoldable pub told_to : Script → Memory → ℕ → List Told
told_to s m zero = []
told_to s m (suc n) = told_to s m n ++ (says (after s m n).world (call_at s (after s m n) n) ∷ [])

-- the log's words of a call: its number and its value
abbrev pub logged_words : Told → List ℕ
logged_words t = t.number ∷ t.value ∷ []

-- r calls of a script were played on memory m and this log
pub record Played (s : Script) (m : Memory) (log : List ℕ) (r : ℕ) (m' : Memory) (log' : List ℕ) (scratch' : ℕ) : Type 0 where
  -- all that the script has and the log has room for
  pub many : r ≡ min (length s.calls / call_words) (length log / 2)
  -- store, planes and outputs are as these calls leave them
  pub left : m' ≡ after s m r
  -- number and value of each call over the front of the log
  pub logged : log' ≡ over (encoded logged_words (told_to s m r)) log
  -- of scratch the length alone is told
  pub scratch : scratch' ≡ s.scratch
  -- demand 3 of these very calls, where the store was empty at first
  pub claim : word_at m.world.store 0 ≡ empty_state → Claim (calls_made s m r) (told_to s m r) (after s m r).world

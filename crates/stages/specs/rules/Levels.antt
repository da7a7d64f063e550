-- What the stages tells of levelling and of the way back. Assumes nothing.
use Rattle.std.specs.Prelude.{◌≡◌, Bool, true, false, cond, ◌&&◌, List, ◌++◌, ℕ, ◌+◌, ◌*◌, eqb, ltb, leb, pos, Float, length, take, drop}
use Rattle.std.specs.Float.{fin}
use Rattle.std.specs.Float.Ieee.{le}
use Rattle.memory.specs.rules.Limits.{max_page_side}
use Rattle.memory.specs.rules.Words.{over}
use Rattle.params.specs.declared.LayoutParams.{LayoutParams}
use Rattle.params.specs.rules.Sheets.{sheet_of}
use Rattle.params.specs.rules.Valid.{float_zero}
use Rattle.memory.specs.declared.rect.Rect.{Rect}
use Rattle.levelling.specs.rules.Frames.{Frame, frame, frame_of}
use Rattle.levelling.specs.rules.Mapping.{to_page, rect_to_page}
use Rattle.levelling.specs.rules.Planes.{levelled}
use Rattle.levelling.specs.declared.Point.{Point}

-- a sheet of what is read of it where the skew is applied, all else 0
abbrev pub skew_sheet : Float → LayoutParams
skew_sheet shear_min_deg = sheet_of 0 float_zero 0 float_zero float_zero float_zero float_zero float_zero float_zero 0 float_zero float_zero float_zero float_zero float_zero float_zero float_zero shear_min_deg

-- page sides from 1 to 8192, a slope from -1 to 1
unfoldable pub in_limits : ℕ → ℕ → Float → Bool
in_limits w h slope =
    ltb 0 w && leb w max_page_side && ltb 0 h && leb h max_page_side && le (fin true 1 (pos 0)) slope && le slope (fin false 1 (pos 0))

-- the frame's height times 2^32, and its width; 0 outside the limits
unfoldable pub frame_word : ℕ → ℕ → Float → ℕ
frame_word w h slope = cond (in_limits w h slope) ((frame w h slope).h * 4294967296 + (frame w h slope).w) 0

-- a plane of the page's size, room for both shears, and a byte a frame dot
unfoldable pub lent_fits : ℕ → ℕ → ℕ → ℕ → ℕ → ℕ → ℕ → Bool
lent_fits page w h frame_w frame_h shears out = eqb page (w * h) && leb (w + frame_h) shears && leb (frame_w * frame_h) out

-- whether a plane is moved: limits, then lengths
unfoldable pub is_levelled : ℕ → ℕ → Float → ℕ → ℕ → ℕ → Bool
is_levelled w h slope page shears out = in_limits w h slope && lent_fits page w h (frame w h slope).w (frame w h slope).h shears out

-- the answer; both shears over the front of the words and the plane over the front of the bytes, or all as it was
pub record PlaneTold (done : Bool) (w h : ℕ) (slope : Float) (fill : ℕ) (page shears out : List ℕ) (r : Bool) (shears' out' : List ℕ) : Type 0 where
  pub answer : r ≡ done
  pub sheared : shears' ≡ cond done (over ((frame w h slope).shear ++ (frame w h slope).shear_x) shears) shears
  pub plane : out' ≡ cond done (over (levelled (frame w h slope) fill page) out) out

-- the words are those of a page w wide and of frame rows up to y at least
unfoldable pub holds_row : ℕ → ℕ → ℕ → Bool
holds_row words w y = ltb 0 w && ltb (w + y) words

-- the frame whose shears the words s are, for a page w wide and h high; mapping back asks nothing else of it
abbrev pub frame_in : List ℕ → ℕ → ℕ → Frame
frame_in s w h = frame_of w h (take w s) (drop w s) 0 0

-- frame point (x, y) on the page; (0, 0) where there is no such row
unfoldable pub point_in : List ℕ → ℕ → ℕ → ℕ → Point
point_in s w x y = cond (holds_row (length s) w y) (to_page (frame_in s w 0) x y) (record { x = pos 0; y = pos 0 })

-- a frame box on the page; all 0 where there are no such rows, or the page has none
unfoldable pub rect_in : List ℕ → ℕ → ℕ → Rect → Rect
rect_in s w h r =
    cond (holds_row (length s) w r.y0 && holds_row (length s) w r.y1 && ltb 0 h) (rect_to_page (frame_in s w h) r) (record { x0 = 0; y0 = 0; x1 = 0; y1 = 0 })

-- a corner: its row times 2^32, and its column
abbrev pub corner_word : ℕ → ℕ → ℕ
corner_word x y = y * 4294967296 + x

-- The dot list over the words of the shears and the bytes of the kind plane.
use Rattle.std.specs.Prelude.{◌≡◌, Bool, true, false, not, cond, ◌&&◌, ◌||◌, List, ℕ, suc, ◌+◌, ◌*◌, ◌≤◌, ◌<◌, get_or, length, eqb, leb, ltb}
use Rattle.memory.specs.rules.Limits.{max_page_side, max_frame_width, max_frame_height}
use Rattle.memory.specs.declared.rect.Rect.{Rect}
use Rattle.levelling.specs.rules.Frames.{Frame, frame_of, row_of, column_of}
use Rattle.levelling.specs.declared.frame.Sides.{Sides}
use Rattle.grouping.specs.rules.Readings.{in_box, listed}
use Rattle.grouping.specs.declared.spans.Page.{Page}
use Rattle.grouping.specs.declared.dots.DotQuery.{DotQuery}

-- the frame that these sides and shears are
abbrev pub frame_by : Sides → List ℕ → List ℕ → Frame
frame_by sides shear shear_x = frame_of sides.page_w sides.page_h shear shear_x sides.w sides.h

-- the frame of a page
abbrev pub page_frame : Page → Frame
page_frame p = frame_by p.sides p.shear.now p.shear_x.now

-- whether page dot i is one of those asked for
abbrev pub asked : DotQuery → ℕ → Bool
asked q = listed (page_frame q.page) q.kinds.now q.kind q.r

-- whether the page dot in column c and row y has the kind k and its frame place lies in the box r
abbrev pub listed_at : Frame → List ℕ → ℕ → Rect → ℕ → ℕ → Bool
listed_at f kinds k r c y = eqb (get_or kinds (row_of f c y * f.w + column_of f c y) 0) k && in_box r (column_of f c y) (row_of f c y)

-- sides within the limits, shears that keep each page dot inside the frame, and a kind a frame dot
pub record FrameWords (f : Frame) (kinds : List ℕ) : Type 0 where
  pub page_wide : f.page_w ≤ max_page_side
  pub page_high : f.page_h ≤ max_page_side
  pub wide : f.w ≤ max_frame_width
  pub high : f.h ≤ max_frame_height
  pub shears : f.page_w ≤ length f.shear
  pub rows : f.h ≤ length f.shear_x
  pub dots : f.w * f.h ≤ length kinds
  pub row_inside : (c y : ℕ) → c < f.page_w → y < f.page_h → row_of f c y < f.h
  pub column_inside : (c y : ℕ) → c < f.page_w → y < f.page_h → column_of f c y < f.w

-- from one entry to the next: the same, or one more; where the table falls, one less
abbrev pub Step : Bool → ℕ → ℕ → Type 0
Step false a b = (a ≤ b) × (b ≤ a + 1)
Step true a b = (b ≤ a) × (a ≤ b + 1)

-- a page with dots whose two shears run one way each, by at most one from entry to entry, one up and the other down
pub record OneWay (f : Frame) : Type 0 where
  pub some_column : 0 < f.page_w
  pub some_row : 0 < f.page_h
  pub falls : Bool
  pub rows : (c : ℕ) → suc c < f.page_w → Step falls (get_or f.shear c 0) (get_or f.shear (suc c) 0)
  pub columns : (y : ℕ) → suc y < f.h → Step (not falls) (get_or f.shear_x y 0) (get_or f.shear_x (suc y) 0)

-- what the search of a box's dots asks of a frame: `FrameWords` but for the kinds, and `OneWay`
pub record Sheared (f : Frame) : Type 0 where
  pub page_wide : f.page_w ≤ max_page_side
  pub page_high : f.page_h ≤ max_page_side
  pub wide : f.w ≤ max_frame_width
  pub high : f.h ≤ max_frame_height
  pub shears : f.page_w ≤ length f.shear
  pub rows : f.h ≤ length f.shear_x
  pub row_inside : (c y : ℕ) → c < f.page_w → y < f.page_h → row_of f c y < f.h
  pub column_inside : (c y : ℕ) → c < f.page_w → y < f.page_h → column_of f c y < f.w
  pub one_way : OneWay f

-- each page dot of the box lies in the page rows from `first` to `last`
pub record RowSpan (f : Frame) (r : Rect) (first last : ℕ) : Type 0 where
  pub first_inside : first < f.page_h
  pub last_inside : last < f.page_h
  pub holds : (c y : ℕ) → c < f.page_w → y < f.page_h → in_box r (column_of f c y) (row_of f c y) ≡ true → (first ≤ y) × (y ≤ last)

-- each dot of the box in page row y lies in the page columns from `first` up to `end`
pub record ColumnSpan (f : Frame) (r : Rect) (y first end : ℕ) : Type 0 where
  pub first_inside : first ≤ f.page_w
  pub end_inside : end ≤ f.page_w
  pub holds : (c : ℕ) → c < f.page_w → in_box r (column_of f c y) (row_of f c y) ≡ true → (first ≤ c) × (c < end)

-- whether a frame point (x, y) on the way of a page row through the box is not yet in the box (`start`), or not yet past it; the way goes
-- right, and up where the shear falls, else down
unfoldable pub is_short : Rect → Bool → Bool → ℕ → ℕ → Bool
is_short r falls start x y =
    cond start (ltb x r.x0 || cond falls (ltb r.y1 y) (ltb y r.y0)) (leb x r.x1 && cond falls (leb r.y0 y) (leb y r.y1))

-- n is the first column of page row y that is not short
pub record FirstReached (f : Frame) (r : Rect) (falls start : Bool) (y n : ℕ) : Type 0 where
  pub inside : n ≤ f.page_w
  pub short : (c : ℕ) → c < n → is_short r falls start (column_of f c y) (row_of f c y) ≡ true
  pub reached : (c : ℕ) → n ≤ c → c < f.page_w → is_short r falls start (column_of f c y) (row_of f c y) ≡ false

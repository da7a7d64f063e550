-- The levelled frame, and where each page dot goes (01, part 3).
use Rattle.std.specs.Prelude.{ℕ, ◌+◌, ◌≤◌, ◌<◌, List, Float, get_or}
use Rattle.memory.specs.rules.Limits.{max_page_side}
use Rattle.memory.specs.rules.Lists.{table, greatest}
use Rattle.rounding.specs.rules.Drift.{drift, drift_x}
use Rattle.levelling.specs.rules.Shears.{shear_of}

-- the sides of a page within the limits
pub record PageSides (w h : ℕ) : Type 0 where
  pub wide : 0 < w
  pub high : 0 < h
  pub w_fits : w ≤ max_page_side
  pub h_fits : h ≤ max_page_side

-- the page's sides, the shear of each page column, the shear of each frame row, the frame's sides
pub record Frame : Type 0 where
  pub page_w : ℕ
  pub page_h : ℕ
  pub shear : List ℕ
  pub shear_x : List ℕ
  pub w : ℕ
  pub h : ℕ

-- the frame record of these, as a function is handed them
abbrev pub frame_of : ℕ → ℕ → List ℕ → List ℕ → ℕ → ℕ → Frame
frame_of page_w page_h shear shear_x w h = record { page_w = page_w; page_h = page_h; shear = shear; shear_x = shear_x; w = w; h = h }

-- the frame of a page w wide and h high under a slope: the page's sides and what the two shears add
unfoldable pub frame : ℕ → ℕ → Float → Frame
frame w h slope =
    let s = shear_of (table (drift slope) w) in
    let rows = h + greatest s in
    let t = shear_of (table (drift_x slope) rows) in
    record { page_w = w; page_h = h; shear = s; shear_x = t; w = w + greatest t; h = rows }

-- dot (c, y) goes to row y + shear[c] ..
unfoldable pub row_of : Frame → ℕ → ℕ → ℕ
row_of f c y = y + get_or f.shear c 0

-- .. then, with r that row, to column c + shear_x[r]
unfoldable pub column_of : Frame → ℕ → ℕ → ℕ
column_of f c y = c + get_or f.shear_x (row_of f c y) 0

-- A page plane moved into the frame (01, part 3). Each frame dot has the page dot that it maps back to; that each page dot is found
-- where `row_of` and `column_of` send it is a law.
use Rattle.std.specs.Prelude.{ℕ, ◌+◌, ◌*◌, ◌/◌, ◌%◌, Bool, false, cond, ◌&&◌, List, ℤ, pos, negsuc, Float, get_or, ltb}
use Rattle.memory.specs.rules.Lists.{table}
use Rattle.params.specs.declared.LayoutParams.{LayoutParams}
use Rattle.levelling.specs.rules.Shears.{applied, natural}
use Rattle.levelling.specs.rules.Frames.{Frame, frame}
use Rattle.levelling.specs.rules.Mapping.{to_page}

-- whether a coordinate lies on a side of n dots
abbrev pub within : ℕ → ℤ → Bool
within n (pos k) = ltb k n
within n (negsuc k) = false

-- what lies at (x, y) of the frame: the page's own dot, or `fill` where the shears added one
unfoldable pub level_at : Frame → ℕ → List ℕ → ℕ → ℕ → ℕ
level_at f fill page x y =
    let p = to_page f x y in
    cond (within f.page_w p.x && within f.page_h p.y) (get_or page (natural p.y * f.page_w + natural p.x) fill) fill

-- a page plane in the frame, row by row
unfoldable pub levelled : Frame → ℕ → List ℕ → List ℕ
levelled f fill page = table (λ i. level_at f fill page (i % f.w) (i / f.w)) (f.w * f.h)

-- the ink mask in the frame: added dots are blank
abbrev pub level_ink : Frame → List ℕ → List ℕ
level_ink f mask = levelled f 0 mask

-- `level_gray`: added dots are 255
abbrev pub level_gray : Frame → List ℕ → List ℕ
level_gray f gray = levelled f 255 gray

-- what levelling gives: the applied skew and slope, the frame, the ink in it
pub record Levelling : Type 0 where
  pub skew : Float
  pub slope : Float
  pub frame : Frame
  pub ink : List ℕ

-- the levelling of a mask w wide and h high, by its skew, slope and sheet
unfoldable pub levelling : List ℕ → ℕ → ℕ → Float → Float → LayoutParams → Levelling
levelling mask w h skew slope p =
    let t = applied p skew slope in
    let f = frame w h t in
    record { skew = applied p skew skew; slope = t; frame = f; ink = level_ink f mask }

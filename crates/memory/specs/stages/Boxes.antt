-- What stages ask of a box of dots.
use Rattle.std.specs.Prelude.{ℕ, ◌≤◌, ◌<◌}
use Rattle.memory.specs.declared.rect.Rect.{Rect}

-- a box inside a frame w wide and h high, its ends in order
pub record Inside (w h : ℕ) (r : Rect) : Type 0 where
  pub columns : r.x0 ≤ r.x1
  pub right : r.x1 < w
  pub rows : r.y0 ≤ r.y1
  pub bottom : r.y1 < h

-- The lengths of what a page plane is moved from and to.
use Rattle.std.specs.Prelude.{ℕ, ◌+◌, ◌*◌, ◌≤◌, ◌≡◌, List, get_or, length}
use Rattle.levelling.specs.rules.Frames.{Frame}

-- the lengths of what a page plane is moved from and to
pub record PlaneFits (f : Frame) (page out : List ℕ) : Type 0 where
  pub page_size : length page ≡ f.page_w * f.page_h
  pub columns : length f.shear ≡ f.page_w
  pub rows : length f.shear_x ≡ f.h
  pub inside : (r : ℕ) → get_or f.shear_x r 0 + f.page_w ≤ f.w
  pub above : (c : ℕ) → get_or f.shear c 0 + f.page_h ≤ f.h
  pub out_size : f.w * f.h ≤ length out

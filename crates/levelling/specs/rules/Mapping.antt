-- The way back from the frame to the page (01, part 8: `to_page`, `rect_to_page`).
use Rattle.std.specs.Prelude.{ℕ, ◌-◌, min, ℤ, get_or}
use Rattle.std.proofs.Math.IntN.{sub_ℕ}
use Rattle.memory.specs.declared.rect.Rect.{Rect}
use Rattle.levelling.specs.rules.Shears.{minℤ, greaterℤ, natural}
use Rattle.levelling.specs.rules.Frames.{Frame}
use Rattle.levelling.specs.declared.Point.{Point}

-- frame point (x, y) in page coordinates: it may lie outside, and a column off the page has the shear of the page's nearest one
unfoldable pub to_page : Frame → ℕ → ℕ → Point
to_page f x y =
    let s = get_or f.shear_x y 0 in
    record { x = sub_ℕ x s; y = sub_ℕ y (get_or f.shear (min (x - s) (f.page_w - 1)) 0) }

-- a coordinate moved onto a side of n dots
abbrev pub clamped : ℕ → ℤ → ℕ
clamped n z = min (natural z) (n - 1)

-- the page box of a frame box: that of its four corners mapped back, moved onto the page
unfoldable pub rect_to_page : Frame → Rect → Rect
rect_to_page f r =
    let a = to_page f r.x0 r.y0 in
    let b = to_page f r.x1 r.y0 in
    let c = to_page f r.x0 r.y1 in
    let d = to_page f r.x1 r.y1 in
    record {
      x0 = clamped f.page_w (minℤ (minℤ a.x b.x) (minℤ c.x d.x));
      y0 = clamped f.page_h (minℤ (minℤ a.y b.y) (minℤ c.y d.y));
      x1 = clamped f.page_w (greaterℤ (greaterℤ a.x b.x) (greaterℤ c.x d.x));
      y1 = clamped f.page_h (greaterℤ (greaterℤ a.y b.y) (greaterℤ c.y d.y));
    }

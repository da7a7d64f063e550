-- A corner of a frame box on the page.
use Rattle.std.specs.Prelude.{ℕ}
use Rattle.memory.specs.declared.rect.Rect.{Rect}
use Rattle.levelling.specs.rules.Frames.{Frame}
use Rattle.levelling.specs.rules.Mapping.{to_page, clamped}

-- the page dot that a frame point maps to, moved onto the page, as a box
unfoldable pub dot_to_page : Frame → ℕ → ℕ → Rect
dot_to_page f x y =
    let p = to_page f x y in
    record { x0 = clamped f.page_w p.x; y0 = clamped f.page_h p.y; x1 = clamped f.page_w p.x; y1 = clamped f.page_h p.y }

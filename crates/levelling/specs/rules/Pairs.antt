-- The ink dots of a levelled plane and those of the mask pair one to one by mapping back (01, demand 3: none lost, invented or doubled).
use Rattle.std.specs.Prelude.{◌≡◌, List, ℕ, ◌+◌, ◌*◌, ◌<◌, pos, get_or, take}
use Rattle.memory.specs.rules.Lists.{occurs}
use Rattle.levelling.specs.rules.Frames.{Frame}
use Rattle.levelling.specs.rules.Mapping.{to_page}

-- frame dot (x, y) maps back to an ink dot of the mask
pub record ToInk (f : Frame) (mask : List ℕ) (x y : ℕ) : Type 0 where
  pub c : ℕ
  pub r : ℕ
  pub c_in : c < f.page_w
  pub r_in : r < f.page_h
  pub maps : to_page f x y ≡ record { x = pos c; y = pos r }
  pub ink : get_or mask (r * f.page_w + c) 0 ≡ 1

-- an ink dot of the frame maps back to page dot (c, r)
pub record FromInk (f : Frame) (plane : List ℕ) (c r : ℕ) : Type 0 where
  pub x : ℕ
  pub y : ℕ
  pub x_in : x < f.w
  pub y_in : y < f.h
  pub maps : to_page f x y ≡ record { x = pos c; y = pos r }
  pub ink : get_or plane (y * f.w + x) 0 ≡ 1

-- the ink dots of the plane's frame and those of the mask pair one to one by mapping back
pub record InkPairs (f : Frame) (mask plane : List ℕ) : Type 0 where
  -- none is invented: each of the frame maps back to one of the mask
  pub none_invented : (x y : ℕ) → x < f.w → y < f.h → get_or plane (y * f.w + x) 0 ≡ 1 → ToInk f mask x y
  -- none is lost: each of the mask is mapped to by one of the frame
  pub none_lost : (c r : ℕ) → c < f.page_w → r < f.page_h → get_or mask (r * f.page_w + c) 0 ≡ 1 → FromInk f plane c r
  -- none is doubled: no two of the frame map to the same
  pub none_doubled : (x y x' y' : ℕ) → x < f.w → y < f.h → x' < f.w → y' < f.h → get_or plane (y * f.w + x) 0 ≡ 1 → get_or plane (y' * f.w + x') 0 ≡ 1
      → to_page f x y ≡ to_page f x' y' → (x ≡ x') × (y ≡ y')
  -- so there are as many
  pub as_many : occurs 1 (take (f.w * f.h) plane) ≡ occurs 1 mask

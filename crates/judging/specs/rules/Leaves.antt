-- What levelling is handed, and what a header says of it (01, part 3: mask, sides, skew, slope, sheet and P).
use Rattle.std.specs.Prelude.{List, ℕ, Float}
use Rattle.params.specs.declared.LayoutParams.{LayoutParams}
use Rattle.levelling.specs.rules.Planes.{Levelling, levelling}
use Rattle.segmenting.specs.rules.Layouts.{Layout, layout}
use Rattle.judging.specs.rules.Header.{Held}

-- what levelling is handed
pub record Leaf : Type 0 where
  pub mask : List ℕ
  pub w : ℕ
  pub h : ℕ
  pub skew : Float
  pub slope : Float
  pub sheet : LayoutParams
  pub capacity : ℕ

abbrev pub leaf_of : List ℕ → ℕ → ℕ → Float → Float → LayoutParams → ℕ → Leaf
leaf_of mask w h skew slope sheet P = record { mask = mask; w = w; h = h; skew = skew; slope = slope; sheet = sheet; capacity = P }

-- its levelling
abbrev pub levelling_of : Leaf → Levelling
levelling_of a = levelling a.mask a.w a.h a.skew a.slope a.sheet

-- its layout by a sheet (01, parts 4 to 8)
abbrev pub layout_of : Leaf → LayoutParams → Layout
layout_of a sheet = layout sheet (levelling_of a).frame.w (levelling_of a).frame.h (levelling_of a).ink

-- what a header says of it, in a state
abbrev pub leaf_held : ℕ → Leaf → Held
leaf_held state a =
    let l = levelling_of a in
    record { state = state; page_w = a.w; page_h = a.h; w = l.frame.w; h = l.frame.h; capacity = a.capacity; skew = l.skew; slope = l.slope }

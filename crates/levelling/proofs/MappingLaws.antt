-- The way back as the code takes it: a point by its column and its two differences, a box by the dots of its four corners.
use mathlib.Core.Path.{◌≡◌, sym, ap, ◌∙◌}
use mathlib.Core.List.{List}
use Prim.Native.Nat.{ℕ, ◌-◌, min, max}
use native.Mathlib.Omega.{arith}
use lib.IntN.{ℤ, pos, negsuc, sub_ℕ}
use lib.ListN.{get_or}
use Rattle.memory.specs.declared.rect.Rect.{Rect}
use Rattle.memory.specs.rules.Rects.{union}
use Rattle.levelling.specs.rules.Shears.{minℤ, greaterℤ}
use Rattle.levelling.specs.rules.Frames.{Frame, frame_of}
use Rattle.levelling.specs.rules.Mapping.{to_page, clamped, rect_to_page}
use Rattle.levelling.specs.stages.Corners.{dot_to_page}
use Rattle.levelling.proofs.Integers.{natural-sub}

-- ---- moved onto a side, the lesser stays the lesser
clamped-lesser : (n : ℕ) (a b : ℤ) → clamped n (minℤ a b) ≡ min (clamped n a) (clamped n b)
clamped-lesser n (pos a) (pos b) = omega arith
clamped-lesser n (pos a) (negsuc b) = omega arith
clamped-lesser n (negsuc a) (pos b) = omega arith
clamped-lesser n (negsuc a) (negsuc b) = omega arith

clamped-greater : (n : ℕ) (a b : ℤ) → clamped n (greaterℤ a b) ≡ max (clamped n a) (clamped n b)
clamped-greater n (pos a) (pos b) = omega arith
clamped-greater n (pos a) (negsuc b) = omega arith
clamped-greater n (negsuc a) (pos b) = omega arith
clamped-greater n (negsuc a) (negsuc b) = omega arith

-- ---- a point
module _ (page_w page_h : ℕ) (shear shear_x : List ℕ) (w h x y column : ℕ) (e : column ≡ min (x - get_or shear_x y 0) (page_w - 1)) where
  abbrev f : Frame
  f = frame_of page_w page_h shear shear_x w h

  pub point-by : (dx dy : ℤ) → dx ≡ sub_ℕ x (get_or shear_x y 0) → dy ≡ sub_ℕ y (get_or shear column 0) → record { x = dx; y = dy } ≡ to_page f x y
  unfolding to_page
  point-by dx dy p q = λ i. record { x = p i; y = (q ∙ ap (λ k. sub_ℕ y (get_or shear k 0)) e) i }

  pub dot-by : (row : ℕ) → row ≡ min (y - get_or shear column 0) (page_h - 1) → record { x0 = column; y0 = row; x1 = column; y1 = row } ≡ dot_to_page f x y
  unfolding to_page dot_to_page
  dot-by row q =
      let c : column ≡ clamped page_w (sub_ℕ x (get_or shear_x y 0)) = e ∙ ap (λ z. min z (page_w - 1)) (sym (natural-sub x (get_or shear_x y 0))) in
      let l : row ≡ clamped page_h (sub_ℕ y (get_or shear (min (x - get_or shear_x y 0) (page_w - 1)) 0)) =
      q ∙ (ap (λ z. min z (page_h - 1)) (sym (natural-sub y (get_or shear column 0))) ∙ ap (λ k. clamped page_h (sub_ℕ y (get_or shear k 0))) e) in
      λ i. record { x0 = c i; y0 = l i; x1 = c i; y1 = l i }

-- ---- a box
pub rect-by-corners : (f : Frame) (r : Rect)
    → union (union (dot_to_page f r.x0 r.y0) (dot_to_page f r.x1 r.y0)) (union (dot_to_page f r.x0 r.y1) (dot_to_page f r.x1 r.y1)) ≡ rect_to_page f r
unfolding dot_to_page rect_to_page
rect-by-corners f r =
    let a = to_page f r.x0 r.y0 in
    let b = to_page f r.x1 r.y0 in
    let c = to_page f r.x0 r.y1 in
    let d = to_page f r.x1 r.y1 in
    λ i.
    record {
      x0 = sym (lessers f.page_w a.x b.x c.x d.x) i;
      y0 = sym (lessers f.page_h a.y b.y c.y d.y) i;
      x1 = sym (greaters f.page_w a.x b.x c.x d.x) i;
      y1 = sym (greaters f.page_h a.y b.y c.y d.y) i;
    }
  where
    lessers : (n : ℕ) (a b c d : ℤ) → clamped n (minℤ (minℤ a b) (minℤ c d)) ≡ min (min (clamped n a) (clamped n b)) (min (clamped n c) (clamped n d))
    lessers n a b c d = clamped-lesser n (minℤ a b) (minℤ c d) ∙ (λ i. min (clamped-lesser n a b i) (clamped-lesser n c d i))

    greaters : (n : ℕ) (a b c d : ℤ) → clamped n (greaterℤ (greaterℤ a b) (greaterℤ c d)) ≡ max (max (clamped n a) (clamped n b)) (max (clamped n c) (clamped n d))
    greaters n a b c d = clamped-greater n (greaterℤ a b) (greaterℤ c d) ∙ (λ i. max (clamped-greater n a b i) (clamped-greater n c d i))

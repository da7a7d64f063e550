-- The way back by the words that hold both shears. Assumes nothing.
use mathlib.Core.Path.{◌≡◌, sym, ap, ◌∙◌, subst}
use mathlib.Core.Bool.{Bool, true, false, not, cond, ◌&&◌}
use mathlib.Core.List.{List}
use Prim.Native.Nat.{ℕ, ◌+◌, ◌-◌, ◌<◌}
use native.Mathlib.Omega.{arith}
use lib.Dec.{T, ltb, ltb→lt}
use lib.IntN.{pos}
use lib.ListN.{length, take, drop}
use Rattle.memory.proofs.PartLaws.{tail-part}
use Rattle.rounding.proofs.Tests.{yes}
use Rattle.memory.specs.declared.rect.Rect.{Rect}
use Rattle.levelling.specs.rules.Frames.{Frame, frame_of}
use Rattle.levelling.specs.rules.Mapping.{to_page, rect_to_page}
use Rattle.levelling.specs.declared.Point.{Point}
use Rattle.stages.specs.rules.Levels.{holds_row, frame_in, point_in, rect_in}
use Rattle.stages.proofs.LevelLaws.{is_true, is_false, split}

-- a page w wide, and room for the frame's rows up to y
pub record Row (words w y : ℕ) : Type 0 where
  pub wide : 0 < w
  pub low : w + y < words

row_of : (words w y : ℕ) → T (holds_row words w y) → Row words w y
unfolding holds_row
row_of words w y t =
    let s = split (ltb 0 w) (ltb (w + y) words) t in
    record { wide = ltb→lt 0 w s.0; low = ltb→lt (w + y) words s.1 }

pub row-held : (words w y : ℕ) (b : Bool) → b ≡ holds_row words w y → not b ≡ false → Row words w y
row-held words w y b e n = row_of words w y (yes (sym e ∙ is_true b n))

-- the parts of the words that the code hands on
parts : (s : List ℕ) (w h : ℕ) → frame_of w h (take (w - 0) s) (take (length s - w) (drop w s)) 0 0 ≡ frame_in s w h
parts s w h =
    ap (λ (k : ℕ). frame_of w h (take k s) (take (length s - w) (drop w s)) 0 0) (all w)
    ∙ ap (λ (l : List ℕ). frame_of w h (take w s) l 0 0) (tail-part w s)
  where
    all : (w : ℕ) → w - 0 ≡ w
    all w = omega arith

pub point-none : (s : List ℕ) (w x y : ℕ) (b : Bool) → b ≡ holds_row (length s) w y → not b ≡ true → ◌≡◌ {A = Point} (record { x = pos 0; y = pos 0 }) (point_in s w x y)
unfolding point_in
point-none s w x y b e n =
    ap (λ (t : Bool). cond t (to_page (frame_in s w 0) x y) (record { x = pos 0; y = pos 0 })) (sym (is_false b n) ∙ e)

pub point-some :
    (s : List ℕ) (w x y : ℕ) (b : Bool) (p : Point) → b ≡ holds_row (length s) w y → not b ≡ false
    → p ≡ to_page (frame_of w 0 (take (w - 0) s) (take (length s - w) (drop w s)) 0 0) x y
    → p ≡ point_in s w x y
unfolding point_in
point-some s w x y b p e n h =
    h
    ∙ ap (λ (f : Frame). to_page f x y) (parts s w 0)
    ∙ ap (λ (t : Bool). cond t (to_page (frame_in s w 0) x y) (record { x = pos 0; y = pos 0 })) (sym (is_true b n) ∙ e)

-- ---- boxes: a and b are what the code was told of the two rows
pub record Rows (length w h y0 y1 : ℕ) : Type 0 where
  pub above : Row length w y0
  pub below : Row length w y1
  pub high : 0 < h

pub rows-held :
    (length w h y0 y1 : ℕ) (a b : Bool) → a ≡ holds_row length w y0 → b ≡ holds_row length w y1 → not (a && b && ltb 0 h) ≡ false → Rows length w h y0 y1
rows-held length w h y0 y1 a b e f n =
    let s = split (a && b) (ltb 0 h) (yes (is_true (a && b && ltb 0 h) n)) in
    let t = split a b s.0 in
    record { above = row_of length w y0 (at e t.0); below = row_of length w y1 (at f t.1); high = ltb→lt 0 h s.1 }
  where
    at : {p q : Bool} → p ≡ q → T p → T q
    at e t = subst T e t

test-is :
    (s : List ℕ) (w h : ℕ) (r : Rect) (a b : Bool) → a ≡ holds_row (length s) w r.y0 → b ≡ holds_row (length s) w r.y1
    → (a && b && ltb 0 h) ≡ (holds_row (length s) w r.y0 && holds_row (length s) w r.y1 && ltb 0 h)
test-is s w h r a b e f = ap (λ (t : Bool). t && b && ltb 0 h) e ∙ ap (λ (t : Bool). holds_row (length s) w r.y0 && t && ltb 0 h) f

pub rect-none :
    (s : List ℕ) (w h : ℕ) (r : Rect) (a b : Bool) → a ≡ holds_row (length s) w r.y0 → b ≡ holds_row (length s) w r.y1 → not (a && b && ltb 0 h) ≡ true
    → ◌≡◌ {A = Rect} (record { x0 = 0; y0 = 0; x1 = 0; y1 = 0 }) (rect_in s w h r)
unfolding rect_in
rect-none s w h r a b e f n =
    ap (λ (t : Bool). cond t (rect_to_page (frame_in s w h) r) (record { x0 = 0; y0 = 0; x1 = 0; y1 = 0 }))
    (sym (is_false (a && b && ltb 0 h) n) ∙ test-is s w h r a b e f)

pub rect-some :
    (s : List ℕ) (w h : ℕ) (r : Rect) (a b : Bool) (q : Rect) → a ≡ holds_row (length s) w r.y0 → b ≡ holds_row (length s) w r.y1 → not (a && b && ltb 0 h) ≡ false
    → q ≡ rect_to_page (frame_of w h (take (w - 0) s) (take (length s - w) (drop w s)) 0 0) r
    → q ≡ rect_in s w h r
unfolding rect_in
rect-some s w h r a b q e f n g =
    g
    ∙ ap (λ (k : Frame). rect_to_page k r) (parts s w h)
    ∙ ap (λ (t : Bool). cond t (rect_to_page (frame_in s w h) r) (record { x0 = 0; y0 = 0; x1 = 0; y1 = 0 }))
    (sym (is_true (a && b && ltb 0 h) n) ∙ test-is s w h r a b e f)

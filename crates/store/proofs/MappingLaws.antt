-- Readings that need only a levelled page: a gray plane, a box, a point, the frame's figures.
use mathlib.Core.Path.{◌≡◌, refl, sym, ap, ◌∙◌, subst}
use mathlib.Core.Bool.{Bool, true, false, not, ◌&&◌, ◌||◌, true≢false}
use mathlib.Core.List.{List, [], ◌∷◌, ◌++◌}
use Prim.Native.Nat.{ℕ, ◌+◌, ◌-◌, ◌*◌, ◌≤◌, ◌<◌, min}
use native.Mathlib.Omega.{arith}
use borrow.Author.Tests.{leb-true, ltb-true, ltb-false, eqb-true, ne_eqb, not-false}
use lib.Dec.{eqb, ltb, leb}
use lib.IntN.{ℤ, pos}
use lib.ListN.{length, take, drop, set, get_or, length-set}
use mir.Syntax.{w32}
use mir.Val.{to_z}
use mir.Facts.{to_z-of_z}
use Rattle.memory.specs.rules.Words.{word_at, over}
use Rattle.memory.proofs.BoolLaws.{and_left, and_right}
use Rattle.memory.specs.declared.rect.Rect.{Rect}
use Rattle.levelling.specs.rules.Frames.{Frame, frame_of}
use Rattle.levelling.specs.declared.frame.Sides.{Sides}
use Rattle.levelling.specs.rules.Mapping.{rect_to_page}
use Rattle.levelling.specs.stages.Rooms.{PlaneFits}
use Rattle.levelling.proofs.FrameLaws.{frame-is-frame_of, frame-plane-fits}
use Rattle.judging.specs.rules.Header.{held, frame_held, dots_held, part, header_words, low_word, high_word}
use Rattle.store.specs.rules.Readings.{LevelReading, box_inside, lacking_level, bad_level, fill_level, lent_level, frame_length, frame_words}
use Rattle.store.specs.rules.Outcomes.{told, told_by, level_told}
use Rattle.judging.specs.stages.Judged.{frame_judged, level_judged}
use Rattle.judging.proofs.LimitLaws.{Limited, limited}
use Rattle.store.proofs.HeldFrames.{frame-words, first-held, second-held}
use Rattle.judging.proofs.LevelLaws.{Readable}
use lib.Ieee.{Float}
use Rattle.memory.specs.rules.Floats.{with_float, float_at}
use Rattle.memory.proofs.CopyLaws.{stores-over}
use Rattle.store.specs.stages.Areas.{frame_put}

pub gray-judged : (s : List ℕ) (gray out page d a b w h n : ℕ) → a ≡ word_at s 1 → b ≡ word_at s 2 → page ≡ a * b → w ≡ (frame_held (held s)).w → h ≡ (frame_held (held s)).h → d ≡ w * h
    → n ≡ frame_judged s (not (eqb gray page) || ltb out d) false
    → n ≡ frame_judged s (not (eqb gray ((held s).page_w * (held s).page_h)) || ltb out (dots_held (held s))) false
gray-judged s gray out page d a b w h n ea eb ep ew eh ed e =
    e ∙ (λ i. frame_judged s (not (eqb gray ((ep ∙ (λ j. (ea ∙ wide) j * (eb ∙ high) j)) i)) || ltb out ((ed ∙ (λ j. ew j * eh j)) i)) false)
  where
    wide : word_at s 1 ≡ (held s).page_w
    wide = unfold held in refl

    high : word_at s 2 ≡ (held s).page_h
    high = unfold held in refl

pub point-judged : (s : List ℕ) (x y w h n : ℕ) (lacking : Bool) → w ≡ (frame_held (held s)).w → h ≡ (frame_held (held s)).h
    → n ≡ frame_judged s lacking (not (ltb x w && ltb y h)) → n ≡ frame_judged s lacking (not (ltb x (frame_held (held s)).w && ltb y (frame_held (held s)).h))
point-judged s x y w h n lacking ew eh e = e ∙ (λ i. frame_judged s lacking (not (ltb x (ew i) && ltb y (eh i))))

pub box-judged : (s : List ℕ) (r : Rect) (w h n : ℕ) (lacking : Bool) → w ≡ (frame_held (held s)).w → h ≡ (frame_held (held s)).h
    → n ≡ frame_judged s lacking (not (leb r.x0 r.x1 && ltb r.x1 w && leb r.y0 r.y1 && ltb r.y1 h)) → n ≡ frame_judged s lacking (not (box_inside (frame_held (held s)) r))
box-judged s r w h n lacking ew eh e = e ∙ (λ i. frame_judged s lacking (not (leb r.x0 r.x1 && ltb r.x1 (ew i) && leb r.y0 r.y1 && ltb r.y1 (eh i))))

module _ (s : List ℕ) (lacking bad : Bool) (R : Readable s lacking bad) where
  few : Limited (held s)
  few = limited (held s) R.limits

  pw-is : get_or s 1 0 ≡ (held s).page_w
  unfolding held
  pw-is = refl

  ph-is : get_or s 2 0 ≡ (held s).page_h
  unfolding held
  ph-is = refl

  sound : ((held s).w ≡ (frame_held (held s)).w) × ((held s).h ≡ (frame_held (held s)).h) × (part header_words ((held s).page_w + (frame_held (held s)).h) s ≡ (frame_held (held s)).shear ++ (frame_held (held s)).shear_x)
  sound = frame-words s R.limits R.sound

  pub w-is : get_or s 3 0 ≡ (frame_held (held s)).w
  unfolding held
  w-is = sound.0

  pub h-is : get_or s 4 0 ≡ (frame_held (held s)).h
  unfolding held
  h-is = sound.1

  pub read-room : (0 < get_or s 1 0) × (0 < get_or s 2 0) × (get_or s 1 0 ≤ 8192) × (get_or s 2 0 ≤ 8192) × (64 + (get_or s 1 0 + get_or s 4 0) ≤ length s)
  read-room =
      let a = pw-is in
      let b = ph-is in
      let c = h-is in
      let S = few.sides in
      let r = R.room in
      (let q = S.wide in omega arith, let q = S.high in omega arith, let q = S.w_fits in omega arith, let q = S.h_fits in omega arith, omega arith)

  pub rows_inside : (r : Rect) → not (box_inside (frame_held (held s)) r) ≡ false → (r.y0 < get_or s 4 0) × (r.y1 < get_or s 4 0)
  rows_inside r e =
      let f = frame_held (held s) in
      let a = leb r.x0 r.x1 in
      let b = ltb r.x1 f.w in
      let c = leb r.y0 r.y1 in
      let d = ltb r.y1 f.h in
      let t = not-false _ e in
      let low = leb-true r.y0 r.y1 (and_right (a && b) c (and_left (a && b && c) d t)) in
      let last = ltb-true r.y1 f.h (and_right (a && b && c) d t) in
      let q = h-is in
      (omega arith, omega arith)

  -- the shears that the code cuts out
  module _ (a b : List ℕ) (ea : a ≡ take (get_or s 1 0) (drop 64 s)) (eb : b ≡ take (get_or s 4 0) (drop (64 + get_or s 1 0) s)) where
    pub frame-cut : frame_of (get_or s 1 0) (get_or s 2 0) a b (get_or s 3 0) (get_or s 4 0) ≡ frame_held (held s)
    frame-cut =
        let p : take (get_or s 1 0) (drop 64 s) ≡ (frame_held (held s)).shear = ap (λ z. take z (drop 64 s)) pw-is ∙ first-held s R.limits R.sound in
        let q : take (get_or s 4 0) (drop (64 + get_or s 1 0) s) ≡ (frame_held (held s)).shear_x = (λ i. take (h-is i) (drop (64 + pw-is i) s)) ∙ second-held s R.limits R.sound in
        (λ i. frame_of (pw-is i) (ph-is i) ((ea ∙ p) i) ((eb ∙ q) i) (w-is i) (h-is i))
        ∙ sym (frame-is-frame_of (held s).page_w (held s).page_h (held s).slope few.sides few.within)

    pub frame-by : (q : Sides) → q ≡ record { page_w = get_or s 1 0; page_h = get_or s 2 0; w = get_or s 3 0; h = get_or s 4 0 } → frame_of q.page_w q.page_h a b q.w q.h ≡ frame_held (held s)
    frame-by q e = ap (λ (q : Sides). frame_of q.page_w q.page_h a b q.w q.h) e ∙ frame-cut

    pub plane-fits : (gray out : List ℕ) → (not (eqb (length gray) ((held s).page_w * (held s).page_h)) || ltb (length out) (dots_held (held s))) ≡ false
        → PlaneFits (frame_of (get_or s 1 0) (get_or s 2 0) a b (get_or s 3 0) (get_or s 4 0)) gray out
    plane-fits gray out e =
        let z = neither _ _ e in
        subst (λ (f : Frame). PlaneFits f gray out) (sym frame-cut)
        (frame-plane-fits (held s).page_w (held s).page_h (held s).slope few.sides few.within gray out (eqb-true _ _ (not-false _ z.0)) (ltb-false _ _ z.1))
      where
        neither : (a b : Bool) → (a || b) ≡ false → (a ≡ false) × (b ≡ false)
        neither false false e = (refl, refl)
        neither false true e = absurd (true≢false e)
        neither true b e = absurd (true≢false e)

    module _ (r m : Rect) (e : (w k : ℕ) → m ≡ rect_to_page (frame_of (get_or s 1 0) (get_or s 2 0) a b w k) r) where
      pub box-is : m ≡ rect_to_page (frame_held (held s)) r
      box-is = e (get_or s 3 0) (get_or s 4 0) ∙ ap (λ (f : Frame). rect_to_page f r) frame-cut

      clamp-low : (a n : ℕ) → n ≤ 8192 → min a (n - 1) ≤ 32767
      clamp-low a n l = omega arith

      pub box-small : (m.x0 ≤ 32767) × (m.y0 ≤ 32767) × (m.x1 ≤ 32767) × (m.y1 ≤ 32767)
      unfolding rect_to_page
      box-small =
          let z = read-room in
          subst (λ (q : Rect). (q.x0 ≤ 32767) × (q.y0 ≤ 32767) × (q.x1 ≤ 32767) × (q.y1 ≤ 32767)) (sym (e 0 0))
          (clamp-low _ (get_or s 1 0) z.2, clamp-low _ (get_or s 2 0) z.3, clamp-low _ (get_or s 1 0) z.2, clamp-low _ (get_or s 2 0) z.3)

-- ---- four signed numbers over the front

kept : (n : ℕ) → n ≤ 32767 → to_z w32 n ≡ pos n
kept n l = to_z-of_z {w = w32} {z = pos n} (record { sfits = omega arith })

four-set : (out : List ℤ) (a b c d : ℤ) → 4 ≤ length out → set (set (set (set out 0 a) 1 b) 2 c) 3 d ≡ a ∷ b ∷ c ∷ d ∷ drop 4 out
four-set [] a b c d h = absurd (omega arith)
four-set (x ∷ []) a b c d h = absurd (omega arith)
four-set (x ∷ y ∷ []) a b c d h = absurd (omega arith)
four-set (x ∷ y ∷ z ∷ []) a b c d h = absurd (omega arith)
four-set (x ∷ y ∷ z ∷ u ∷ out) a b c d h = refl

pub box-put : (out : List ℤ) (b : Rect) → 4 ≤ length out → b.x0 ≤ 32767 → b.y0 ≤ 32767 → b.x1 ≤ 32767 → b.y1 ≤ 32767
    → set (set (set (set out 0 (to_z w32 b.x0)) 1 (to_z w32 b.y0)) 2 (to_z w32 b.x1)) 3 (to_z w32 b.y1) ≡ pos b.x0 ∷ pos b.y0 ∷ pos b.x1 ∷ pos b.y1 ∷ drop 4 out
box-put out b h l₀ l₁ l₂ l₃ =
    (λ i. set (set (set (set out 0 (kept b.x0 l₀ i)) 1 (kept b.y0 l₁ i)) 2 (kept b.x1 l₂ i)) 3 (kept b.y1 l₃ i))
    ∙ four-set out (pos b.x0) (pos b.y0) (pos b.x1) (pos b.y1) h

-- ---- the frame's figures

pub frame-long : (out t : List ℕ) (a b c d : ℕ) (x : Float) → t ≡ with_float (set (set (set (set out 0 a) 1 b) 2 c) 3 d) 4 x → length t ≡ length out
frame-long out t a b c d x e = ap length e ∙ simp length-set

pub frame-written : (s out t u : List ℕ) (x y : Float) → frame_length ≤ length out → x ≡ float_at s 6 → y ≡ float_at s 8
    → t ≡ with_float (set (set (set (set out 0 (get_or s 1 0)) 1 (get_or s 2 0)) 2 (get_or s 3 0)) 3 (get_or s 4 0)) 4 x → u ≡ with_float t 6 y → u ≡ over (frame_put s) out
frame-written s out t u x y l ex ey et eu =
    eu
    ∙ ((λ i. with_float ((et ∙ (λ j. with_float (set (set (set (set out 0 (get_or s 1 0)) 1 (get_or s 2 0)) 2 (get_or s 3 0)) 3 (get_or s 4 0)) 4 (ex j))) i) 6 (ey i))
    ∙ stores-over (frame_put s) out l)

pub frame-read : (s : List ℕ) (lacking bad : Bool) → Readable s lacking bad → frame_put s ≡ frame_words (held s)
unfolding held
frame-read s lacking bad R =
    let w = w-is s lacking bad R in
    let h = h-is s lacking bad R in
    λ i. get_or s 1 0 ∷ get_or s 2 0 ∷ w i ∷ h i ∷ low_word (float_at s 6) ∷ high_word (float_at s 6) ∷ low_word (float_at s 8) ∷ high_word (float_at s 8) ∷ []

-- ---- any reading that needs only a levelled page

module _ (q : LevelReading) (s : List ℕ) (n : ℕ) (e : n ≡ level_judged s (lacking_level q (held s)) (bad_level q (held s))) where
  pub reading-no : (n ≡ 0 → ⊥) → told n 0 (lent_level q) ≡ level_told q s
  unfolding level_told level_judged told_by
  reading-no z = rw (sym e, ne_eqb n 0 z)

  pub reading-yes : n ≡ 0 → told 0 0 (fill_level q (held s)) ≡ level_told q s
  unfolding level_told level_judged told_by
  reading-yes z = rw (sym e ∙ z)

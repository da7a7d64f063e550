-- Mapping a point: two signed numbers, and the shears of a store that is not spoiled.
use mathlib.Core.Path.{◌≡◌, refl, sym, ap, ◌∙◌, subst}
use mathlib.Core.Bool.{Bool, true, false, cond, not, ◌&&◌, true≢false}
use mathlib.Core.List.{List, [], ◌∷◌, ◌++◌}
use Prim.Native.Nat.{ℕ, suc, compare, ◌+◌, ◌-◌, ◌^◌, ◌≤◌, ◌<◌}
use native.Mathlib.Nat.{le_trans}
use native.Mathlib.Omega.{arith}
use borrow.Author.Tests.{ltb-true}
use lib.Dec.{lit≤, is_le, ltb}
use lib.IntN.{ℤ, pos, negsuc, sub_ℕ}
use lib.Ieee.{Float}
use lib.ListN.{length, get_or, take, drop, set}
use mir.Syntax.{Width, w32, w64}
use mir.Val.{SFits, to_z, of_z, hbits}
use mir.Facts.{to_z-of_z}
use Rattle.levelling.specs.rules.Frames.{Frame, frame, frame_of}
use Rattle.levelling.specs.rules.Mapping.{to_page}
use Rattle.levelling.specs.declared.Point.{Point}
use Rattle.levelling.proofs.FrameLaws.{frame-fits, frame-is-frame_of}
use Rattle.memory.proofs.GreatestLaws.{greatest-bounds}
use Rattle.judging.specs.rules.Header.{held, frame_held, store_held, part, header_words}
use Rattle.judging.specs.rules.Spoiled.{limits_ok, frame_spoiled}
use Rattle.store.specs.stages.Points.{Coordinate}
use Rattle.store.proofs.HeldFrames.{frame-words, first-held, second-held}
use Rattle.judging.proofs.LimitLaws.{Limited, limited}
use Rattle.judging.proofs.LevelLaws.{Readable}

-- ---- two signed numbers over the front

small-fits : (w : Width) (z : ℤ) → 65536 ≤ 2 ^ hbits w → Coordinate z → SFits w z
small-fits w (pos n) h s = record { sfits = omega arith }
small-fits w (negsuc n) h s = record { sfits = omega arith }

pub small_word : (z : ℤ) → Coordinate z → SFits w32 (to_z w64 (of_z w64 z))
small_word z s = subst (SFits w32) (sym (to_z-of_z (small-fits w64 z (lit≤ tt) s))) (small-fits w32 z (lit≤ tt) s)

kept : (z : ℤ) → Coordinate z → to_z w32 (of_z w32 (to_z w64 (of_z w64 z))) ≡ z
kept z s = to_z-of_z (small_word z s) ∙ to_z-of_z (small-fits w64 z (lit≤ tt) s)

two-set : (out : List ℤ) (x y : ℤ) → 2 ≤ length out → set (set out 0 x) 1 y ≡ x ∷ y ∷ drop 2 out
two-set [] x y h = absurd (omega arith)
two-set (a ∷ []) x y h = absurd (omega arith)
two-set (a ∷ b ∷ out) x y h = refl

pub point-put : (out : List ℤ) (x y : ℤ) → Coordinate x → Coordinate y → 2 ≤ length out
    → set (set out 0 (to_z w32 (of_z w32 (to_z w64 (of_z w64 x))))) 1 (to_z w32 (of_z w32 (to_z w64 (of_z w64 y)))) ≡ x ∷ y ∷ drop 2 out
point-put out x y sx sy h = (λ i. set (set out 0 (kept x sx i)) 1 (kept y sy i)) ∙ two-set out x y h

-- ---- the shears of a store that is not spoiled

-- a store whose shears map frame row y back
pub record Mappable (s : List ℕ) (y : ℕ) : Type 0 where
  pub words : 64 ≤ length s
  pub limits : limits_ok (held s) ≡ true
  pub room : store_held (held s) ≤ length s
  pub sound : frame_spoiled s ≡ false
  pub row : y < (frame_held (held s)).h

shear-low : (w h : ℕ) (slope : Float) (c : ℕ) → get_or (frame w h slope).shear c 0 ≤ (frame w h slope).h
unfolding frame
shear-low w h slope c = let b = greatest-bounds (frame w h slope).shear c in omega arith

shear-x-low : (w h : ℕ) (slope : Float) (r : ℕ) → get_or (frame w h slope).shear_x r 0 ≤ (frame w h slope).w
unfolding frame
shear-x-low w h slope r = let b = greatest-bounds (frame w h slope).shear_x r in omega arith

sub_small : (a b : ℕ) → a ≤ 32767 → b ≤ 32767 → Coordinate (sub_ℕ a b)
sub_small a b h k = go (is_le (compare (suc a) b))
  where
    go : (t : Bool) → Coordinate (cond t (negsuc (b - suc a)) (pos (a - b)))
    go true = omega arith
    go false = omega arith

module _ (s : List ℕ) (y : ℕ) (M : Mappable s y) where
  f : Frame
  f = frame_held (held s)

  pw : ℕ
  pw = get_or s 1 0

  few : Limited (held s)
  few = limited (held s) M.limits

  pw-is : get_or s 1 0 ≡ (held s).page_w
  unfolding held
  pw-is = refl

  h-is : get_or s 4 0 ≡ (held s).h
  unfolding held
  h-is = refl

  sound : ((held s).w ≡ (frame_held (held s)).w) × ((held s).h ≡ (frame_held (held s)).h) × (part header_words ((held s).page_w + (frame_held (held s)).h) s ≡ (frame_held (held s)).shear ++ (frame_held (held s)).shear_x)
  sound = frame-words s M.limits M.sound

  pub map-room : (64 + (get_or s 1 0 + get_or s 4 0) ≤ length s) × (0 < get_or s 1 0) × (y < get_or s 4 0)
  map-room =
      let r = M.room in
      let a = pw-is in
      let b = h-is in
      let d = sound.1 in
      let q = M.row in
      let w = few.sides.wide in
      (omega arith, omega arith, omega arith)

  first_part : take (get_or s 1 0) (drop 64 s) ≡ (frame_held (held s)).shear
  first_part = ap (λ z. take z (drop 64 s)) pw-is ∙ first-held s M.limits M.sound

  second-part : take (get_or s 4 0) (drop (64 + get_or s 1 0) s) ≡ (frame_held (held s)).shear_x
  second-part = (λ i. take ((h-is ∙ sound.1) i) (drop (64 + pw-is i) s)) ∙ second-held s M.limits M.sound

  pub mapped-is : (x : ℕ) (r : Point) (A B : List ℕ) → A ≡ take (get_or s 1 0) (drop 64 s) → B ≡ take (get_or s 4 0) (drop (64 + get_or s 1 0) s)
      → ((ph w h : ℕ) → r ≡ to_page (frame_of (get_or s 1 0) ph A B w h) x y) → r ≡ to_page (frame_held (held s)) x y
  mapped-is x r A B ea eb e =
      e (held s).page_h (frame_held (held s)).w (frame_held (held s)).h
      ∙ ((λ i. to_page (frame_of (pw-is i) (held s).page_h ((ea ∙ first_part) i) ((eb ∙ second-part) i) (frame_held (held s)).w (frame_held (held s)).h) x y)
      ∙ ap (λ (z : Frame). to_page z x y) (sym (frame-is-frame_of (held s).page_w (held s).page_h (held s).slope few.sides few.within)))

  -- small numbers
  pub mapped-small : (x : ℕ) → x < (frame_held (held s)).w → Coordinate (to_page (frame_held (held s)) x y).x × Coordinate (to_page (frame_held (held s)) x y).y
  unfolding to_page
  mapped-small x lx =
      let F = frame-fits (held s).page_w (held s).page_h (held s).slope few.sides few.within in
      let H = M.row in (
        sub_small x _ (let a = F.0 in omega arith) (let b = shear-x-low (held s).page_w (held s).page_h (held s).slope y in let a = F.0 in omega arith),
        sub_small y _ (let a = F.1 in omega arith) (le_trans (shear-low (held s).page_w (held s).page_h (held s).slope _) (let a = F.1 in omega arith)),
      )

-- the point as the code finds it, by the shears that it cuts out
module _ (s : List ℕ) (x y : ℕ) (M : Mappable s y) (lx : x < (frame_held (held s)).w) (a b : List ℕ) (ea : a ≡ take (get_or s 1 0) (drop 64 s)) (eb : b ≡ take (get_or s 4 0) (drop (64 + get_or s 1 0) s)) (r : Point)
    (e : (ph w k : ℕ) → r ≡ to_page (frame_of (get_or s 1 0) ph a b w k) x y) where
  pub point-is : r ≡ to_page (frame_held (held s)) x y
  point-is = mapped-is s y M x r a b ea eb e

  pub point-small : Coordinate r.x × Coordinate r.y
  point-small = subst (λ (p : Point). Coordinate p.x × Coordinate p.y) (sym point-is) (mapped-small s y M x lx)

-- an accepted point
both : (a b : Bool) → not (a && b) ≡ false → (a ≡ true) × (b ≡ true)
both true true e = (refl, refl)
both true false e = absurd (true≢false e)
both false b e = absurd (true≢false e)

pub mappable : (s : List ℕ) (lacking : Bool) (x y : ℕ) → Readable s lacking (not (ltb x (frame_held (held s)).w && ltb y (frame_held (held s)).h)) → Mappable s y × (x < (frame_held (held s)).w)
mappable s lacking x y R =
    let t = both (ltb x (frame_held (held s)).w) (ltb y (frame_held (held s)).h) R.good in (
      record { words = R.words; limits = R.limits; room = R.room; sound = R.sound; row = ltb-true y (frame_held (held s)).h t.1 },
      ltb-true x (frame_held (held s)).w t.0,
    )

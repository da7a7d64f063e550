-- The ink dots of a levelled plane and those of the mask pair one to one by mapping back: of any plane whose frame is the levelled mask, and
-- so of what levelling gives.
use mathlib.Core.Path.{◌≡◌, sym, ap, ◌∙◌}
use mathlib.Core.List.{List}
use mathlib.Core.Logic.{◌⊎◌, inl, inr}
use Prim.Native.Nat.{ℕ, ◌+◌, ◌*◌, ◌/◌, ◌%◌, ◌<◌}
use native.Mathlib.Omega.{arith}
use lib.Ieee.{Float}
use lib.ListN.{length, get_or, take}
use lib.Seq.{get_or-take, take_all}
use Rattle.memory.specs.rules.Lists.{occurs}
use Rattle.memory.proofs.PlaneLaws.{dot-inside, dot-column, dot-row}
use Rattle.memory.proofs.TableLaws.{get_or-table}
use Rattle.params.specs.declared.LayoutParams.{LayoutParams}
use Rattle.levelling.specs.rules.Frames.{Frame, frame, row_of, column_of}
use Rattle.levelling.specs.rules.Mapping.{to_page}
use Rattle.levelling.specs.rules.Pairs.{ToInk, FromInk, InkPairs}
use Rattle.levelling.specs.rules.Planes.{level_at, levelled, level_ink, levelling}
use Rattle.levelling.proofs.InverseTheorems.{HoldsPage, frame-holds, Source, added-or-source, place-maps-back, mapped-point-is-place, level_at-place, levelled-ink-count, length-levelled}

module _ (f : Frame) (holds : HoldsPage f) (mask plane : List ℕ) (wide : 0 < f.page_w) (size : length mask ≡ f.page_w * f.page_h) (front : take (f.w * f.h) plane ≡ level_ink f mask) where
  dot_at : (x y : ℕ) → x < f.w → y < f.h → get_or plane (y * f.w + x) 0 ≡ level_at f 0 mask x y
  unfolding levelled
  dot_at x y lx ly =
      let l = dot-inside f.w f.h x y lx ly in
      sym (get_or-take (f.w * f.h) plane (y * f.w + x) 0 l)
      ∙ (ap (λ (z : List ℕ). get_or z (y * f.w + x) 0) front
      ∙ (get_or-table (λ i. level_at f 0 mask (i % f.w) (i / f.w)) (f.w * f.h) (y * f.w + x) 0 l
      ∙ (λ t. level_at f 0 mask (dot-column f.w x y lx t) (dot-row f.w x y lx t))))

  to-ink : (x y : ℕ) → x < f.w → y < f.h → get_or plane (y * f.w + x) 0 ≡ 1 → ToInk f mask x y
  to-ink x y lx ly e = go (added-or-source f x y)
    where
      go : ((fill : ℕ) (page : List ℕ) → level_at f fill page x y ≡ fill) ⊎ Source f x y → ToInk f mask x y
      go (inl h) = absurd (let z : ◌≡◌ {A = ℕ} 0 1 = sym (h 0 mask) ∙ (sym (dot_at x y lx ly) ∙ e) in omega arith)
      go (inr S) = record { c = S.c; r = S.r; c_in = S.c_in; r_in = S.r_in; maps = S.point; ink = sym (S.value 0 mask) ∙ (sym (dot_at x y lx ly) ∙ e) }

  from-ink : (c r : ℕ) → c < f.page_w → r < f.page_h → get_or mask (r * f.page_w + c) 0 ≡ 1 → FromInk f plane c r
  from-ink c r lc lr e =
      let lx = holds.column_inside c r lc in
      let ly = holds.row_inside c r lr in
      record {
        x = column_of f c r;
        y = row_of f c r;
        x_in = lx;
        y_in = ly;
        maps = place-maps-back f c r lc;
        ink = dot_at (column_of f c r) (row_of f c r) lx ly ∙ (level_at-place f 0 mask c r lc lr ∙ e);
      }

  apart : (x y x' y' : ℕ) → x < f.w → y < f.h → x' < f.w → y' < f.h → get_or plane (y * f.w + x) 0 ≡ 1 → get_or plane (y' * f.w + x') 0 ≡ 1
      → to_page f x y ≡ to_page f x' y' → (x ≡ x') × (y ≡ y')
  apart x y x' y' lx ly lx' ly' e e' q =
      let S = to-ink x y lx ly e in
      let A = mapped-point-is-place f x y S.c S.r S.c_in S.maps in
      let B = mapped-point-is-place f x' y' S.c S.r S.c_in (sym q ∙ S.maps) in
      (sym A.0 ∙ B.0, sym A.1 ∙ B.1)

  pub plane-pairs : InkPairs f mask plane
  plane-pairs =
      record {
        none_invented = to-ink;
        none_lost = from-ink;
        none_doubled = apart;
        as_many = ap (occurs 1) front ∙ levelled-ink-count f holds mask wide size;
      }

-- what levelling gives pairs with the mask that it is handed
pub levelling-pairs : (mask : List ℕ) (w h : ℕ) (skew slope : Float) (p : LayoutParams) → 0 < w → length mask ≡ w * h
    → InkPairs (levelling mask w h skew slope p).frame mask (levelling mask w h skew slope p).ink
unfolding levelling frame
levelling-pairs mask w h skew slope p wide size =
    let f = (levelling mask w h skew slope p).frame in
    plane-pairs f (frame-holds w h (levelling mask w h skew slope p).slope) mask (level_ink f mask) wide size
    (take_all (f.w * f.h) (level_ink f mask) (let e = length-levelled f 0 mask in omega arith))

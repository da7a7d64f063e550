-- The ink of a levelled leaf: its bytes are 0 and 1, and there are as many ink dots as in the mask.
use mathlib.Core.Path.{◌≡◌, sym, ap, ◌∙◌, subst}
use mathlib.Core.Bool.{false, not}
use mathlib.Core.List.{List}
use Prim.Native.Nat.{ℕ, ◌*◌, ◌≤◌, ◌<◌}
use native.Mathlib.Nat.{le_trans, mul-le-mul}
use native.Mathlib.Omega.{arith}
use lib.ListN.{length, get_or, take}
use Rattle.memory.specs.rules.Limits.{max_mask_dots}
use Rattle.memory.specs.rules.Lists.{occurs}
use Rattle.levelling.specs.rules.Frames.{frame}
use Rattle.levelling.specs.rules.Planes.{levelling}
use Rattle.levelling.proofs.FrameLaws.{frame-rows, frame-fits, frame-width}
use Rattle.levelling.proofs.InverseTheorems.{HoldsPage, frame-holds, levelled-ink-count, levelled-bits, length-levelled}
use Rattle.memory.proofs.MaskLaws.{mask-ones, ones-mask}
use Rattle.memory.specs.rules.Masks.{is_mask}
use Rattle.judging.specs.rules.Leaves.{Leaf, levelling_of}
use Rattle.judging.specs.rules.Spoiled.{ink_spoiled}
use Rattle.store.proofs.HeaderLaws.{Accepted, sides, one, page_wide, page_high, ink_is}

-- the dots of a leaf's frame
abbrev pub leaf_dots : Leaf → ℕ
leaf_dots a = (levelling_of a).frame.w * (levelling_of a).frame.h

module _ (a : Leaf) where
  pub ink-long : length (levelling_of a).ink ≡ leaf_dots a
  ink-long = ap length (ink_is a) ∙ length-levelled (levelling_of a).frame 0 a.mask

  pub frame-holds-page : HoldsPage (levelling_of a).frame
  unfolding levelling
  frame-holds-page = frame-holds a.w a.h (levelling_of a).slope

  module _ (A : Accepted a) where
    pub ink-ones : (i : ℕ) → get_or (levelling_of a).ink i 0 ≤ 1
    ink-ones i = subst (λ (z : List ℕ). get_or z i 0 ≤ 1) (sym (ink_is a)) (levelled-bits (levelling_of a).frame a.mask (mask-ones a.mask A.bits) i)

    pub ink-count : occurs 1 (levelling_of a).ink ≡ occurs 1 a.mask
    ink-count =
        ap (occurs 1) (ink_is a)
        ∙ levelled-ink-count (levelling_of a).frame frame-holds-page a.mask (subst (λ n. 0 < n) (sym (page_wide a)) (sides a A).wide)
        (A.whole ∙ (λ i. sym (page_wide a) i * sym (page_high a) i))

    -- a plane that holds it is not spoiled
    pub ink-sound : (dots : ℕ) (ink : List ℕ) → dots ≡ leaf_dots a → take (leaf_dots a) ink ≡ (levelling_of a).ink → ink_spoiled dots ink ≡ false
    unfolding ink_spoiled
    ink-sound dots ink e q =
        ap (λ n. not (is_mask (take n ink))) e ∙ (ap (λ (z : List ℕ). not (is_mask z)) q ∙ ap not (ones-mask (levelling_of a).ink ink-ones))

-- the sides of its frame
pub record FrameSmall (a : Leaf) : Type 0 where
  pub wide : 0 < (levelling_of a).frame.w
  pub high : 0 < (levelling_of a).frame.h
  pub few-dots : leaf_dots a ≤ max_mask_dots
  pub low : (levelling_of a).frame.h ≤ 16383

dots-few : (w h : ℕ) → w ≤ 24574 → h ≤ 16383 → w * h ≤ max_mask_dots
dots-few w h a b = le_trans (mul-le-mul a b) (omega arith)

pub frame_small : (a : Leaf) → Accepted a → FrameSmall a
unfolding levelling
frame_small a A =
    let S = sides a A in
    let O = one a A in
    let t = (levelling_of a).slope in
    let r = frame-rows a.w a.h t S O in
    let f = frame-fits a.w a.h t S O in
    let e = frame-width a.w a.h t S O in
    record {
      wide = let x = S.wide in omega arith;
      high = r.0;
      few-dots = dots-few (frame a.w a.h t).w (frame a.w a.h t).h f.0 f.1;
      low = f.1;
    }

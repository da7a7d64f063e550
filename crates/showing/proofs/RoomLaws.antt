-- The frame of a page to 16 × 16 is at most 46 × 31, and the memory lent for it is enough.
use Prim.Native.Nat.{◌-◌, ◌*◌, ◌≤◌}
use mathlib.Core.Path.{◌≡◌}
use native.Mathlib.Nat.{mul-le-mul}
use native.Mathlib.Omega.{arith}
use Rattle.memory.specs.rules.Limits.{store_words, scratch_words}
use Rattle.rounding.proofs.DriftLaws.{drift-within}
use Rattle.levelling.specs.rules.Frames.{frame}
use Rattle.levelling.specs.rules.Planes.{levelling}
use Rattle.levelling.proofs.FrameLaws.{frame-height, frame-width}
use Rattle.judging.specs.rules.Leaves.{Leaf, levelling_of}
use Rattle.store.proofs.HeaderLaws.{Accepted, sides, one}
use Rattle.showing.specs.stages.Rooms.{shown_dots, shown_store, shown_scratch}

pub record SmallFrame (a : Leaf) : Type 0 where
  pub narrow : (levelling_of a).frame.w ≤ 46
  pub low : (levelling_of a).frame.h ≤ 31

pub small-frame : (a : Leaf) → Accepted a → a.w ≤ 16 → a.h ≤ 16 → SmallFrame a
unfolding levelling
small-frame a A n l =
    let t = (levelling_of a).slope in
    let S = sides a A in
    let O = one a A in
    let high = frame-height a.w a.h t S O in
    let wide = frame-width a.w a.h t S O in
    let d = drift-within t O (a.w - 1) (omega arith) in
    let tall : (frame a.w a.h t).h ≤ 31 = (let p = S.wide in omega arith) in
    let e = drift-within t O ((frame a.w a.h t).h - 1) (omega arith) in
    let r : (frame a.w a.h t).w ≤ 46 = (let p = S.high in omega arith) in
    record { narrow = r; low = tall }

pub record SmallRoom (a : Leaf) : Type 0 where
  pub words : store_words a.w (levelling_of a).frame.w (levelling_of a).frame.h a.capacity ≤ shown_store
  pub dots : (levelling_of a).frame.w * (levelling_of a).frame.h ≤ shown_dots
  pub scratch : scratch_words ((levelling_of a).frame.w * (levelling_of a).frame.h) a.capacity ≤ shown_scratch

pub small-room : (a : Leaf) → Accepted a → a.w ≤ 16 → a.h ≤ 16 → a.capacity ≡ 64 → SmallRoom a
small-room a A n l c =
    let F = small-frame a A n l in
    let x = F.narrow in
    let y = F.low in
    let d : (levelling_of a).frame.w * (levelling_of a).frame.h ≤ 46 * 31 = mul-le-mul {n₁ = (levelling_of a).frame.w} {m₁ = (levelling_of a).frame.h} {n₂ = 46} {m₂ = 31} x y in
    record { words = omega arith; dots = omega arith; scratch = omega arith }

-- The frame words and the words of the shears held against the frame that the held slope gives.
use mathlib.Core.Path.{◌≡◌, sym, ap, ◌∙◌}
use mathlib.Core.Bool.{Bool, not, ◌&&◌}
use mathlib.Core.List.{List, ◌++◌}
use Prim.Native.Nat.{ℕ, ◌+◌, ◌-◌, ◌^◌, ◌≤◌, ◌<◌}
use native.Mathlib.Omega.{arith}
use lib.Dec.{eqb}
use lib.Ieee.{Float}
use lib.ListN.{length, get_or, take, drop, length-drop}
use lib.Seq.{length-take-le, take-take, take-add, drop-drop}
use Rattle.memory.specs.rules.Lists.{table}
use Rattle.memory.proofs.WordLaws.{same-append}
use Rattle.memory.proofs.PartLaws.{tail-part}
use Rattle.rounding.specs.rules.Drift.{WithinOne, drift, drift_x}
use Rattle.levelling.specs.rules.Shears.{shear_of}
use Rattle.levelling.specs.rules.Frames.{Frame, PageSides, frame}
use Rattle.levelling.proofs.FrameLaws.{frame-rows, length-shears, shear-is, shear-x-is}
use Rattle.judging.specs.rules.Header.{held, frame_held, part, header_words}
use Rattle.memory.specs.rules.Words.{same_words}
use Rattle.judging.specs.rules.Spoiled.{frame_differs, frame_spoiled}

-- the first n words of the words from `at` on
behind-words : (s : List ℕ) (at n : ℕ) → at + n ≤ length s → take n (take (length s - at) (drop at s)) ≡ take n (drop at s)
behind-words s at n h = take-take n (length s - at) (drop at s) (omega arith)

module _ (s : List ℕ) (pw ph : ℕ) (slope : Float) (sides : PageSides pw ph) (W : WithinOne slope) (w h : ℕ) (ew : w ≡ (frame pw ph slope).w) (eh : h ≡ (frame pw ph slope).h)
    (room : 64 + (pw + h) ≤ length s) (epw : pw ≡ (held s).page_w) (eph : ph ≡ (held s).page_h) (es : slope ≡ (held s).slope) where
  f : Frame
  f = frame pw ph slope

  few-rows : (0 < h) × (h ≤ 2 ^ 15)
  few-rows = let r = frame-rows pw ph slope sides W in (omega arith, omega arith)

  pub rows-asked : (0 < pw) × (pw ≤ 2 ^ 15) × (pw ≤ length (take (length s - 64) (drop 64 s)))
  rows-asked = (sides.wide, (let x = sides.w_fits in omega arith), let e = ap length (tail-part 64 s) ∙ length-drop 64 s in omega arith)

  pub columns-asked : (0 < h) × (h ≤ 2 ^ 15) × (h ≤ length (take (length s - (64 + pw)) (drop (64 + pw) s)))
  columns-asked = (few-rows.0, few-rows.1, let e = ap length (tail-part (64 + pw) s) ∙ length-drop (64 + pw) s in omega arith)

  frame-is-held : frame_held (held s) ≡ frame pw ph slope
  frame-is-held = λ i. frame (sym epw i) (sym eph i) (sym es i)

  parts_same : same_words (part header_words (pw + h) s) ((frame pw ph slope).shear ++ (frame pw ph slope).shear_x)
      ≡ (same_words (take pw (drop 64 s)) (frame pw ph slope).shear && same_words (take h (drop (64 + pw) s)) (frame pw ph slope).shear_x)
  unfolding part
  parts_same =
      let n = length-shears pw ph slope sides W in
      let k : length (take pw (drop 64 s)) ≡ pw = length-take-le pw (drop 64 s) (let e = length-drop 64 s in omega arith) in
      ap (λ (z : List ℕ). same_words z ((frame pw ph slope).shear ++ (frame pw ph slope).shear_x)) (take-add pw h (drop 64 s) ∙ ap (λ (z : List ℕ). take pw (drop 64 s) ++ take h z) (drop-drop pw 64 s))
      ∙ same-append (take pw (drop 64 s)) (take h (drop (64 + pw) s)) (frame pw ph slope).shear (frame pw ph slope).shear_x (k ∙ sym n.0)

  pub differs-is : (rows columns : Bool) → rows ≡ same_words (take pw (take (length s - 64) (drop 64 s))) (shear_of (table (drift slope) pw))
      → columns ≡ same_words (take h (take (length s - (64 + pw)) (drop (64 + pw) s))) (shear_of (table (drift_x slope) h))
      → not (eqb (get_or s 3 0) w && eqb (get_or s 4 0) h && (rows && columns)) ≡ frame_spoiled s
  unfolding frame_spoiled frame_differs held
  differs-is rows columns er ec =
      let a : rows ≡ same_words (take pw (drop 64 s)) (frame pw ph slope).shear =
      er ∙ (λ i. same_words (behind-words s 64 pw (omega arith) i) (sym (shear-is pw ph slope sides W) i)) in
      let b : columns ≡ same_words (take h (drop (64 + pw) s)) (frame pw ph slope).shear_x =
      ec ∙ ((λ i. same_words (behind-words s (64 + pw) h (omega arith) i) (shear_of (table (drift_x slope) (eh i)))) ∙ ap (same_words (take h (drop (64 + pw) s))) (sym (shear-x-is pw ph slope sides W))) in
      (λ i. not (eqb (get_or s 3 0) (ew i) && eqb (get_or s 4 0) (eh i) && (a i && b i)))
      ∙ ((λ i. not (eqb (get_or s 3 0) (frame pw ph slope).w && eqb (get_or s 4 0) (frame pw ph slope).h && sym parts_same i))
      ∙ ((λ i. not (eqb (get_or s 3 0) (frame pw ph slope).w && eqb (get_or s 4 0) (frame pw ph slope).h && same_words (part header_words (epw i + eh i) s) ((frame pw ph slope).shear ++ (frame pw ph slope).shear_x)))
      ∙ (λ i. not (eqb (get_or s 3 0) (sym frame-is-held i).w && eqb (get_or s 4 0) (sym frame-is-held i).h && same_words (part header_words ((held s).page_w + (sym frame-is-held i).h) s) ((sym frame-is-held i).shear ++ (sym frame-is-held i).shear_x)))))

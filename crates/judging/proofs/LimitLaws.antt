-- A header within its limits: the sides of its page and frame, and the words that they ask.
use mathlib.Core.Path.{◌≡◌, refl, sym, ap, ◌∙◌, subst}
use mathlib.Core.Bool.{Bool, true, false, ◌&&◌}
use mathlib.Core.List.{List}
use Prim.Native.Nat.{ℕ, ◌+◌, ◌≤◌, ◌<◌}
use native.Mathlib.Omega.{arith}
use borrow.Author.Tests.{lt-ltb, le-ltb, leb-true, ltb-true}
use lib.Dec.{T, ltb, leb}
use lib.IntN.{pos}
use lib.Ieee.{Float, le, fin}
use lib.ListN.{length, get_or}
use Rattle.memory.specs.rules.Floats.{float_at}
use Rattle.memory.specs.rules.Limits.{store_words, max_page_side, max_capacity}
use Rattle.memory.specs.rules.Refusals.{refuse_if}
use Rattle.memory.proofs.BoolLaws.{and_left, and_right}
use Rattle.rounding.specs.rules.Drift.{WithinOne}
use Rattle.levelling.specs.rules.Frames.{Frame, PageSides, frame}
use Rattle.judging.specs.rules.Header.{Held, held, frame_held, store_held}
use Rattle.judging.specs.rules.Spoiled.{side_ok, capacity_ok, skew_ok, slope_ok, limits_ok}

-- what the limits say of a header
pub record Limited (g : Held) : Type 0 where
  pub sides : PageSides g.page_w g.page_h
  pub few : g.capacity ≤ max_capacity
  pub within : WithinOne g.slope

to-T : (b : Bool) → b ≡ true → T b
to-T b e = subst T (sym e) tt

pub limited : (g : Held) → limits_ok g ≡ true → Limited g
unfolding limits_ok slope_ok
limited g e =
    let w = side_ok g.page_w in
    let h = side_ok g.page_h in
    let c = capacity_ok g.capacity in
    let k = skew_ok g.skew in
    let t = slope_ok g.slope in
    let a₁ = and_left (w && h && c && k) t e in
    let a₂ = and_left (w && h && c) k a₁ in
    let a₃ = and_left (w && h) c a₂ in
    let ew = and_left w h a₃ in
    let eh = and_right w h a₃ in
    let ec = and_right (w && h) c a₂ in
    let et = and_right (w && h && c && k) t e in
    let low = le (fin true 1 (pos 0)) g.slope in
    let high = le g.slope (fin false 1 (pos 0)) in
    record {
      sides =
          record {
            wide = ltb-true 0 g.page_w (and_left (ltb 0 g.page_w) (leb g.page_w max_page_side) ew);
            high = ltb-true 0 g.page_h (and_left (ltb 0 g.page_h) (leb g.page_h max_page_side) eh);
            w_fits = leb-true g.page_w max_page_side (and_right (ltb 0 g.page_w) (leb g.page_w max_page_side) ew);
            h_fits = leb-true g.page_h max_page_side (and_right (ltb 0 g.page_h) (leb g.page_h max_page_side) eh);
          };
      few = leb-true g.capacity max_capacity (and_right (ltb 0 g.capacity) (leb g.capacity max_capacity) ec);
      within = (to-T low (and_left low high et), to-T high (and_right low high et));
    }

module _ (s : List ℕ) (ok : limits_ok (held s) ≡ true) (t : Float) (et : t ≡ float_at s 8) where
  pub point-sides : PageSides (get_or s 1 0) (get_or s 2 0)
  unfolding held
  point-sides = (limited (held s) ok).sides

  slope-is : t ≡ (held s).slope
  unfolding held
  slope-is = et

  pub point-within : WithinOne t
  point-within = subst WithinOne (sym slope-is) (limited (held s) ok).within

  pub point-few : get_or s 5 0 ≤ max_capacity
  unfolding held
  point-few = (limited (held s) ok).few

  pub point-held : (get_or s 1 0 ≡ (held s).page_w) × (get_or s 2 0 ≡ (held s).page_h) × (t ≡ (held s).slope)
  unfolding held
  point-held = (refl, refl, et)

  module _ (w h : ℕ) (ew : w ≡ (frame (get_or s 1 0) (get_or s 2 0) t).w) (eh : h ≡ (frame (get_or s 1 0) (get_or s 2 0) t).h) where
    frame-by : frame (get_or s 1 0) (get_or s 2 0) t ≡ frame_held (held s)
    unfolding held
    frame-by = ap (frame (get_or s 1 0) (get_or s 2 0)) et

    w-by : w ≡ (frame_held (held s)).w
    w-by = ew ∙ ap (λ (f : Frame). f.w) frame-by

    h-by : h ≡ (frame_held (held s)).h
    h-by = eh ∙ ap (λ (f : Frame). f.h) frame-by

    module _ (n : ℕ) (en : n ≡ store_words (get_or s 1 0) w h (get_or s 5 0)) where
      words-by : n ≡ store_held (held s)
      unfolding held
      words-by = en ∙ (λ i. store_words (get_or s 1 0) (w-by i) (h-by i) (get_or s 5 0))

      pub point-short : (rest : ℕ) → length s < n → 9 ≡ refuse_if (ltb (length s) (store_held (held s))) 9 rest
      unfolding refuse_if
      point-short rest l = sym (rw (lt-ltb (length s) (store_held (held s)) (let e = words-by in omega arith)))

      point-long : (rest : ℕ) → n ≤ length s → rest ≡ refuse_if (ltb (length s) (store_held (held s))) 9 rest
      unfolding refuse_if
      point-long rest l = sym (rw (le-ltb (length s) (store_held (held s)) (let e = words-by in omega arith)))

      pub point-room : n ≤ length s → 64 + (get_or s 1 0 + h) ≤ length s
      point-room l = omega arith

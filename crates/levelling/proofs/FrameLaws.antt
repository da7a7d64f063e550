-- The frame of a page with sides from 1 to 8192 under a slope from -1 to 1:
--   shear-closed, shear-x-closed    each entry of the shears by the drifts' sizes
--   shear-steps, shear-x-steps      each shear runs one way, by at most one from entry to entry
--   frame-height, frame-width       the frame is the page and the last drift's size
--   frame-fits                      so it is never larger than document 01's limits
--   frame-plane-fits                a page plane can be moved into it
use mathlib.Core.Path.{◌≡◌, refl, sym, ap, ◌∙◌, subst}
use mathlib.Core.List.{List}
use mathlib.Core.Bool.{not}
use Prim.Native.Nat.{ℕ, suc, ◌+◌, ◌-◌, ◌*◌, ◌^◌, ◌≤◌, ◌<◌}
use native.Mathlib.Nat.{le_trans, le_of_lt}
use native.Mathlib.Omega.{arith}
use lib.Dec.{lit≤}
use lib.Ieee.{Float}
use lib.ListN.{length}
use Rattle.memory.specs.rules.Limits.{max_frame_width, max_frame_height}
use Rattle.memory.specs.rules.Lists.{table, greatest}
use Rattle.memory.proofs.TableLaws.{length-table}
use Rattle.rounding.specs.rules.Drift.{WithinOne, drift, drift_x}
use Rattle.rounding.proofs.Signs.{negative}
use Rattle.rounding.proofs.DriftLaws.{drift-within, drift-rises, drift-step}
use Rattle.levelling.specs.declared.shears.Drift.{Drift}
use Rattle.levelling.specs.rules.Shears.{drift_of, shear_of}
use Rattle.levelling.specs.rules.Frames.{PageSides, frame, frame_of}
use Rattle.levelling.specs.stages.Rooms.{PlaneFits}
use Rattle.levelling.proofs.SlopeLaws.{drift_size, falls, drift_of-signed}
use Rattle.memory.proofs.GreatestLaws.{greatest-bounds}
use Rattle.levelling.proofs.ShearLaws.{shear_entry, OneWay, last-greatest, shear-one-way, greatest-one-way, Steps, steps-one-way}

-- ---- either drift runs one way
pub drifts-one-way : (which : Drift) (slope : Float) → WithinOne slope → (n : ℕ) → 0 < n → n ≤ 2 ^ 15 → OneWay (drift_of which slope) (falls which slope) (drift_size slope) n
drifts-one-way which slope w n some few =
    record {
      some = some;
      first = (let a = drift-within slope w 0 (lit≤ tt) in omega arith);
      rises = λ c c' h l. drift-rises slope w c c' h (le_trans (le_of_lt l) few);
      entries = λ c l. drift_of-signed which slope w c (le_trans (le_of_lt l) few);
    }

drift-steps : (which : Drift) (slope : Float) → WithinOne slope → (n : ℕ) → 0 < n → n ≤ 2 ^ 15 → Steps (falls which slope) (shear_of (table (drift_of which slope) n))
drift-steps which slope w n some few =
    let W = drifts-one-way which slope w n some few in
    subst (Steps (falls which slope)) (sym (shear-one-way (drift_of which slope) (falls which slope) (drift_size slope) n W))
    (steps-one-way (falls which slope) (drift_size slope) n (last-greatest (drift_of which slope) (falls which slope) (drift_size slope) n W) (λ c l. drift-step slope w c (under c n few l)))
  where
    under : (c n : ℕ) → n ≤ 2 ^ 15 → suc c < n → c < 2 ^ 15
    under c n h l = omega arith

module _ (w h : ℕ) (slope : Float) (sides : PageSides w h) (one : WithinOne slope) where
  few-columns : w ≤ 2 ^ 15
  few-columns = omega (arith, sides.w_fits)

  rows : OneWay (drift slope) (negative slope) (drift_size slope) w
  rows = drifts-one-way Drift.Row slope one w sides.wide few-columns

  pub frame-height : (frame w h slope).h ≡ h + drift_size slope (w - 1)
  unfolding frame
  frame-height = ap (λ k. h + k) (greatest-one-way (drift slope) (negative slope) (drift_size slope) w rows)

  small : drift_size slope (w - 1) ≤ w - 1
  small = drift-within slope one (w - 1) (omega (arith, few-columns))

  pub frame-rows : (0 < (frame w h slope).h) × ((frame w h slope).h ≤ max_frame_height)
  frame-rows = let e = frame-height in let s = small in let p = sides in (omega arith, omega arith)

  few-rows : (frame w h slope).h ≤ 2 ^ 15
  few-rows = omega (arith, frame-rows)

  columns : OneWay (drift_x slope) (not (negative slope)) (drift_size slope) (frame w h slope).h
  columns = drifts-one-way Drift.Column slope one (frame w h slope).h frame-rows.0 few-rows

  pub shear-x-is : (frame w h slope).shear_x ≡ shear_of (table (drift_x slope) (frame w h slope).h)
  unfolding frame
  shear-x-is = refl

  pub shear-is : (frame w h slope).shear ≡ shear_of (table (drift slope) w)
  unfolding frame
  shear-is = refl

  wide_is : (frame w h slope).w ≡ w + greatest (shear_of (table (drift_x slope) (frame w h slope).h))
  unfolding frame
  wide_is = refl

  pub frame-width : (frame w h slope).w ≡ w + drift_size slope ((frame w h slope).h - 1)
  frame-width = wide_is ∙ ap (λ k. w + k) (greatest-one-way (drift_x slope) (not (negative slope)) (drift_size slope) (frame w h slope).h columns)

  -- never larger than document 01's limits
  pub frame-fits : ((frame w h slope).w ≤ max_frame_width) × ((frame w h slope).h ≤ max_frame_height)
  frame-fits =
      let e = frame-width in
      let r = frame-rows in
      let s = drift-within slope one ((frame w h slope).h - 1) (omega (arith, few-rows)) in
      let p = sides in
      (omega arith, omega arith)

  pub shear-closed : (frame w h slope).shear ≡ table (shear_entry (negative slope) (drift_size slope) w) w
  shear-closed = shear-is ∙ shear-one-way (drift slope) (negative slope) (drift_size slope) w rows

  pub shear-x-closed : (frame w h slope).shear_x ≡ table (shear_entry (not (negative slope)) (drift_size slope) (frame w h slope).h) (frame w h slope).h
  shear-x-closed = shear-x-is ∙ shear-one-way (drift_x slope) (not (negative slope)) (drift_size slope) (frame w h slope).h columns

  pub shear-steps : Steps (negative slope) (frame w h slope).shear
  shear-steps = subst (Steps (negative slope)) (sym shear-is) (drift-steps Drift.Row slope one w sides.wide few-columns)

  pub shear-x-steps : Steps (not (negative slope)) (frame w h slope).shear_x
  shear-x-steps = subst (Steps (not (negative slope))) (sym shear-x-is) (drift-steps Drift.Column slope one (frame w h slope).h frame-rows.0 few-rows)

  -- the sides as the code computes them, a and b the greatest entries of the shears
  pub rows-by-shear : (a : ℕ) → a ≡ greatest (shear_of (table (drift slope) w)) → h + a ≡ (frame w h slope).h
  unfolding frame
  rows-by-shear a p = ap (λ k. h + k) p

  pub sides-by-shears : (a b : ℕ) → a ≡ greatest (shear_of (table (drift slope) w)) → b ≡ greatest (shear_of (table (drift_x slope) (h + a)))
      → (w + b ≡ (frame w h slope).w) × (h + a ≡ (frame w h slope).h)
  sides-by-shears a b p q = (ap (λ k. w + k) (q ∙ ap (λ k. greatest (shear_of (table (drift_x slope) k))) (rows-by-shear a p)) ∙ sym wide_is, rows-by-shear a p)

  pub length-shears : (length (frame w h slope).shear ≡ w) × (length (frame w h slope).shear_x ≡ (frame w h slope).h)
  length-shears = (ap length shear-closed ∙ length-table _ w, ap length shear-x-closed ∙ length-table _ (frame w h slope).h)

  -- what `level_plane` is handed, for a page and a frame plane of these sides
  pub frame-plane-fits : (page out : List ℕ) → length page ≡ w * h → (frame w h slope).w * (frame w h slope).h ≤ length out → PlaneFits (frame w h slope) page out
  frame-plane-fits page out e o =
      record {
        page_size = unfold frame in e;
        columns = length-shears.0 ∙ (unfold frame in refl);
        rows = length-shears.1;
        inside = λ r. (let b = greatest-bounds (frame w h slope).shear_x r in unfold frame in omega arith);
        above = λ c. (let b = greatest-bounds (frame w h slope).shear c in unfold frame in omega arith);
        out_size = o;
      }

  pub frame-is-frame_of : frame w h slope ≡ frame_of w h (frame w h slope).shear (frame w h slope).shear_x (frame w h slope).w (frame w h slope).h
  unfolding frame
  frame-is-frame_of = refl

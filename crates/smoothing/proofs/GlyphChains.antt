-- The dots of a glyph stay joined in the smoothed mask: a chain of touching dots of a glyph is a chain of it.
use mathlib.Core.Path.{◌≡◌, sym, ap, ◌∙◌}
use mathlib.Core.Bool.{Bool, true}
use mathlib.Core.List.{List, ◌∷◌}
use Prim.Native.Nat.{ℕ, ◌*◌, ◌<◌}
use native.Mathlib.Omega.{arith}
use lib.ListN.{get_or}
use lib.Dec.{eqb}
use Rattle.union_find.specs.rules.Chains.{Chain, here, rise, fall}
use Rattle.labelling.specs.rules.Labels.{labelling, touches}
use Rattle.labelling.proofs.TouchLaws.{near_of, near-to}
use Rattle.labelling.proofs.Theorems.{label, same-label, same-component, label-within}
use Rattle.sorting.specs.rules.Kinds.{glyph_kind}
use Rattle.smoothing.specs.rules.Smoothing.{smoothed}
use Rattle.smoothing.specs.stages.RowRuns.{glyph_dot, GlyphPlane}
use Rattle.smoothing.proofs.SmoothedDots.{glyph_ink, smoothed-on}

module _ (w h : ℕ) (m ks plane : List ℕ) (gap : ℕ) (wide : 0 < w) (same : GlyphPlane w h m ks plane) where
  -- dot i is one of a glyph
  abbrev glyph : ℕ → Bool
  glyph = glyph_dot (labelling w h m).labels ks

  -- the smoothed mask
  abbrev mask : List ℕ
  mask = smoothed gap w h plane

  glyph-label : (a b : ℕ) → label w h m a ≡ label w h m b → glyph a ≡ glyph b
  unfolding glyph_dot
  glyph-label a b e = ap (λ n. eqb (get_or (0 ∷ ks) n 0) glyph_kind) e

  -- two dots of a glyph that touch do so in the smoothed mask
  both-smoothed : (a b : ℕ) → a < w * h → b < w * h → glyph a ≡ true → glyph b ≡ true → touches w m a b ≡ true → touches w mask a b ≡ true
  both-smoothed a b la lb ga gb t =
      let n = near_of w m a b t in
      near-to w mask a b
      (record { ink-a = smoothed-on w h m ks plane gap wide same a la ga; ink-b = smoothed-on w h m ks plane gap wide same b lb gb; x-le = n.x-le; x-ge = n.x-ge; y-le = n.y-le; y-ge = n.y-ge })

  -- and so does a chain of them
  chain-smoothed : {a b : ℕ} → Chain (touches w m) (w * h) a b → a < w * h → glyph a ≡ true → Chain (touches w mask) (w * h) a b
  chain-smoothed here l g = here
  chain-smoothed (rise {a} {b} l k t c) la g =
      let n = near_of w m a b t in
      let next : glyph b ≡ true = sym (glyph-label a b (same-label w h m a b la k n.ink-a n.ink-b (rise l k t here))) ∙ g in
      rise l k (both-smoothed a b la k g next t) (chain-smoothed c k next)
  chain-smoothed (fall {a} {b} l k t c) la g =
      let n = near_of w m b a t in
      let lb : b < w * h = omega arith in
      let next : glyph b ≡ true = sym (glyph-label a b (same-label w h m a b la lb n.ink-b n.ink-a (fall l k t here))) ∙ g in
      fall l k (both-smoothed b a lb la next g t) (chain-smoothed c lb next)

  -- so dots of one glyph have one label there
  pub same-smoothed : (i j : ℕ) → i < w * h → j < w * h → glyph i ≡ true → label w h m i ≡ label w h m j → (0 < label w h mask i) × (label w h mask i ≡ label w h mask j)
  same-smoothed i j li lj g e =
      let ink = glyph_ink w h m ks plane gap wide same in
      let on = smoothed-on w h m ks plane gap wide same in
      let g' : glyph j ≡ true = sym (glyph-label i j e) ∙ g in
      let c = same-component w h m i j li lj (ink i li g) (ink j lj g') e in (
        (label-within w h mask i li (on i li g)).0,
        same-label w h mask i j li lj (on i li g) (on j lj g') (chain-smoothed c li g),
      )

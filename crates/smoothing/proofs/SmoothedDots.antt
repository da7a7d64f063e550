-- The dots of the smoothed mask, by the glyph dots of their row.
use mathlib.Core.Path.{◌≡◌, refl, sym, ap, ◌∙◌, subst}
use mathlib.Core.List.{List, ◌∷◌}
use mathlib.Core.Bool.{Bool, true, false, true≢false}
use Prim.Native.Nat.{ℕ, suc, ◌+◌, ◌-◌, ◌*◌, ◌/◌, ◌%◌, ◌≤◌, ◌<◌}
use native.Mathlib.Nat.{div-add-mod', mod-lt, div-lt_iff_lt-mul, mul_comm, mul-le-mul_right, suc-mul}
use native.Mathlib.Decide.{ℕ_discrete, dec_lt}
use native.Mathlib.Omega.{arith}
use borrow.Author.Tests.{lt-ltb}
use lib.ListN.{get_or}
use lib.Dec.{eqb, leb}
use Rattle.memory.proofs.PlaneLaws.{dot-column, dot-row, dot-inside}
use Rattle.memory.specs.rules.Masks.{is_ink}
use Rattle.labelling.specs.rules.Labels.{labelling}
use Rattle.sorting.specs.rules.Kinds.{glyph_kind}
use Rattle.extents.proofs.MaskLaws.{is_ink-mask_of}
use Rattle.smoothing.specs.rules.Smoothing.{glyph_at, joined, smoothed}
use Rattle.smoothing.specs.stages.RowRuns.{glyph_dot, GlyphPlane}
use Rattle.smoothing.proofs.JoinLaws.{joined-on, joined-between, joined-before, joined-after}
use Rattle.smoothing.proofs.RunNumberLaws.{label-blank}

-- a row before row y ends where that starts, or earlier
pub rows-rise : (w a b : ℕ) → a < b → a * w + w ≤ b * w
rows-rise w a b l = let p : suc a * w ≤ b * w = mul-le-mul_right w l in let q : suc a * w ≡ a * w + w = suc-mul a w in omega arith

module _ (w h : ℕ) (m ks plane : List ℕ) (gap : ℕ) (wide : 0 < w) (same : GlyphPlane w h m ks plane) where
  abbrev glyph : ℕ → Bool
  glyph = glyph_dot (labelling w h m).labels ks

  abbrev mask : List ℕ
  mask = smoothed gap w h plane

  -- a glyph dot is ink
  pub glyph_ink : (i : ℕ) → i < w * h → glyph i ≡ true → is_ink m i ≡ true
  unfolding glyph_dot
  glyph_ink i l e = go (is_ink m i) refl
    where
      go : (t : Bool) → is_ink m i ≡ t → t ≡ true
      go true q = refl
      go false q = absurd (true≢false (sym e ∙ ap (λ k. eqb (get_or (0 ∷ ks) k 0) glyph_kind) (label-blank w h m wide i l q)))

  -- each dot has its row and its column
  by_row : (P : ℕ → Type 0) → ((y x : ℕ) → y < h → x < w → P (y * w + x)) → (i : ℕ) → i < w * h → P i
  by_row P f i l =
      let e : i / w * w + i % w ≡ i = div-add-mod' i w in
      let c : w * h ≡ h * w = mul_comm w h in
      subst P e (f (i / w) (i % w) ((div-lt_iff_lt-mul wide).1 (let q : i < h * w = omega arith in q)) (mod-lt i wide))

  glyph-at : (y x : ℕ) → y < h → x < w → glyph_at w plane x y ≡ glyph (y * w + x)
  unfolding glyph_at
  glyph-at y x ly lx = rw (lt-ltb x w lx) (same (y * w + x) (dot-inside w h x y lx ly))

  smoothed-at : (y x : ℕ) → y < h → x < w → is_ink mask (y * w + x) ≡ joined (λ k. glyph_at w plane k y) w gap x
  unfolding smoothed
  smoothed-at y x ly lx =
      is_ink-mask_of w h (λ x y. joined (λ k. glyph_at w plane k y) w gap x) (y * w + x) (dot-inside w h x y lx ly)
      ∙ (λ i. joined (λ k. glyph_at w plane k (dot-row w x y lx i)) w gap (dot-column w x y lx i))

  pub smoothed-on : (i : ℕ) → i < w * h → glyph i ≡ true → is_ink mask i ≡ true
  smoothed-on = by_row (λ i. glyph i ≡ true → is_ink mask i ≡ true) (λ y x ly lx e. smoothed-at y x ly lx ∙ joined-on (λ k. glyph_at w plane k y) w gap x (glyph-at y x ly lx ∙ e))

  -- no glyph dot from the row's start up to this one
  smoothed-before : (y x : ℕ) → y < h → x < w → ((k : ℕ) → k ≤ x → glyph (y * w + k) ≡ false) → is_ink mask (y * w + x) ≡ false
  smoothed-before y x ly lx off = smoothed-at y x ly lx ∙ joined-before (λ k. glyph_at w plane k y) w gap x (λ k l. glyph-at y k ly (omega arith) ∙ off k l)

  -- none from this one up to the row's end
  smoothed-after : (y x : ℕ) → y < h → x < w → ((k : ℕ) → x ≤ k → k < w → glyph (y * w + k) ≡ false) → is_ink mask (y * w + x) ≡ false
  smoothed-after y x ly lx off = smoothed-at y x ly lx ∙ joined-after (λ k. glyph_at w plane k y) w gap x lx (λ k a b. glyph-at y k ly b ∙ off k a b)

  -- between two glyph dots of a row
  smoothed-between : (y a b : ℕ) → y < h → b < w → glyph (y * w + a) ≡ true → glyph (y * w + b) ≡ true → ((k : ℕ) → a < k → k < b → glyph (y * w + k) ≡ false)
      → (x : ℕ) → a < x → x < b → is_ink mask (y * w + x) ≡ leb (b - suc a) gap
  smoothed-between y a b ly lb ea eb off x la lx =
      smoothed-at y x ly (omega arith)
      ∙ joined-between (λ k. glyph_at w plane k y) w gap a b lb (glyph-at y a ly (omega arith) ∙ ea) (glyph-at y b ly lb ∙ eb) (λ k c d. glyph-at y k ly (omega arith) ∙ off k c d) x la lx

  -- from the end n of the last glyph run up to the dot s of row y no dot is one of a glyph
  module _ (n s y : ℕ) (quiet : (i : ℕ) → n ≤ i → i < s → glyph i ≡ false) where
    -- and that end lies in a row before: nothing is smoothed there
    pub gap-fresh : y < h → n ≤ y * w → y * w ≤ s → s < y * w + w → (i : ℕ) → n ≤ i → i < s → is_ink mask i ≡ false
    gap-fresh ly ln ls lw i a b = by_row (λ i. n ≤ i → i < s → is_ink mask i ≡ false) (λ z x lz lx c d. go z x lz lx c d (dec_lt z y)) i (let q = dot-inside w h (w - 1) y (omega arith) ly in omega arith) a b
      where
        go : (z x : ℕ) → z < h → x < w → n ≤ z * w + x → z * w + x < s → Dec (z < y) → is_ink mask (z * w + x) ≡ false
        go z x lz lx c d (yes lt) = let r = rows-rise w z y lt in smoothed-after z x lz lx (λ k u v. quiet (z * w + k) (omega arith) (omega arith))
        go z x lz lx c d (no ge) = smoothed-before z x lz lx (λ k u. quiet (z * w + k) (let r : n ≤ z * w = low (ℕ_discrete z y) in omega arith) (omega arith))
          where
            low : Dec (z ≡ y) → n ≤ z * w
            low (yes e) = subst (λ t. n ≤ t * w) (sym e) ln
            low (no ne) = let r = rows-rise w y z (omega arith) in omega arith

    -- and that end lies in row y, with a glyph dot at s: the gap is closed, or not
    pub gap_row : y < h → y * w < n → n ≤ s → s < y * w + w → glyph (n - 1) ≡ true → glyph s ≡ true → (i : ℕ) → n ≤ i → i < s → is_ink mask i ≡ leb (s - n) gap
    gap_row ly ln le lw en es i a b =
        let b₀ = y * w in
        let x : b₀ + (i - b₀) ≡ i = omega arith in
        let x₁ : b₀ + (n - 1 - b₀) ≡ n - 1 = omega arith in
        let x₂ : b₀ + (s - b₀) ≡ s = omega arith in
        let d : s - b₀ - suc (n - 1 - b₀) ≡ s - n = omega arith in
        sym (ap (is_ink mask) x)
        ∙ (smoothed-between y (n - 1 - b₀) (s - b₀) ly (omega arith) (ap glyph x₁ ∙ en) (ap glyph x₂ ∙ es) (λ k u v. quiet (b₀ + k) (omega arith) (omega arith)) (i - b₀) (omega arith) (omega arith)
        ∙ ap (λ z. leb z gap) d)

  -- from n on no dot of the mask is one of a glyph
  pub tail-blank : (n : ℕ) → ((i : ℕ) → n ≤ i → i < w * h → glyph i ≡ false) → (i : ℕ) → n ≤ i → i < w * h → is_ink mask i ≡ false
  tail-blank n quiet i a b = by_row (λ i. n ≤ i → is_ink mask i ≡ false) (λ z x lz lx c. smoothed-after z x lz lx (λ k u v. quiet (z * w + k) (omega arith) (dot-inside w h k z v lz))) i b a

-- Glyphs of a sorted plane: their kind, their dots, how many runs they have, and the first dot of each.
use mathlib.Core.Path.{◌≡◌, refl, sym, ap, ◌∙◌, subst}
use mathlib.Core.Bool.{Bool, true, false, cond, ◌&&◌, ◌||◌, not, true≢false}
use mathlib.Core.List.{List, [], ◌∷◌}
use Prim.Native.Nat.{ℕ, zero, suc, ◌+◌, ◌*◌, ◌/◌, ◌≤◌, ◌<◌}
use native.Mathlib.Nat.{mul_comm, mul_left_comm, mul-le-mul_left, not-suc-le-zero}
use native.Mathlib.Decide.{ℕ_discrete}
use native.Mathlib.Omega.{arith}
use borrow.Author.Tests.{eq-eqb, ne_eqb, eqb-true}
use lib.ListN.{get_or, length, length-map}
use lib.Dec.{T, eqb, ltb, ltb→lt, lt→ltb}
use lib.Ieee.{Float, nan, inf, fin, binary64, up, down, mul, of_bits, of_int, lt, le}
use lib.Ieee.Bits.{is_true}
use lib.Ieee.Scale.{finite}
use lib.Ieee.Positive.{positive, first_pos, mul_mono}
use Rattle.memory.specs.rules.Lists.{index_from}
use Rattle.memory.specs.rules.Limits.{max_mask_dots}
use Rattle.memory.proofs.CountLaws.{count_none}
use Rattle.memory.proofs.TableLaws.{length-table, get_or-table}
use Rattle.memory.specs.rules.Rects.{width, height}
use Rattle.labelling.specs.rules.Components.{no_dots, box_of}
use Rattle.memory.specs.rules.Masks.{is_ink}
use Rattle.labelling.specs.rules.Labels.{labelling}
use Rattle.labelling.specs.stages.InkRuns.{turns, run_count, run_of, start_of}
use Rattle.labelling.specs.stages.Sizes.{HoldsRuns, HoldsNumbers}
use Rattle.labelling.specs.declared.component.Component.{Component}
use Rattle.memory.proofs.PlaceLaws.{count_low}
use Rattle.labelling.proofs.Theorems.{label-blank, label-occurs}
use Rattle.labelling.proofs.SizeLaws.{held-runs, held-few, held-dots, held_start, held-end, run-label, component-boxed}
use Rattle.params.specs.rules.Valid as sheet
use Rattle.params.specs.rules.Facts.{ValidSheet}
use Rattle.params.specs.declared.LayoutParams.{LayoutParams}
use Rattle.rounding.specs.rules.Lengths.{float, ◌·◌}
use Rattle.rulings.specs.rules.Rulings.{run_min, thick_max, cut_horizontal, cut_vertical, after_cut}
use Rattle.sorting.specs.rules.Units.{side_extent, unit_of, unit_value}
use Rattle.sorting.specs.rules.Kinds.{cut_kind, glyph_kind, is_rule, is_graphic, kind_of, kind_at}
use Rattle.sorting.specs.rules.Sorted.{sorted}
use Rattle.sorting.specs.stages.Scratch.{ink_after_cut}
use Rattle.rulings.proofs.RulingMasks.{after_cut-ink}
use Rattle.smoothing.specs.rules.Lines.{first_dot}
use Rattle.smoothing.specs.stages.RowRuns.{glyph_dot, glyph_run, glyph_runs, GlyphPlane}
use Rattle.memory.proofs.ListLaws.{get_or-mapped}
use Rattle.smoothing.proofs.RunNumberLaws.{number-some, number-high}

-- A frame one dot wide

positive_of : (v : Float) → T (lt sheet.float_zero v) → T (finite v) → T (positive v)
unfolding lt of_bits
positive_of nan t f = absurd f
positive_of (inf s) t f = absurd f
positive_of (fin true m e) t f = absurd t
positive_of (fin false m e) t f = lt→ltb 0 m (first_pos m (up e) (let a : 0 * down e < m * up e * 1 = ltb→lt (0 * down e) (m * up e * 1) t in omega arith))

one-positive : T (positive sheet.float_one)
unfolding of_bits
one-positive = tt

float-positive : T (positive (float 1))
unfolding of_int
float-positive = tt

float_same : T (le (float 1) (float 1))
unfolding le of_int
float_same = tt

one-times : mul binary64 sheet.float_one (float 1) ≡ float 1
unfolding mul of_bits of_int
one-times = refl

-- its width is not under the extent, which is at most one dot
one-wide : (p : LayoutParams) → ValidSheet p → le (side_extent p 1) (float 1) ≡ true
one-wide p valid =
    is_true (le (side_extent p 1) (float 1))
    (subst (λ (z : Float). T (le (side_extent p 1) z)) one-times
    (mul_mono binary64 p.glyph_max_extent_frac sheet.float_one (float 1) (float 1) (positive_of p.glyph_max_extent_frac valid.extent_above_zero valid.glyph_max_extent.is_finite) one-positive float-positive float-positive
    valid.extent_at_most_one float_same))

-- a component one dot wide is no glyph there
narrow-kind : (p : LayoutParams) → ValidSheet p → (unit : Float) (h : ℕ) (c : Component) → width (box_of c) ≡ 1 → kind_of p unit 1 h c ≡ glyph_kind → ⊥
narrow-kind p valid unit h c e k =
    let a = width (box_of c) in
    let b = height (box_of c) in
    go (is_rule p unit a b || is_rule p unit b a) (le (p.graphic_min_xh · unit) (float a) && le (p.graphic_min_xh · unit) (float b)) (le (side_extent p 1) (float a)) (le (side_extent p h) (float b)) (ltb c.area p.glyph_min_area)
    (ap (λ n. le (side_extent p 1) (float n)) e ∙ one-wide p valid) k
  where
    go : (r q x y s : Bool) → x ≡ true → ◌≡◌ {A = ℕ} (cond r 2 (cond (q || x || y) 3 (cond s 5 4))) 4 → ⊥
    go true q x y s e k = let z : ◌≡◌ {A = ℕ} 2 4 = k in omega arith
    go false true x y s e k = let z : ◌≡◌ {A = ℕ} 3 4 = k in omega arith
    go false false true y s e k = let z : ◌≡◌ {A = ℕ} 3 4 = k in omega arith
    go false false false y s e k = absurd (true≢false (sym e))

-- The dots of glyphs

no_cut : (t : Bool) → (t && not true) ≡ false
no_cut true = refl
no_cut false = refl

-- a cut dot has no label after the cut, so that the plane of kinds has its glyphs where the labels have them
dot-glyph : (w h : ℕ) (a b m ks : List ℕ) → 0 < w → (i : ℕ) → i < w * h
    → eqb (kind_at a b (labelling w h (after_cut w h a b m)).labels ks i) glyph_kind ≡ glyph_dot (labelling w h (after_cut w h a b m)).labels ks i
unfolding kind_at glyph_dot
dot-glyph w h a b m ks wide i l = go (is_ink a i || is_ink b i) refl
  where
    go : (t : Bool) → (is_ink a i || is_ink b i) ≡ t
        → eqb (cond t cut_kind (get_or (0 ∷ ks) (get_or (labelling w h (after_cut w h a b m)).labels i 0) 0)) glyph_kind ≡ eqb (get_or (0 ∷ ks) (get_or (labelling w h (after_cut w h a b m)).labels i 0) 0) glyph_kind
    go false f = refl
    go true f =
        let u : is_ink (after_cut w h a b m) i ≡ false = after_cut-ink w h a b m i wide l ∙ (ap (λ t. is_ink m i && not t) f ∙ no_cut (is_ink m i)) in
        sym (ap (λ n. eqb (get_or (0 ∷ ks) n 0) glyph_kind) (label-blank w h (after_cut w h a b m) i l u))

-- an entry that is there is found, and none before it is it
pub index-found : (d o k : ℕ) (l : List ℕ) (i : ℕ) → i < length l → get_or l i 0 ≡ k
    → (j : ℕ) × (index_from d o k l ≡ o + j) × (j < length l) × (get_or l j 0 ≡ k) × ((a : ℕ) → a < j → get_or l a 0 ≡ k → ⊥)
unfolding index_from
index-found d o k [] i h e = absurd (not-suc-le-zero h)
index-found d o k (x ∷ l) i h e = go (eqb x k) refl i h e (index-found d (suc o) k l)
  where
    later : (j : ℕ) → eqb x k ≡ false → ((a : ℕ) → a < j → get_or l a 0 ≡ k → ⊥) → (a : ℕ) → a < suc j → get_or (x ∷ l) a 0 ≡ k → ⊥
    later j q none zero b f = true≢false (sym (eq-eqb x k f) ∙ q)
    later j q none (suc a) b f = none a (omega arith) f

    go : (t : Bool) → eqb x k ≡ t → (i : ℕ) → i < suc (length l) → get_or (x ∷ l) i 0 ≡ k
        → ((i : ℕ) → i < length l → get_or l i 0 ≡ k → (j : ℕ) × (index_from d (suc o) k l ≡ suc o + j) × (j < length l) × (get_or l j 0 ≡ k) × ((a : ℕ) → a < j → get_or l a 0 ≡ k → ⊥))
        → (j : ℕ) × (cond t o (index_from d (suc o) k l) ≡ o + j) × (j < suc (length l)) × (get_or (x ∷ l) j 0 ≡ k) × ((a : ℕ) → a < j → get_or (x ∷ l) a 0 ≡ k → ⊥)
    go true q i h e ih = (0, (let z : o ≡ o + 0 = omega arith in z), (let z : 0 < suc (length l) = omega arith in z), eqb-true x k q, λ a b f. not-suc-le-zero b)
    go false q zero h e ih = absurd (true≢false (sym (eq-eqb x k e) ∙ q))
    go false q (suc i) h e ih =
        let R = ih i (omega arith) e in
        (suc R.0, R.1 ∙ (let z : suc o + R.0 ≡ o + suc R.0 = omega arith in z), (let y = R.2 in let z : suc R.0 < suc (length l) = omega arith in z), R.3, later R.0 q R.4)

pub labels-long : (w h : ℕ) (m : List ℕ) → length (labelling w h m).labels ≡ w * h
unfolding labelling
labels-long w h m = length-table _ (w * h)

-- the first dot of component k has its label
pub first-dot : (w h : ℕ) (m : List ℕ) (k : ℕ) → k < length (labelling w h m).components
    → (first_dot (labelling w h m).labels (suc k) < w * h) × (get_or (labelling w h m).labels (first_dot (labelling w h m).labels (suc k)) 0 ≡ suc k)
unfolding first_dot
first-dot w h m k l =
    let D = label-occurs w h m k l in
    let n = labels-long w h m in
    let R = index-found 0 0 (suc k) (labelling w h m).labels D.0 (let d = D.1 in omega arith) D.4 in
    let e : R.0 ≡ first_dot (labelling w h m).labels (suc k) = (let z : R.0 ≡ 0 + R.0 = omega arith in z) ∙ sym R.1 in
    (subst (λ j. j < w * h) e (let j = R.2 in omega arith), subst (λ j. get_or (labelling w h m).labels j 0 ≡ suc k) e R.3)

-- the number of the run that has an ink dot is the dot's label
pub dot-number : {w h : ℕ} {m s : List ℕ} {c : ℕ} → 0 < w → HoldsNumbers w h m s c → (i : ℕ) → i < w * h → is_ink m i ≡ true
    → (run_of w m i < c) × (get_or s (2 * c + run_of w m i) 0 ≡ get_or (labelling w h m).labels i 0)
dot-number {w} {h} {m} {s} {c} wide Q i l e =
    let R = held-runs wide Q.held in
    let k = R.has i l e in
    let a = R.from i l e in
    let b = R.upto i l e in
    let x = held_start wide Q.held (run_of w m i) k in
    let y = held-end wide Q.held (run_of w m i) k in
    (k, sym (run-label wide Q (run_of w m i) i k (omega arith) (omega arith)))

-- A sorted plane

kind-low : (p : LayoutParams) (unit : Float) (w h : ℕ) (c : Component) → kind_of p unit w h c < 8
kind-low p unit w h c =
    let a = width (box_of c) in
    let b = height (box_of c) in
    go (is_rule p unit a b || is_rule p unit b a) (is_graphic p unit w h a b) (ltb c.area p.glyph_min_area)
  where
    go : (r q s : Bool) → cond r 2 (cond q 3 (cond s 5 4)) < 8
    go true q s = omega arith
    go false true s = omega arith
    go false false true = omega arith
    go false false false = omega arith

module _ (p : LayoutParams) (w h : ℕ) (m : List ℕ) where
  pub rest-is : (sorted p w h m).rest ≡ labelling w h (ink_after_cut p w h m)
  unfolding sorted ink_after_cut
  rest-is = refl

  pub kinds-size : length (sorted p w h m).kinds ≡ length (sorted p w h m).rest.components
  unfolding sorted
  kinds-size = length-map (sorted p w h m).rest.components (kind_of p (unit_value (sorted p w h m).unit) w h)

  kind-is : (k : ℕ) → k < length (sorted p w h m).rest.components → get_or (sorted p w h m).kinds k 0 ≡ kind_of p (unit_value (sorted p w h m).unit) w h (get_or (sorted p w h m).rest.components k no_dots)
  unfolding sorted
  kind-is k l = get_or-mapped (kind_of p (unit_value (sorted p w h m).unit) w h) (sorted p w h m).rest.components k 0 no_dots l

  pub kind-known : (k : ℕ) → k < length (sorted p w h m).rest.components → get_or (sorted p w h m).kinds k 0 < 8
  kind-known k l = subst (λ n. n < 8) (sym (kind-is k l)) (kind-low p (unit_value (sorted p w h m).unit) w h (get_or (sorted p w h m).rest.components k no_dots))

  first : Float
  first = unit_value (unit_of p w h (labelling w h m).components)

  a : List ℕ
  a = cut_horizontal (run_min p first) (thick_max p first) w h m

  b : List ℕ
  b = cut_vertical (run_min p first) (thick_max p first) w h m

  pub glyph-plane : 0 < w → GlyphPlane w h (ink_after_cut p w h m) (sorted p w h m).kinds (sorted p w h m).plane
  unfolding sorted ink_after_cut first a b
  glyph-plane wide i l =
      ap (λ n. eqb n glyph_kind) (get_or-table (kind_at a b (labelling w h (after_cut w h a b m)).labels (sorted p w h m).kinds) (w * h) i 0 l) ∙ dot-glyph w h a b m (sorted p w h m).kinds wide i l

  module _ (valid : ValidSheet p) (wide : 0 < w) (dots : w * h ≤ max_mask_dots) where
    no-glyph : w ≡ 1 → (k : ℕ) → k < length (labelling w h (ink_after_cut p w h m)).components → get_or (sorted p w h m).kinds k 0 ≡ glyph_kind → ⊥
    no-glyph one k l e =
        let n : length (sorted p w h m).rest.components ≡ length (labelling w h (ink_after_cut p w h m)).components = ap (λ z. length z.components) rest-is in
        let B = component-boxed w h (ink_after_cut p w h m) wide dots k l in
        let same : get_or (sorted p w h m).rest.components k no_dots ≡ get_or (labelling w h (ink_after_cut p w h m)).components k no_dots = ap (λ z. get_or z.components k no_dots) rest-is in
        let c = get_or (labelling w h (ink_after_cut p w h m)).components k no_dots in
        narrow-kind p valid (unit_value (sorted p w h m).unit) h c (let x = B.wide in let y = B.right in omega arith)
        (sym (kind-is k (omega arith) ∙ (λ i. kind_of p (unit_value (sorted p w h m).unit) (one i) h (same i))) ∙ e)

    no_run : w ≡ 1 → (k : ℕ) → k < run_count w (ink_after_cut p w h m) (w * h) → glyph_run w h (ink_after_cut p w h m) (sorted p w h m).kinds k ≡ false
    unfolding glyph_dot
    no_run one k l =
        go (get_or (labelling w h (ink_after_cut p w h m)).labels (start_of (turns w (ink_after_cut p w h m) (w * h)) k) 0) (number-some w h (ink_after_cut p w h m) wide k l) (number-high w h (ink_after_cut p w h m) wide k l)
      where
        go : (n : ℕ) → 0 < n → n ≤ length (labelling w h (ink_after_cut p w h m)).components → eqb (get_or (0 ∷ (sorted p w h m).kinds) n 0) glyph_kind ≡ false
        go zero x y = absurd (not-suc-le-zero x)
        go (suc n) x y = ne_eqb (get_or (sorted p w h m).kinds n 0) glyph_kind (no-glyph one n y)

    -- runs and numbers, and behind them as many words for each glyph run, take no more than four words a dot
    pub runs_fit : {s : List ℕ} {c : ℕ} → HoldsRuns w h (ink_after_cut p w h m) s c → 3 * c + 3 * glyph_runs w h (ink_after_cut p w h m) (sorted p w h m).kinds ≤ 4 * (w * h)
    runs_fit {s} {c} H = go (ℕ_discrete w 1)
      where
        go : Dec (w ≡ 1) → 3 * c + 3 * glyph_runs w h (ink_after_cut p w h m) (sorted p w h m).kinds ≤ 4 * (w * h)
        go (yes one) =
            let z : glyph_runs w h (ink_after_cut p w h m) (sorted p w h m).kinds ≡ 0 = count_none (glyph_run w h (ink_after_cut p w h m) (sorted p w h m).kinds) (run_count w (ink_after_cut p w h m) (w * h)) (no_run one) in
            let d = held-dots wide H in
            omega arith
        go (no ne) =
            let q : 3 * ((w + 1) / 2) ≤ 2 * w = omega arith in
            let x : h * (3 * ((w + 1) / 2)) ≤ h * (2 * w) = mul-le-mul_left h q in
            let x₁ : h * (3 * ((w + 1) / 2)) ≡ 3 * (h * ((w + 1) / 2)) = mul_left_comm h 3 ((w + 1) / 2) in
            let x₂ : h * (2 * w) ≡ 2 * (h * w) = mul_left_comm h 2 w in
            let x₃ = mul_comm h w in
            let f = held-few wide H in
            let n = H.count in
            let g = count_low (glyph_run w h (ink_after_cut p w h m) (sorted p w h m).kinds) (run_count w (ink_after_cut p w h m) (w * h)) in
            omega arith

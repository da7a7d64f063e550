-- What holds of every page, over the definitions alone: smoothing and lines.
use mathlib.Core.Path.{◌≡◌, refl, sym, ap, ◌∙◌, subst}
use mathlib.Core.Bool.{Bool, true, false, cond, ◌&&◌}
use mathlib.Core.List.{List, ◌∷◌, map}
use Prim.Native.Nat.{ℕ, suc, ◌+◌, ◌-◌, ◌*◌, ◌≤◌, ◌<◌}
use native.Mathlib.Decide.{dec_lt}
use native.Mathlib.Omega.{arith}
use borrow.Author.Tests.{leb-true, eq-eqb}
use lib.Ieee.{Float, le}
use lib.ListN.{get_or, length}
use lib.Dec.{eqb, leb}
use Rattle.memory.specs.rules.Lists.{table, keep, occurs, index_from}
use Rattle.memory.proofs.BoolLaws.{and_left, and_right}
use Rattle.memory.specs.rules.Rects.{height}
use Rattle.memory.specs.rules.Masks.{is_ink}
use Rattle.labelling.specs.rules.Components.{no_dots}
use Rattle.labelling.specs.rules.Labels.{Labelling, labelling}
use Rattle.labelling.proofs.Theorems as components
use Rattle.labelling.proofs.Theorems.{label, label-blank, label-within, labels-are-of-chains}
use Rattle.labelling.specs.declared.component.Component.{Component}
use Rattle.params.specs.declared.LayoutParams.{LayoutParams}
use Rattle.rounding.specs.rules.Lengths.{float, ◌·◌}
use Rattle.sorting.specs.rules.Kinds.{glyph_kind}
use Rattle.sorting.specs.rules.Sorted.{sorted}
use Rattle.sorting.specs.stages.Scratch.{ink_after_cut}
use Rattle.smoothing.specs.rules.Smoothing.{glyph_at, joined, smoothed}
use Rattle.smoothing.specs.rules.Lines.{first_dot, LabelledGlyph, SmoothedLine, smoothed_line, is_line, keys_at_most, line_keys, kept_lines}
use Rattle.smoothing.specs.stages.RowRuns.{glyph_dot}
use Rattle.memory.proofs.ListLaws.{each_at, each_keep, each-sort}
use Rattle.extents.proofs.MaskLaws.{mask_at}
use Rattle.smoothing.proofs.JoinLaws.{joined-on, joined-between, joined-before, joined-after}
use Rattle.smoothing.proofs.SortedGlyphs.{index-found, labels-long, rest-is, glyph-plane}
use Rattle.smoothing.proofs.GlyphChains.{same-smoothed}
use Rattle.smoothing.proofs.KeptLines.{labels-once, line-of-smear, keys-at-most, keys-apart}
use Rattle.smoothing.proofs.OrderLaws.{lines-by-top}

-- Smoothing

module _ (gap w h : ℕ) (plane : List ℕ) (x y : ℕ) (in_row : x < w) (in-plane : y < h) where
  -- every glyph dot is in the smoothed mask
  pub glyph-dot-smoothed : glyph_at w plane x y ≡ true → get_or (smoothed gap w h plane) (y * w + x) 0 ≡ 1
  unfolding smoothed
  glyph-dot-smoothed e =
      mask_at w h (λ a b. joined (λ k. glyph_at w plane k b) w gap a) x y in_row in-plane ∙ ap (λ t. cond t 1 0) (joined-on (λ k. glyph_at w plane k y) w gap x e)

  -- nothing before the first glyph dot of a row is filled
  pub row-start-stays : ((k : ℕ) → k ≤ x → glyph_at w plane k y ≡ false) → get_or (smoothed gap w h plane) (y * w + x) 0 ≡ 0
  unfolding smoothed
  row-start-stays e =
      mask_at w h (λ a b. joined (λ k. glyph_at w plane k b) w gap a) x y in_row in-plane ∙ ap (λ t. cond t 1 0) (joined-before (λ k. glyph_at w plane k y) w gap x e)

  -- nor after the last
  pub row-end-stays : ((k : ℕ) → x ≤ k → k < w → glyph_at w plane k y ≡ false) → get_or (smoothed gap w h plane) (y * w + x) 0 ≡ 0
  unfolding smoothed
  row-end-stays e =
      mask_at w h (λ a b. joined (λ k. glyph_at w plane k b) w gap a) x y in_row in-plane ∙ ap (λ t. cond t 1 0) (joined-after (λ k. glyph_at w plane k y) w gap x in_row e)

-- two glyph dots of a row with none between are joined just when the dots between are at most the gap
pub glyph-dots-joined : (gap w h : ℕ) (plane : List ℕ) (y a b x : ℕ) → y < h → b < w → glyph_at w plane a y ≡ true → glyph_at w plane b y ≡ true
    → ((k : ℕ) → a < k → k < b → glyph_at w plane k y ≡ false) → a < x → x < b → get_or (smoothed gap w h plane) (y * w + x) 0 ≡ cond (leb (b - suc a) gap) 1 0
unfolding smoothed
glyph-dots-joined gap w h plane y a b x in-plane in_row left right none after before =
    mask_at w h (λ c d. joined (λ k. glyph_at w plane k d) w gap c) x y (omega arith) in-plane
    ∙ ap (λ t. cond t 1 0) (joined-between (λ k. glyph_at w plane k y) w gap a b in_row left right none x after before)

-- First dots

-- the first dot with the label k is the least that has it
pub record LeastDot (labels : List ℕ) (k : ℕ) : Type 0 where
  pub inside : first_dot labels k < length labels
  pub labelled : get_or labels (first_dot labels k) 0 ≡ k
  pub none_before : (i : ℕ) → i < first_dot labels k → get_or labels i 0 ≡ k → ⊥

-- wherever some dot has it
pub first-dot-least : (labels : List ℕ) (k i : ℕ) → i < length labels → get_or labels i 0 ≡ k → LeastDot labels k
unfolding first_dot
first-dot-least labels k i h e =
    let (j, at, inside, labelled, none) = index-found 0 0 k labels i h e in
    let z : j ≡ index_from 0 0 k labels = sym (at ∙ (let y : 0 + j ≡ j = omega arith in y)) in
    record {
      inside = subst (λ n. n < length labels) z inside;
      labelled = subst (λ n. get_or labels n 0 ≡ k) z labelled;
      none_before = subst (λ n. (a : ℕ) → a < n → get_or labels a 0 ≡ k → ⊥) z none;
    }

-- in a labelling it is the first dot of the component
pub first-dot-of-component : (w h : ℕ) (m : List ℕ) (i : ℕ) → i < w * h → is_ink m i ≡ true → first_dot (labelling w h m).labels (label w h m i) ≡ components.first_dot w h m i
first-dot-of-component w h m i l e =
    let long = labels-long w h m in
    let chains = labels-are-of-chains w h m in
    let least = first-dot-least (labelling w h m).labels (label w h m i) i (omega arith) refl in
    let some = (label-within w h m i l e).0 in
    let f : ℕ = first_dot (labelling w h m).labels (label w h m i) in
    let inside : f < w * h = (let a = least.inside in omega arith) in
    let after = chains.least i f l inside e (inked f inside (let a = least.labelled in omega arith)) (sym least.labelled) in
    go (dec_lt (components.first_dot w h m i) f) after least.none_before (chains.own i l e).1
  where
    inked : (d : ℕ) → d < w * h → 0 < label w h m d → is_ink m d ≡ true
    inked d inside some = by (is_ink m d) refl
      where
        by : (t : Bool) → is_ink m d ≡ t → t ≡ true
        by true q = refl
        by false q = absurd (let z = label-blank w h m d inside q in omega arith)

    go : {f g : ℕ} → Dec (g < f) → g ≤ f → ((a : ℕ) → a < f → label w h m a ≡ label w h m i → ⊥) → label w h m g ≡ label w h m i → f ≡ g
    go {f} {g} (yes before) after none own = absurd (none g before own)
    go (no before) after none own = omega arith

-- Lines

-- what a line has: at least its glyphs, and a height within the two bounds
pub record Line (p : LayoutParams) (unit : Float) (l : SmoothedLine) : Type 0 where
  pub glyphs : p.line_min_glyphs ≤ l.glyphs
  pub low : le (p.line_min_height_xh · unit) (float (height l.bbox)) ≡ true
  pub high : le (float (height l.bbox)) (p.line_max_height_xh · unit) ≡ true

line : (p : LayoutParams) (unit : Float) (l : SmoothedLine) → is_line p unit l.glyphs (height l.bbox) ≡ true → Line p unit l
unfolding is_line
line p unit l e =
    let few : Bool = leb p.line_min_glyphs l.glyphs in
    let low : Bool = le (p.line_min_height_xh · unit) (float (height l.bbox)) in
    let high : Bool = le (float (height l.bbox)) (p.line_max_height_xh · unit) in
    let both : (few && low) ≡ true = and_left (few && low) high e in
    record {
      glyphs = leb-true p.line_min_glyphs l.glyphs (and_left few low both);
      low = and_right few low both;
      high = and_right (few && low) high e;
    }

-- each line holds at least `line_min_glyphs` glyphs, and its height lies within the bounds
pub each_line : (p : LayoutParams) (unit : Float) (gs : List LabelledGlyph) (smears : List Component) (i : ℕ) (d : SmoothedLine)
    → i < length (kept_lines p unit gs smears) → Line p unit (get_or (kept_lines p unit gs smears) i d)
unfolding kept_lines
each_line p unit gs smears i d h =
    each_at (Line p unit) (kept_lines p unit gs smears)
    (each-sort (Line p unit) (λ (a b : SmoothedLine). keys_at_most (line_keys a) (line_keys b))
    (keep (λ (l : SmoothedLine). is_line p unit l.glyphs (height l.bbox)) (table (λ t. smoothed_line gs (get_or smears t no_dots) (suc t)) (length smears)))
    (each_keep (Line p unit) (λ (l : SmoothedLine). is_line p unit l.glyphs (height l.bbox)) (line p unit) (table (λ t. smoothed_line gs (get_or smears t no_dots) (suc t)) (length smears))))
    i d h

-- lines go by y0: none starts above the one before it
pub lines-go-by-top : (p : LayoutParams) (unit : Float) (gs : List LabelledGlyph) (smears : List Component) (i j : ℕ) (d : SmoothedLine)
    → i < j → j < length (kept_lines p unit gs smears) → (get_or (kept_lines p unit gs smears) i d).bbox.y0 ≤ (get_or (kept_lines p unit gs smears) j d).bbox.y0
unfolding kept_lines
lines-go-by-top p unit gs smears = lines-by-top (keep (λ (l : SmoothedLine). is_line p unit l.glyphs (height l.bbox)) (table (λ t. smoothed_line gs (get_or smears t no_dots) (suc t)) (length smears)))

module _ (p : LayoutParams) (unit : Float) (gs : List LabelledGlyph) (smears : List Component) where
  -- the lines are the smoothed components that pass the test, each once
  pub each-line-once : (t : ℕ) → t < length smears
      → occurs (suc t) (map (λ (l : SmoothedLine). l.label) (kept_lines p unit gs smears)) ≡ cond (is_line p unit (smoothed_line gs (get_or smears t no_dots) (suc t)).glyphs (height (smoothed_line gs (get_or smears t no_dots) (suc t)).bbox)) 1 0
  each-line-once = labels-once p unit gs smears

  -- and nothing else is a line
  pub each-line-smoothed : (i : ℕ) (d : SmoothedLine) → i < length (kept_lines p unit gs smears)
      → (t : ℕ) × (t < length smears) × (get_or (kept_lines p unit gs smears) i d ≡ smoothed_line gs (get_or smears t no_dots) (suc t))
  each-line-smoothed = line-of-smear p unit gs smears

  -- lines go by y0, x0, y1, x1, then label: no two have the same keys
  pub lines-go-by-keys : (i j : ℕ) (d : SmoothedLine) → i < j → j < length (kept_lines p unit gs smears)
      → (keys_at_most (line_keys (get_or (kept_lines p unit gs smears) i d)) (line_keys (get_or (kept_lines p unit gs smears) j d)) ≡ true)
      × (line_keys (get_or (kept_lines p unit gs smears) i d) ≡ line_keys (get_or (kept_lines p unit gs smears) j d) → ⊥)
  lines-go-by-keys i j d h k = (keys-at-most p unit gs smears i j d h k, keys-apart p unit gs smears i j d h k)

-- Glyphs in smoothed components

-- all dots of a glyph, the component with the label k + 1, lie in one smoothed component
pub glyph-in-one-smoothed : (p : LayoutParams) (w h : ℕ) (m : List ℕ) (gap k i j : ℕ) → 0 < w → i < w * h → j < w * h → get_or (sorted p w h m).kinds k 0 ≡ glyph_kind
    → get_or (sorted p w h m).rest.labels i 0 ≡ suc k → get_or (sorted p w h m).rest.labels j 0 ≡ suc k
    → (0 < get_or (labelling w h (smoothed gap w h (sorted p w h m).plane)).labels i 0)
    × (get_or (labelling w h (smoothed gap w h (sorted p w h m).plane)).labels i 0 ≡ get_or (labelling w h (smoothed gap w h (sorted p w h m).plane)).labels j 0)
unfolding glyph_dot
glyph-in-one-smoothed p w h m gap k i j wide li lj kind ei ej =
    let rest : (d : ℕ) → label w h (ink_after_cut p w h m) d ≡ get_or (sorted p w h m).rest.labels d 0 = λ d. ap (λ (l : Labelling). get_or l.labels d 0) (sym (rest-is p w h m)) in
    same-smoothed w h (ink_after_cut p w h m) (sorted p w h m).kinds (sorted p w h m).plane gap wide (glyph-plane p w h m wide) i j li lj
    (ap (λ n. eqb (get_or (0 ∷ (sorted p w h m).kinds) n 0) glyph_kind) (rest i ∙ ei) ∙ eq-eqb (get_or (sorted p w h m).kinds k 0) glyph_kind kind)
    (rest i ∙ (ei ∙ (sym ej ∙ sym (rest j))))

-- so the smoothed component of a glyph, that of its first dot, is that of each of its dots
pub each-dot-smoothed-as-first : (p : LayoutParams) (w h : ℕ) (m : List ℕ) (gap k i : ℕ) → 0 < w → i < w * h → get_or (sorted p w h m).kinds k 0 ≡ glyph_kind
    → get_or (sorted p w h m).rest.labels i 0 ≡ suc k
    → get_or (labelling w h (smoothed gap w h (sorted p w h m).plane)).labels i 0 ≡ get_or (labelling w h (smoothed gap w h (sorted p w h m).plane)).labels (first_dot (sorted p w h m).rest.labels (suc k)) 0
each-dot-smoothed-as-first p w h m gap k i wide li kind e =
    let long : length (sorted p w h m).rest.labels ≡ w * h = ap (λ (l : Labelling). length l.labels) (rest-is p w h m) ∙ labels-long w h (ink_after_cut p w h m) in
    let first = first-dot-least (sorted p w h m).rest.labels (suc k) i (omega arith) e in
    (glyph-in-one-smoothed p w h m gap k i (first_dot (sorted p w h m).rest.labels (suc k)) wide li (let inside = first.inside in omega arith) kind e first.labelled).1

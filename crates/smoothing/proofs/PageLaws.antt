-- From the sorted ink to the labelled and counted glyphs, stage by stage: what each call asks, and what it leaves.
use mathlib.Core.Path.{◌≡◌, sym, ap, ◌∙◌, subst}
use mathlib.Core.Bool.{Bool, true, false, cond}
use mathlib.Core.List.{List, ◌∷◌, ◌++◌}
use Prim.Native.Nat.{ℕ, suc, ◌+◌, ◌-◌, ◌*◌, ◌≤◌, ◌<◌}
use native.Mathlib.Omega.{arith}
use borrow.Author.Tests.{eq-eqb, eqb-true}
use borrow.Rule.Slice.PartMut.{put_mid}
use lib.Ieee.{Float}
use lib.ListN.{get_or, length, take, drop, length-append, length-drop, get_or-append}
use lib.Seq.{length-take-le, get_or-take, get_or-drop, get_or-append-add, drop_at, drop-drop}
use lib.Dec.{eqb}
use Rattle.memory.specs.rules.Lists.{count_if, occurs, greatest}
use Rattle.memory.specs.rules.Limits.{max_lines}
use Rattle.memory.proofs.PartLaws.{tail-part, tail-put}
use Rattle.labelling.specs.rules.Labels.{Labelling, labelling}
use Rattle.memory.specs.rules.Masks.{is_ink}
use Rattle.labelling.specs.stages.InkRuns.{run_of}
use Rattle.labelling.specs.stages.Sizes.{HoldsSizes, SizesRoom, SizesLeft}
use Rattle.memory.specs.declared.rect.Rect.{Rect}
use Rattle.labelling.proofs.SizeLaws.{component-boxed}
use Rattle.labelling.proofs.Theorems.{label-within}
use Rattle.params.specs.declared.LayoutParams.{LayoutParams}
use Rattle.rounding.specs.rules.Lengths.{◌·◌, dots}
use Rattle.sorting.specs.rules.Units.{unit_value}
use Rattle.sorting.specs.rules.Kinds.{glyph_kind}
use Rattle.sorting.specs.rules.Sorted.{sorted, Sorted}
use Rattle.sorting.specs.declared.plan.Plan.{Plan}
use Rattle.sorting.specs.stages.Scratch.{horizontal_at, vertical_at, sizes_at, kinds_at, smears_at, glyphs_at, ink_after_cut, Planned}
use Rattle.sorting.specs.stages.SortSteps.{FrameRoom}
use Rattle.sorting.proofs.PlanLaws.{frame-of, plan-dots}
use Rattle.sorting.proofs.SortLaws.{kept_from, part-kept}
use Rattle.sorting.specs.stages.Measures.{size_box}
use Rattle.sorting.proofs.SizedLaws.{size-box}
use Rattle.smoothing.specs.rules.Smoothing.{smoothing_gap, smoothed}
use Rattle.smoothing.specs.rules.Lines.{first_dot, LabelledGlyph, kept_lines}
use Rattle.smoothing.specs.stages.RowRuns.{glyph_dot, glyph_runs, SmoothRoom, SmoothLeft}
use Rattle.memory.specs.stages.Stored.{Stored}
use Rattle.smoothing.specs.stages.LineWords.{kind_word, first_number, LabelRoom, label_at, labels_at, CountRoom, smear_is_line, SmearRoom, HoldsGlyphs, HoldsSmears}
use Rattle.smoothing.specs.stages.Segments.{smears_of, glyphs_in, lines_in, glyph_label, HoldsPage, SortedPage, GlyphNumbered, SmearsLabelled, SmearsHeld}
use Rattle.smoothing.specs.declared.smears.SmearLabels.{SmearLabels}
use Rattle.smoothing.proofs.SmoothedDots.{smoothed-on}
use Rattle.smoothing.proofs.LineLaws.{held_kept, glyphs-held, labelled-glyphs, label_of, lines-count}
use Rattle.smoothing.proofs.LineRooms.{smears-held}
use Rattle.smoothing.proofs.SortedGlyphs.{rest-is, kinds-size, kind-known, glyph-plane, runs_fit, first-dot, dot-number}

-- the mask of the smoothed glyphs
abbrev pub smear_mask : LayoutParams → ℕ → ℕ → List ℕ → List ℕ
smear_mask p w h m = smoothed (smoothing_gap p (unit_value (sorted p w h m).unit)) w h (sorted p w h m).plane

module _ {p : LayoutParams} {w h : ℕ} {m : List ℕ} {P : ℕ} {s : List ℕ} {unit : Float} {runs : ℕ} (S : SortedPage p w h m P s unit runs) where
  frame : FrameRoom w h m P s
  frame = frame-of S.room

  pub page-dots : w * h ≤ 402595842
  page-dots = plan-dots frame

  -- no labelling of the sorted plane has too many components
  pub page-few : (length (sorted p w h m).horizontal.components ≤ P) × (length (sorted p w h m).vertical.components ≤ P) × (length (sorted p w h m).rest.components ≤ P)
  unfolding greatest
  page-few = let f = S.few in (omega arith, omega arith, omega arith)

  page-fit : 3 * runs + 3 * glyph_runs w h (ink_after_cut p w h m) (sorted p w h m).kinds ≤ 4 * (w * h)
  page-fit = runs_fit p w h m S.room.valid S.room.wide (let d = page-dots in omega arith) S.held.numbered.held

  -- Smoothing

  pub smooth-ask : SmoothRoom w h (ink_after_cut p w h m) (sorted p w h m).kinds (sorted p w h m).plane s runs (kinds_at (w * h) P) (glyphs_at (w * h) P)
  smooth-ask =
      let q = S.room.room in
      let n = kinds-size p w h m in
      let f = page-few.2 in
      let b = page-fit in
      record {
        wide = S.room.wide;
        narrow = S.room.narrow;
        low = S.room.low;
        numbered = S.held.numbered;
        size = n ∙ ap (λ (l : Labelling). length l.components) (rest-is p w h m);
        kinds_held = ap (λ k. take k (drop (kinds_at (w * h) P) s)) n ∙ S.held.kinds;
        plane_is = glyph-plane p w h m S.room.wide;
        before = omega arith;
        between = omega arith;
        room = omega arith;
      }

  -- what smoothing leaves, by the gap of the plane's unit
  pub smooth-left : {s₁ : List ℕ} {gap c : ℕ} → gap ≡ dots (p.smear_xh · unit)
      → SmoothLeft w h (ink_after_cut p w h m) (sorted p w h m).kinds (sorted p w h m).plane s s₁ runs (kinds_at (w * h) P) (glyphs_at (w * h) P) gap c
      → SmoothLeft w h (ink_after_cut p w h m) (sorted p w h m).kinds (sorted p w h m).plane s s₁ runs (kinds_at (w * h) P) (glyphs_at (w * h) P) (smoothing_gap p (unit_value (sorted p w h m).unit)) c
  unfolding smoothing_gap
  smooth-left {s₁} {gap} {c} e L =
      subst (λ z. SmoothLeft w h (ink_after_cut p w h m) (sorted p w h m).kinds (sorted p w h m).plane s s₁ runs (kinds_at (w * h) P) (glyphs_at (w * h) P) z c) (e ∙ ap (smoothing_gap p) S.unit_is) L

  -- Smoothed runs labelled

  module _ {s₁ : List ℕ} {c : ℕ} (L : SmoothLeft w h (ink_after_cut p w h m) (sorted p w h m).kinds (sorted p w h m).plane s s₁ runs (kinds_at (w * h) P) (glyphs_at (w * h) P) (smoothing_gap p (unit_value (sorted p w h m).unit)) c) where
    -- they end before the boxes of the cuts
    smears-fit : 3 * runs + 3 * c ≤ horizontal_at (w * h)
    smears-fit = let b = page-fit in let f = L.fits in omega arith

    pub smears_room : (3 * runs ≤ length s₁) × (3 * runs ≤ smears_at (w * h) P) × (smears_at (w * h) P ≤ 2000000000)
    smears_room = let b = smears-fit in let q = S.room.room in let e = L.len in let d = page-dots in let f = S.room.few in (omega arith, omega arith, omega arith)

    sizes_room : SizesRoom w h (smear_mask p w h m) (drop (3 * runs) s₁) c P (smears_at (w * h) P - 3 * runs)
    sizes_room =
        let d = page-dots in
        let q = S.room.room in
        let n = S.room.narrow in
        let l = S.room.low in
        let b = smears-fit in
        let e = L.len in
        let z = length-drop (3 * runs) s₁ in
        record { wide = S.room.wide; narrow = omega arith; low = omega arith; dots = omega arith; few = S.room.few; held = L.held; before = omega arith; room = omega arith }

    pub sizes-ask : SizesRoom w h (smear_mask p w h m) (take (length s₁ - 3 * runs) (drop (3 * runs) s₁)) c P (smears_at (w * h) P - 3 * runs)
    sizes-ask = subst (λ z. SizesRoom w h (smear_mask p w h m) z c P (smears_at (w * h) P - 3 * runs)) (sym (tail-part (3 * runs) s₁)) sizes_room

    module _ {part : List ℕ} {smears : ℕ} (Z : SizesLeft w h (smear_mask p w h m) (drop (3 * runs) s₁) part c P (smears_at (w * h) P - 3 * runs) smears) where
      abbrev s₂ : List ℕ
      s₂ = take (3 * runs) s₁ ++ part

      front_long : length (take (3 * runs) s₁) ≡ 3 * runs
      front_long = length-take-le (3 * runs) s₁ smears_room.0

      at_front : (i : ℕ) → i < 3 * runs → get_or s₂ i 0 ≡ get_or s₁ i 0
      at_front i l = get_or-append (take (3 * runs) s₁) part 0 i (let e = front_long in omega arith) ∙ get_or-take (3 * runs) s₁ i 0 l

      at_part : (i : ℕ) → get_or s₂ (3 * runs + i) 0 ≡ get_or part i 0
      at_part i = ap (λ k. get_or s₂ (k + i) 0) (sym front_long) ∙ get_or-append-add (take (3 * runs) s₁) part i 0

      -- a word of the part that is as it was
      at-kept : (i : ℕ) → 3 * runs ≤ i → get_or part (i - 3 * runs) 0 ≡ get_or (drop (3 * runs) s₁) (i - 3 * runs) 0 → get_or s₂ i 0 ≡ get_or s₁ i 0
      at-kept i l e =
          let z : i ≡ 3 * runs + (i - 3 * runs) = omega arith in
          ap (λ k. get_or s₂ k 0) z ∙ (at_part (i - 3 * runs) ∙ (e ∙ (get_or-drop (3 * runs) s₁ (i - 3 * runs) 0 ∙ ap (λ k. get_or s₁ k 0) (sym z))))

      at-between : (i : ℕ) → horizontal_at (w * h) ≤ i → i < smears_at (w * h) P → get_or s₂ i 0 ≡ get_or s₁ i 0
      at-between i a b = let f = smears-fit in at-kept i (omega arith) (Z.between (i - 3 * runs) (omega arith) (omega arith))

      at-beyond : (i : ℕ) → glyphs_at (w * h) P ≤ i → get_or s₂ i 0 ≡ get_or s₁ i 0
      at-beyond i a = let f = smears-fit in at-kept i (omega arith) (kept_from (smears_at (w * h) P - 3 * runs + 5 * P) (drop (3 * runs) s₁) part Z.beyond (i - 3 * runs) (omega arith))

      whole : length s₂ ≡ length s
      whole = length-append (take (3 * runs) s₁) part ∙ (let a = front_long in let b = Z.len in let d = length-drop (3 * runs) s₁ in let e = L.len in let r = smears_room.0 in (let z : length (take (3 * runs) s₁) + length part ≡ length s = omega arith in z))

      count_is : smears ≤ P → smears ≡ length (labelling w h (smear_mask p w h m)).components
      count_is u = let e = Z.count in omega arith

      -- Labels of glyphs

      module _ (u : smears ≤ P) (k : ℕ) (l : k < length (sorted p w h m).kinds) (e : get_or (sorted p w h m).kinds k 0 ≡ glyph_kind) where
        dot : ℕ
        dot = first_dot (labelling w h (ink_after_cut p w h m)).labels (suc k)

        dot-first : (dot < w * h) × (get_or (labelling w h (ink_after_cut p w h m)).labels dot 0 ≡ suc k)
        unfolding dot
        dot-first = first-dot w h (ink_after_cut p w h m) k (let n = smooth-ask.size in omega arith)

        dot-glyph : glyph_dot (labelling w h (ink_after_cut p w h m)).labels (sorted p w h m).kinds dot ≡ true
        unfolding glyph_dot
        dot-glyph = ap (λ n. eqb (get_or (0 ∷ (sorted p w h m).kinds) n 0) glyph_kind) dot-first.1 ∙ eq-eqb (get_or (sorted p w h m).kinds k 0) glyph_kind e

        dot-on : is_ink (smear_mask p w h m) dot ≡ true
        dot-on = smoothed-on w h (ink_after_cut p w h m) (sorted p w h m).kinds (sorted p w h m).plane (smoothing_gap p (unit_value (sorted p w h m).unit)) S.room.wide (glyph-plane p w h m S.room.wide) dot dot-first.0 dot-glyph

        label_is : glyph_label p w h m k ≡ get_or (labelling w h (smear_mask p w h m)).labels dot 0
        unfolding smears_of dot
        label_is = ap (λ (z : Labelling). get_or (labelling w h (smear_mask p w h m)).labels (first_dot z.labels (suc k)) 0) (rest-is p w h m)

        first_run : get_or s₂ (glyphs_at (w * h) P + k) 0 ≡ run_of w (smear_mask p w h m) dot
        unfolding dot
        first_run = at-beyond (glyphs_at (w * h) P + k) (omega arith) ∙ L.first k l e

        numbered : GlyphNumbered (get_or s₂ (glyphs_at (w * h) P + k) 0) (first_number s₂ (glyphs_at (w * h) P) (3 * runs + 2 * c) k) (glyph_label p w h m k) c smears
        numbered =
            let f = first_run in
            let d = dot-number S.room.wide (Z.numbered u) dot dot-first.0 dot-on in
            let d₀ = d.0 in
            let t = label-within w h (smear_mask p w h m) dot dot-first.0 dot-on in
            let t₀ = t.0 in
            let t₁ = t.1 in
            let n = count_is u in
            let q = label_is in
            let run = run_of w (smear_mask p w h m) dot in
            record {
              inside = omega arith;
              number_is =
                  ap (λ z. get_or s₂ (3 * runs + 2 * c + z) 0) f
                  ∙ (ap (λ z. get_or s₂ z 0) (let z : 3 * runs + 2 * c + run ≡ 3 * runs + (2 * c + run) = omega arith in z) ∙ (at_part (2 * c + run) ∙ (d.1 ∙ sym q)));
              some = omega arith;
              few = omega arith;
            }

      labelled-part : SmearsLabelled p w h m P s s₂ runs (record { runs = c; smears = smears })
      unfolding smears_of
      labelled-part =
          record {
            len = whole;
            count = Z.count;
            fits = smears-fit;
            front = λ i l. at_front i l ∙ (sym (get_or-take (3 * runs) s₁ i 0 l) ∙ (ap (λ z. get_or z i 0) L.front ∙ get_or-take (3 * runs) s i 0 l));
            between = λ i a b. at-between i a b ∙ L.between i (let f = page-fit in omega arith) (omega arith);
            sizes = λ u.
                ap (take (5 * length (labelling w h (smear_mask p w h m)).components))
                (ap (λ z. drop z s₂) (let f = smears_room.1 in let z : smears_at (w * h) P ≡ 3 * runs + (smears_at (w * h) P - 3 * runs) = omega arith in z)
                ∙ (sym (drop-drop (smears_at (w * h) P - 3 * runs) (3 * runs) s₂) ∙ ap (drop (smears_at (w * h) P - 3 * runs)) (drop_at (take (3 * runs) s₁) part (3 * runs) front_long)))
                ∙ Z.sizes u;
            labels = λ u k l e. numbered u k l e;
          }

    -- what labelling leaves in the part, put back
    pub smears-labelled : {part : List ℕ} {smears : ℕ} → SizesLeft w h (smear_mask p w h m) (take (length s₁ - 3 * runs) (drop (3 * runs) s₁)) part c P (smears_at (w * h) P - 3 * runs) smears
        → SmearsLabelled p w h m P s (put_mid (3 * runs) (length s₁ - 3 * runs) s₁ part) runs (record { runs = c; smears = smears })
    smears-labelled {part} {smears} Z =
        subst (λ z. SmearsLabelled p w h m P s z runs (record { runs = c; smears = smears })) (sym (tail-put (3 * runs) s₁ part))
        (labelled-part (subst (λ z. SizesLeft w h (smear_mask p w h m) z part c P (smears_at (w * h) P - 3 * runs) smears) (tail-part (3 * runs) s₁) Z))

  -- Glyphs labelled, counted, and lines counted

  module _ {s₁ : List ℕ} {f : SmearLabels} (L : SmearsLabelled p w h m P s s₁ runs f) where
    pub smears-many : P < f.smears → P < length (smears_of p w h m).components
    smears-many u = let e = L.count in omega arith

    module _ (u : f.smears ≤ P) {components : ℕ} (n : components ≡ length (sorted p w h m).rest.components) where
      smears-count : f.smears ≡ length (smears_of p w h m).components
      smears-count = let e = L.count in omega arith

      -- where words end
      pub ends : (kinds_at (w * h) P + components ≤ smears_at (w * h) P) × (glyphs_at (w * h) P + P ≤ length s₁) × (3 * runs + 3 * f.runs ≤ kinds_at (w * h) P) × (glyphs_at (w * h) P ≤ 2000000000)
      ends = let q = S.room.room in let x = page-few.2 in let e = L.len in let d = page-dots in let b = S.room.few in let t = L.fits in (omega arith, omega arith, omega arith, omega arith)

      kind-stands : (k : ℕ) → k < length (sorted p w h m).rest.components → get_or s₁ (kinds_at (w * h) P + k) 0 ≡ get_or (sorted p w h m).kinds k 0
      kind-stands k l =
          let x = page-few.2 in
          L.between (kinds_at (w * h) P + k) (omega arith) (omega arith)
          ∙ (sym (get_or-drop (kinds_at (w * h) P) s k 0)
          ∙ (sym (get_or-take (length (sorted p w h m).rest.components) (drop (kinds_at (w * h) P) s) k 0 l) ∙ ap (λ z. get_or z k 0) S.held.kinds))

      sizes-stand : HoldsSizes (sorted p w h m).rest.components s₁ (sizes_at (w * h) P)
      sizes-stand =
          let x = page-few.2 in
          let q = S.room.room in
          held_kept (sorted p w h m).rest.components s s₁ (sizes_at (w * h) P) (omega arith) L.len (λ i a b. L.between i (omega arith) (omega arith)) S.held.sizes

      found : (k : ℕ) → k < length (sorted p w h m).rest.components → get_or (sorted p w h m).kinds k 0 ≡ glyph_kind
          → GlyphNumbered (get_or s₁ (glyphs_at (w * h) P + k) 0) (first_number s₁ (glyphs_at (w * h) P) (3 * runs + 2 * f.runs) k) (glyph_label p w h m k) f.runs f.smears
      found k l e = L.labels u k (let z = kinds-size p w h m in omega arith) e

      pub label-ask : LabelRoom (kinds_at (w * h) P) components (glyphs_at (w * h) P) (3 * runs + 2 * f.runs) s₁
      label-ask =
          let x = page-few.2 in
          let e₀ = ends.0 in
          let e₁ = ends.1 in
          record {
            behind = omega arith;
            room = omega arith;
            runs = λ k l e.
                let g = found k (omega arith) (sym (kind-stands k (omega arith)) ∙ e) in
                let i = g.inside in
                let e₂ = ends.2 in
                omega arith;
            few = λ k l e.
                let g = found k (omega arith) (sym (kind-stands k (omega arith)) ∙ e) in
                let i = g.number_is in
                let j = g.few in
                let y = S.room.few in
                omega arith;
          }

      module _ {s₂ : List ℕ} (G : Stored (λ k. kind_word (get_or s₁ (kinds_at (w * h) P + k) 0) (first_number s₁ (glyphs_at (w * h) P) (3 * runs + 2 * f.runs) k)) (kinds_at (w * h) P) components s₁ s₂) where
        glyphs-labelled : HoldsGlyphs (sorted p w h m).rest.components (sorted p w h m).kinds (glyph_label p w h m) (sizes_at (w * h) P) (kinds_at (w * h) P) s₂
        glyphs-labelled =
            let x = page-few.2 in
            let e₁ = ends.1 in
            glyphs-held (sorted p w h m).rest.components (sorted p w h m).kinds (glyph_label p w h m) (sizes_at (w * h) P) (kinds_at (w * h) P) (glyphs_at (w * h) P) (3 * runs + 2 * f.runs) s₁ s₂ sizes-stand (omega arith) (omega arith)
            kind-stands (kind-known p w h m) (λ k l e. (let g = found k l e in (g.some, g.number_is)))
            (subst (λ z. Stored (λ k. kind_word (get_or s₁ (kinds_at (w * h) P + k) 0) (first_number s₁ (glyphs_at (w * h) P) (3 * runs + 2 * f.runs) k)) (kinds_at (w * h) P) z s₁ s₂) n G)

        label-low : (k : ℕ) → k < components → label_at s₂ (kinds_at (w * h) P) k ≤ f.smears
        label-low k l =
            subst (λ z. z ≤ f.smears) (sym (label_of (sorted p w h m).rest.components (sorted p w h m).kinds (glyph_label p w h m) (sizes_at (w * h) P) (kinds_at (w * h) P) s₂ glyphs-labelled k (omega arith)))
            (go (eqb (get_or (sorted p w h m).kinds k 0) glyph_kind) (λ e. (found k (omega arith) (eqb-true (get_or (sorted p w h m).kinds k 0) glyph_kind e)).few))
          where
            go : (t : Bool) → (t ≡ true → glyph_label p w h m k ≤ f.smears) → cond t (glyph_label p w h m k) 0 ≤ f.smears
            go true a = a (λ i. true)
            go false a = omega arith

        pub count-ask : CountRoom (kinds_at (w * h) P) components (glyphs_at (w * h) P) f.smears s₂
        count-ask =
            let x = page-few.2 in
            let e₀ = ends.0 in
            let e₁ = ends.1 in
            let y = S.room.few in
            let z = G.within.len in
            record { behind = omega arith; room = omega arith; few = omega arith; labels = label-low }

        smears-stand : HoldsSizes (smears_of p w h m).components s₂ (smears_at (w * h) P)
        smears-stand =
            let r = smears-count in
            let e₀ = ends.0 in
            let e₁ = ends.1 in
            held_kept (smears_of p w h m).components s₁ s₂ (smears_at (w * h) P) (omega arith) G.within.len (λ i a b. G.within.past i (omega arith)) (L.sizes u)

        module _ {s₃ : List ℕ} (C : Stored (λ t. occurs (suc t) (labels_at s₂ (kinds_at (w * h) P) components)) (glyphs_at (w * h) P) f.smears s₂ s₃) where
          counted : Stored (λ t. occurs (suc t) (labels_at s₂ (kinds_at (w * h) P) (length (sorted p w h m).rest.components))) (glyphs_at (w * h) P) (length (smears_of p w h m).components) s₂ s₃
          counted =
              subst (λ z. Stored (λ t. occurs (suc t) (labels_at s₂ (kinds_at (w * h) P) z)) (glyphs_at (w * h) P) (length (smears_of p w h m).components) s₂ s₃) n
              (subst (λ z. Stored (λ t. occurs (suc t) (labels_at s₂ (kinds_at (w * h) P) components)) (glyphs_at (w * h) P) z s₂ s₃) smears-count C)

          smears-counted : HoldsSmears (glyphs_in p w h m) (smears_of p w h m).components (smears_at (w * h) P) (glyphs_at (w * h) P) s₃
          unfolding glyphs_in
          smears-counted =
              let r = smears-count in
              let e₁ = ends.1 in
              let z = G.within.len in
              subst (λ (g : List LabelledGlyph). HoldsSmears g (smears_of p w h m).components (smears_at (w * h) P) (glyphs_at (w * h) P) s₃) (sym (labelled-glyphs (sorted p w h m).rest (sorted p w h m).kinds (smears_of p w h m)))
              (smears-held (sorted p w h m).rest.components (sorted p w h m).kinds (glyph_label p w h m) (sizes_at (w * h) P) (kinds_at (w * h) P) (smears_of p w h m).components (smears_at (w * h) P) (glyphs_at (w * h) P) s₂ s₃ glyphs-labelled smears-stand (omega arith) (omega arith) counted)

          smear-inside : (t : ℕ) → t < f.smears → ((size_box s₃ (smears_at (w * h) P) t).y0 ≤ (size_box s₃ (smears_at (w * h) P) t).y1) × ((size_box s₃ (smears_at (w * h) P) t).y1 + 1 ≤ 4294967295)
          unfolding smears_of
          smear-inside t l =
              let r = smears-count in
              let b = size-box (smears_of p w h m).components s₃ (smears_at (w * h) P) smears-counted.held t (omega arith) in
              let y₀ = ap (λ (z : Rect). z.y0) b in
              let y₁ = ap (λ (z : Rect). z.y1) b in
              let B = component-boxed w h (smear_mask p w h m) S.room.wide (let d = page-dots in omega arith) t (omega arith) in
              let x₀ = B.high in
              let x₁ = B.bottom in
              let z = S.room.low in
              (omega arith, omega arith)

          pub lines-ask : SmearRoom (smears_at (w * h) P) (glyphs_at (w * h) P) f.smears s₃
          lines-ask =
              let e₁ = ends.1 in
              let y = S.room.few in
              let z = G.within.len in
              let x = C.within.len in
              record { behind = omega arith; room = omega arith; few = omega arith; tops = λ t l. (smear-inside t l).0; bottoms = λ t l. (smear-inside t l).1 }

          pub page-long : length s₃ ≡ length s
          page-long = C.within.len ∙ (G.within.len ∙ L.len)

          lines-told : (r : ℕ) → r ≡ count_if (smear_is_line p unit s₃ (smears_at (w * h) P) (glyphs_at (w * h) P)) f.smears → r ≡ length (lines_in p w h m)
          unfolding lines_in
          lines-told r e =
              e
              ∙ (ap (count_if (smear_is_line p unit s₃ (smears_at (w * h) P) (glyphs_at (w * h) P))) smears-count
              ∙ (lines-count p unit (glyphs_in p w h m) (smears_of p w h m).components (smears_at (w * h) P) (glyphs_at (w * h) P) s₃ smears-counted
              ∙ ap (λ (v : Float). length (kept_lines p v (glyphs_in p w h m) (smears_of p w h m).components)) S.unit_is))

          -- words of the sorted plane that are as they were
          kept_low : (i : ℕ) → i < kinds_at (w * h) P → get_or s₃ i 0 ≡ get_or s₁ i 0
          kept_low i l = C.within.before i (omega arith) ∙ G.within.before i l

          kept-front : (i : ℕ) → i < 3 * runs → get_or s₃ i 0 ≡ get_or s i 0
          kept-front i l = kept_low i (let e₂ = ends.2 in omega arith) ∙ L.front i l

          kept-boxes : (i : ℕ) → horizontal_at (w * h) ≤ i → i < sizes_at (w * h) P → get_or s₃ i 0 ≡ get_or s i 0
          kept-boxes i a b = kept_low i (omega arith) ∙ L.between i a (omega arith)

          pub page-held : HoldsPage p w h m P s₃ runs
          page-held =
              let x = page-few.2 in
              let x₀ = page-few.0 in
              let x₁ = page-few.1 in
              let e₁ = ends.1 in
              let z = G.within.len in
              record {
                numbered =
                    record {
                      held = record { count = S.held.numbered.held.count; runs = part-kept 0 (2 * runs) s s₃ page-long (λ i a b. kept-front i (omega arith)) ∙ S.held.numbered.held.runs };
                      numbers = λ k l. kept-front (2 * runs + k) (omega arith) ∙ S.held.numbered.numbers k l;
                    };
                glyphs =
                    record {
                      held = held_kept (sorted p w h m).rest.components s₂ s₃ (sizes_at (w * h) P) (omega arith) C.within.len (λ i a b. C.within.before i (omega arith)) glyphs-labelled.held;
                      words = λ k l. C.within.before (kinds_at (w * h) P + k) (omega arith) ∙ glyphs-labelled.words k l;
                      known = glyphs-labelled.known;
                      labelled = glyphs-labelled.labelled;
                    };
                smears = smears-counted;
                horizontal = part-kept (horizontal_at (w * h)) (2 * length (sorted p w h m).horizontal.components) s s₃ page-long (λ i a b. kept-boxes i a (omega arith)) ∙ S.held.horizontal;
                vertical = part-kept (vertical_at (w * h) P) (2 * length (sorted p w h m).vertical.components) s s₃ page-long (λ i a b. kept-boxes i (omega arith) (omega arith)) ∙ S.held.vertical;
              }

          pub smears-done : (r : ℕ) → r ≡ count_if (smear_is_line p unit s₃ (smears_at (w * h) P) (glyphs_at (w * h) P)) f.smears → r ≤ max_lines → SmearsHeld p w h m P s₃ runs (record { smears = f.smears; lines = r })
          smears-done r e l =
              let k = smears-count in
              let z = lines-told r e in
              record { few = omega arith; few_lines = omega arith; held = page-held; smears_is = smears-count; lines_is = z }

          pub lines-many : (r : ℕ) → r ≡ count_if (smear_is_line p unit s₃ (smears_at (w * h) P) (glyphs_at (w * h) P)) f.smears → max_lines < r → (length (smears_of p w h m).components ≤ P) × (max_lines < length (lines_in p w h m))
          lines-many r e l = let k = smears-count in let z = lines-told r e in (omega arith, omega arith)

-- The same by the plan

module _ {f : Plan} (Q : Planned f) {p : LayoutParams} {m s : List ℕ} {unit : Float} {runs : ℕ} (S : SortedPage p f.width f.height m f.capacity s unit runs) where
  abbrev rest : List ℕ
  rest = ink_after_cut p f.width f.height m

  abbrev all : Sorted
  all = sorted p f.width f.height m

  pub smooth-asked : SmoothRoom f.width f.height rest all.kinds all.plane s runs f.kinds f.glyphs
  smooth-asked = rw (Q.kinds_is, Q.glyphs_is) (smooth-ask S)

  pub smooth-found : {s₁ : List ℕ} {gap c : ℕ} → gap ≡ dots (p.smear_xh · unit) → SmoothLeft f.width f.height rest all.kinds all.plane s s₁ runs f.kinds f.glyphs gap c
      → SmoothLeft f.width f.height rest all.kinds all.plane s s₁ runs (kinds_at (f.width * f.height) f.capacity) (glyphs_at (f.width * f.height) f.capacity) (smoothing_gap p (unit_value all.unit)) c
  smooth-found e L = smooth-left S e (rw (Q.kinds_is, Q.glyphs_is) at L)

  module _ {s₁ : List ℕ} {c : ℕ}
      (L : SmoothLeft f.width f.height rest all.kinds all.plane s s₁ runs (kinds_at (f.width * f.height) f.capacity) (glyphs_at (f.width * f.height) f.capacity) (smoothing_gap p (unit_value all.unit)) c) where
    pub smears-fit-in : (3 * runs ≤ length s₁) × (3 * runs ≤ f.smears) × (f.smears ≤ 2000000000)
    smears-fit-in = rw Q.smears_is (smears_room S L)

    pub sizes-asked : SizesRoom f.width f.height (smear_mask p f.width f.height m) (take (length s₁ - 3 * runs) (drop (3 * runs) s₁)) c f.capacity (f.smears - 3 * runs)
    sizes-asked = rw Q.smears_is (sizes-ask S L)

    pub smears-found : {part : List ℕ} {smears : ℕ}
        → SizesLeft f.width f.height (smear_mask p f.width f.height m) (take (length s₁ - 3 * runs) (drop (3 * runs) s₁)) part c f.capacity (f.smears - 3 * runs) smears
        → SmearsLabelled p f.width f.height m f.capacity s (put_mid (3 * runs) (length s₁ - 3 * runs) s₁ part) runs (record { runs = c; smears = smears })
    smears-found Z = smears-labelled S L (rw Q.smears_is at Z)

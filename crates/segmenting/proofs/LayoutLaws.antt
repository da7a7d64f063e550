-- A whole page in scratch: what writing its results asks, and that they are those of its layout.
use mathlib.Core.Path.{◌≡◌, refl, sym, ap, ◌∙◌, subst}
use mathlib.Core.Bool.{Bool, true, false, cond}
use mathlib.Core.List.{List, map}
use Prim.Native.Nat.{ℕ, suc, ◌+◌, ◌*◌, ◌/◌, ◌%◌, ◌≤◌, ◌<◌}
use native.Mathlib.Decide.{dec_lt}
use native.Mathlib.Omega.{arith}
use borrow.Author.Tests.{eqb-true}
use lib.Dec.{eqb}
use lib.Ieee.{Float}
use lib.ListN.{get_or, length, length-map, get_or-eq_default}
use Rattle.memory.specs.rules.Lists.{table, upto, keep, occurs, total, greatest}
use Rattle.memory.specs.rules.Records.{encoded}
use Rattle.memory.specs.rules.Words.{over, put_at}
use Rattle.memory.proofs.RecordLaws.{length-encoded}
use Rattle.memory.proofs.TableLaws.{length-table, get_or-table}
use Rattle.labelling.specs.rules.Components.{no_dots, box_of}
use Rattle.memory.specs.rules.Masks.{is_ink}
use Rattle.labelling.specs.rules.Labels.{Labelling, labelling}
use Rattle.labelling.specs.declared.component.Component.{Component}
use Rattle.labelling.proofs.SizeLaws.{component-boxed}
use Rattle.labelling.proofs.Theorems.{label-within, label-blank}
use Rattle.params.specs.declared.LayoutParams.{LayoutParams}
use Rattle.sorting.specs.rules.Kinds.{glyph_kind}
use Rattle.rounding.specs.rules.Lengths.{◌·◌, dots}
use Rattle.extents.specs.rules.Extents.{Plane, mask_of}
use Rattle.rulings.specs.rules.Rulings.{after_cut}
use Rattle.sorting.specs.stages.Scratch.{horizontal_at, vertical_at, sizes_at, kinds_at, smears_at, glyphs_at, ink_after_cut}
use Rattle.sorting.specs.rules.Sorted.{sorted, rules_of, graphics_of, kind_counts}
use Rattle.sorting.specs.rules.Units.{unit_value}
use Rattle.sorting.specs.declared.sort.SortCounts.{SortCounts}
use Rattle.sorting.proofs.PlanLaws.{frame-of, plan-dots, plan-across, plan-down, plan-runs}
use Rattle.sorting.proofs.ComponentLaws.{areas-ink}
use Rattle.smoothing.specs.stages.LineWords.{glyphs_of, kind_word, HoldsGlyphs, HoldsSmears}
use Rattle.grouping.specs.rules.Blocks.{opens_block, block_of, block_firsts, blocks_of}
use Rattle.grouping.specs.rules.Columns.{cover, covered, columns_of}
use Rattle.smoothing.specs.rules.Lines.{LabelledGlyph, first_dot, SmoothedLine, kept_lines, glyph_box}
use Rattle.smoothing.specs.rules.Smoothing.{smoothing_gap, smoothed}
use Rattle.memory.specs.stages.Boxes.{Inside}
use Rattle.smoothing.specs.rules.LineRecords.{glyph_record}
use Rattle.memory.specs.rules.Rects.{box_words}
use Rattle.segmenting.specs.rules.Results.{rules_at, graphics_at, glyph_records_at, results_left}
use Rattle.segmenting.specs.stages.Held.{held_area, KindsHeld, unpacked_boxes}
use Rattle.segmenting.specs.stages.Painting.{painted_kind, Paintable}
use Rattle.segmenting.specs.rules.Layouts.{layout, text_line}
use Rattle.smoothing.specs.stages.Segments.{smears_of, glyphs_in, lines_in, glyph_label, HoldsPage}
use Rattle.smoothing.specs.declared.smears.Smears.{Smears}
use Rattle.segmenting.specs.rules.Figures.{figures_of}
use Rattle.segmenting.specs.stages.Writing.{rules_read, graphics_read, BoxRoom, LinesHeld, lines_left, boxes_of_lines, GroupRoom, groups_left, counted_figures, ResultsRoom}
use Rattle.segmenting.specs.declared.groups.GroupCounts.{GroupCounts}
use Rattle.segmenting.specs.declared.lists.BoxCounts.{BoxCounts}
use Rattle.segmenting.specs.declared.results.KindDots.{KindDots}
use Rattle.segmenting.proofs.AreaLaws.{sorted-area, sorted-cut}
use Rattle.smoothing.proofs.LineLaws.{labelled-glyphs}
use Rattle.grouping.proofs.ColumnWords.{runs-few}
use Rattle.memory.proofs.ListLaws.{keep-few}
use Rattle.memory.proofs.PlaceLaws.{occurs-length}
use Rattle.segmenting.proofs.BoxLaws.{boxes-few, rules-few}
use Rattle.segmenting.proofs.PutLaws.{put-long}
use Rattle.segmenting.proofs.WritingLaws.{groups-ask}
use Rattle.segmenting.proofs.SortedWords.{components-unpacked, sorted-boxes, sorted-rules, sorted-plane}

-- kinds are read off the words of kinds and labels
pub kinds_held : (cs : List Component) (ks : List ℕ) (labels : ℕ → ℕ) (sizes kinds : ℕ) (s : List ℕ) → length ks ≡ length cs → HoldsGlyphs cs ks labels sizes kinds s → KindsHeld ks s kinds
unfolding kind_word
kinds_held cs ks labels sizes kinds s e H k l = ap (λ z. z % 8) (H.words k (omega arith)) ∙ go (eqb (get_or ks k 0) glyph_kind) refl (H.known k (omega arith))
  where
    go : (t : Bool) → eqb (get_or ks k 0) glyph_kind ≡ t → get_or ks k 0 < 8 → cond t (glyph_kind + 8 * labels k) (get_or ks k 0) % 8 ≡ get_or ks k 0
    go true q b = let z = eqb-true (get_or ks k 0) glyph_kind q in omega arith
    go false q b = omega arith

bit-low : (t : Bool) → cond t 1 0 ≤ 1
bit-low true = omega arith
bit-low false = omega arith

mask-bit : (w h : ℕ) (f : Plane) (i : ℕ) → i < w * h → get_or (mask_of w h f) i 0 ≤ 1
unfolding mask_of
mask-bit w h f i l = subst (λ z. z ≤ 1) (sym (get_or-table _ (w * h) i 0 l)) (bit-low (f (i % w) (i / w)))

module _ {p : LayoutParams} {w h : ℕ} {m : List ℕ} {P : ℕ} {s : List ℕ} {found : SortCounts} {smears : Smears} {results : ℕ}
    (R : ResultsRoom p w h m P s found smears results) where
  page : HoldsPage p w h m P s found.runs
  page = R.held.held

  few-each : (length (sorted p w h m).horizontal.components ≤ P) × (length (sorted p w h m).vertical.components ≤ P) × (length (sorted p w h m).rest.components ≤ P)
  unfolding greatest
  few-each = let h = R.few in (omega arith, omega arith, omega arith)

  few_components : found.component_count ≤ P
  few_components = let a = few-each.2 in let b = R.figures.components_is in omega arith

  few-dots : w * h ≤ 1073741824
  few-dots = let a = plan-dots (frame-of R.plane) in omega arith

  rest-is : (sorted p w h m).rest ≡ labelling w h (ink_after_cut p w h m)
  unfolding sorted ink_after_cut
  rest-is = refl

  many-kinds : length (sorted p w h m).kinds ≡ length (sorted p w h m).rest.components
  unfolding sorted
  many-kinds = length-map (sorted p w h m).rest.components _

  kinds-are : KindsHeld (sorted p w h m).kinds s (kinds_at (w * h) P)
  kinds-are = kinds_held (sorted p w h m).rest.components (sorted p w h m).kinds (glyph_label p w h m) (sizes_at (w * h) P) (kinds_at (w * h) P) s many-kinds page.glyphs

  -- what painting the plane of kinds asks and leaves
  pub paint-ask : (out : List ℕ) → w * h ≤ length out → Paintable w h (ink_after_cut p w h m) m s found.runs (kinds_at (w * h) P) out
  paint-ask out e =
      let room = R.plane.room in
      let few = few_components in
      let count = R.figures.components_is ∙ ap (λ (l : Labelling). length l.components) rest-is in
      record {
        wide = R.plane.wide;
        plane = R.plane.whole;
        numbered = page.numbered;
        room = let a = plan-runs (frame-of R.plane) page.numbered.held in omega arith;
        kinds_room = omega arith;
        out_room = e;
      }

  pub plane-painted : table (painted_kind (ink_after_cut p w h m) (labelling w h (ink_after_cut p w h m)).labels s (kinds_at (w * h) P) m) (w * h) ≡ (sorted p w h m).plane
  plane-painted = sorted-plane p w h m s (kinds_at (w * h) P) R.plane.wide R.plane.ones kinds-are

  -- the dots of a kind
  pub area-is : (kind : ℕ) → 1 < kind → held_area s (sizes_at (w * h) P) (kinds_at (w * h) P) kind found.component_count ≡ occurs kind (sorted p w h m).plane
  area-is kind l =
      ap (held_area s (sizes_at (w * h) P) (kinds_at (w * h) P) kind) R.figures.components_is
      ∙ sorted-area p w h m s (sizes_at (w * h) P) (kinds_at (w * h) P) R.plane.wide few-dots R.plane.ones page.glyphs.held kinds-are kind l

  -- with the cut dots they are the ink
  pub cut-is : occurs 1 (sorted p w h m).plane
      + (held_area s (sizes_at (w * h) P) (kinds_at (w * h) P) 2 found.component_count + (held_area s (sizes_at (w * h) P) (kinds_at (w * h) P) 3 found.component_count + (held_area s (sizes_at (w * h) P) (kinds_at (w * h) P) 4 found.component_count + held_area s (sizes_at (w * h) P) (kinds_at (w * h) P) 5 found.component_count)))
      ≡ found.ink
  cut-is =
      ap (λ n. occurs 1 (sorted p w h m).plane
      + (held_area s (sizes_at (w * h) P) (kinds_at (w * h) P) 2 n + (held_area s (sizes_at (w * h) P) (kinds_at (w * h) P) 3 n + (held_area s (sizes_at (w * h) P) (kinds_at (w * h) P) 4 n + held_area s (sizes_at (w * h) P) (kinds_at (w * h) P) 5 n)))) R.figures.components_is
      ∙ (sorted-cut p w h m s (sizes_at (w * h) P) (kinds_at (w * h) P) R.plane.wide few-dots R.plane.ones page.glyphs.held kinds-are R.plane.whole ∙ sym R.figures.ink_is)

  -- what the lists of boxes ask
  pub boxes-ask : BoxRoom w (w * h) P found.horizontal found.vertical found.component_count (length s) results
  boxes-ask = record { cuts = (let a = few-each.0 in let b = R.figures.horizontal_is in omega arith, let a = few-each.1 in let b = R.figures.vertical_is in omega arith); few = few_components; room = R.plane.room; results_room = R.results_room }

  -- Glyphs and lines

  glyphs-in : glyphs_in p w h m ≡ glyphs_of (sorted p w h m).rest.components (sorted p w h m).kinds (glyph_label p w h m)
  unfolding glyphs_in
  glyphs-in = labelled-glyphs (sorted p w h m).rest (sorted p w h m).kinds (smears_of p w h m)

  lines-in : lines_in p w h m ≡ kept_lines p (unit_value (sorted p w h m).unit) (glyphs_of (sorted p w h m).rest.components (sorted p w h m).kinds (glyph_label p w h m)) (smears_of p w h m).components
  unfolding lines_in
  lines-in = ap (λ (g : List LabelledGlyph). kept_lines p (unit_value (sorted p w h m).unit) g (smears_of p w h m).components) glyphs-in

  mask : List ℕ
  mask = smoothed (smoothing_gap p (unit_value (sorted p w h m).unit)) w h (sorted p w h m).plane

  smears-are : smears_of p w h m ≡ labelling w h mask
  unfolding smears_of mask
  smears-are = refl

  inside : (k : List ℕ) (i : ℕ) → i < length (labelling w h k).components → Inside w h (box_of (get_or (labelling w h k).components i no_dots))
  inside k i l =
      let B = component-boxed w h k R.plane.wide few-dots i l in
      record { columns = B.wide; right = B.right; rows = B.high; bottom = B.bottom }

  labels-long : (k : List ℕ) → length (labelling w h k).labels ≡ w * h
  unfolding labelling
  labels-long k = length-table _ (w * h)

  label-low : (k : List ℕ) (i : ℕ) → get_or (labelling w h k).labels i 0 ≤ length (labelling w h k).components
  label-low k i = go (dec_lt i (w * h))
    where
      at : i < w * h → (t : Bool) → is_ink k i ≡ t → get_or (labelling w h k).labels i 0 ≤ length (labelling w h k).components
      at l true e = (label-within w h k i l e).1
      at l false e = let z = label-blank w h k i l e in omega arith

      go : Dec (i < w * h) → get_or (labelling w h k).labels i 0 ≤ length (labelling w h k).components
      go (yes l) = at l (is_ink k i) refl
      go (no l) = let z = get_or-eq_default (labelling w h k).labels 0 {n = i} (let e = labels-long k in omega arith) in omega arith

  -- the ink after the cut is a mask
  cut-long : length (ink_after_cut p w h m) ≡ w * h
  unfolding ink_after_cut after_cut mask_of
  cut-long = length-table _ (w * h)

  cut-bit : (i : ℕ) → i < w * h → get_or (ink_after_cut p w h m) i 0 ≤ 1
  unfolding ink_after_cut after_cut
  cut-bit i l = mask-bit w h _ i l

  cut-bits : (i : ℕ) → get_or (ink_after_cut p w h m) i 0 ≤ 1
  cut-bits i = go (dec_lt i (w * h))
    where
      go : Dec (i < w * h) → get_or (ink_after_cut p w h m) i 0 ≤ 1
      go (yes l) = cut-bit i l
      go (no l) = let z = get_or-eq_default (ink_after_cut p w h m) 0 {n = i} (let e = cut-long in omega arith) in omega arith

  areas-fit : total (map (λ (c : Component). c.area) (sorted p w h m).rest.components) ≤ 4294967295
  areas-fit =
      let a = ap (λ (l : Labelling). total (map (λ (c : Component). c.area) l.components)) rest-is ∙ areas-ink w h (ink_after_cut p w h m) few-dots cut-long cut-bits in
      let b = occurs-length 1 (ink_after_cut p w h m) in
      let d = cut-long in
      let e = few-dots in
      omega arith

  -- what writing glyphs and lines asks
  pub lines-held : LinesHeld p (unit_value (sorted p w h m).unit) (sorted p w h m).rest.components (sorted p w h m).kinds (glyph_label p w h m) (smears_of p w h m).components w h (w * h) P s results
  lines-held =
      record {
        glyphs = page.glyphs;
        smoothed = subst (λ (g : List LabelledGlyph). HoldsSmears g (smears_of p w h m).components (smears_at (w * h) P) (glyphs_at (w * h) P) s) glyphs-in page.smears;
        few = R.plane.few;
        few_components = let a = few_components in let b = R.figures.components_is in omega arith;
        few_smears = R.held.few;
        few_lines = let a = R.held.few_lines in let b = ap length lines-in in omega arith;
        low = λ k l. subst (λ (z : Labelling). get_or z.labels (first_dot (sorted p w h m).rest.labels (suc k)) 0 ≤ length z.components) (sym smears-are) (label-low mask (first_dot (sorted p w h m).rest.labels (suc k)));
        boxes = subst (λ (z : Labelling). (k : ℕ) → k < length z.components → Inside w h (box_of (get_or z.components k no_dots))) (sym rest-is) (inside (ink_after_cut p w h m));
        smear_boxes = subst (λ (z : Labelling). (k : ℕ) → k < length z.components → Inside w h (box_of (get_or z.components k no_dots))) (sym smears-are) (inside mask);
        ink = areas-fit;
        heights = let a = plan-down (frame-of R.plane) in omega arith;
        high = R.plane.low;
        room = R.plane.room;
        results_room = R.results_room;
      }

  -- The lists of boxes

  horizontal-unpacked : unpacked_boxes s (horizontal_at (w * h)) (length (sorted p w h m).horizontal.components) ≡ map box_of (sorted p w h m).horizontal.components
  unfolding sorted
  horizontal-unpacked =
      components-unpacked w h _ s (horizontal_at (w * h)) R.plane.wide (let a = R.plane.narrow in omega arith) (let a = R.plane.low in omega arith) few-dots page.horizontal

  vertical-unpacked : unpacked_boxes s (vertical_at (w * h) P) (length (sorted p w h m).vertical.components) ≡ map box_of (sorted p w h m).vertical.components
  unfolding sorted
  vertical-unpacked =
      components-unpacked w h _ s (vertical_at (w * h) P) R.plane.wide (let a = R.plane.narrow in omega arith) (let a = R.plane.low in omega arith) few-dots page.vertical

  pub rules-are : rules_read s (w * h) P found.horizontal found.vertical found.component_count ≡ rules_of p w h (sorted p w h m)
  rules-are =
      (λ i. rules_read s (w * h) P (R.figures.horizontal_is i) (R.figures.vertical_is i) (R.figures.components_is i))
      ∙ sorted-rules p w h m s (horizontal_at (w * h)) (vertical_at (w * h) P) (sizes_at (w * h) P) (kinds_at (w * h) P) page.glyphs.held kinds-are horizontal-unpacked vertical-unpacked

  pub graphics-are : graphics_read s (w * h) P found.component_count ≡ graphics_of p w h (sorted p w h m)
  unfolding graphics_of
  graphics-are =
      ap (graphics_read s (w * h) P) R.figures.components_is
      ∙ sorted-boxes p w h m s (sizes_at (w * h) P) (kinds_at (w * h) P) page.glyphs.held kinds-are 3

  -- the results of the layout, stage by stage
  layout-left : (first : List ℕ) → results_left w P (layout p w h m) first
      ≡ groups_left p (unit_value (sorted p w h m).unit) w P (lines_in p w h m)
      (put_at (glyph_records_at w P) (encoded glyph_record (map (glyph_box (lines_in p w h m)) (glyphs_in p w h m)))
      (put_at (graphics_at w P) (encoded box_words (graphics_of p w h (sorted p w h m))) (put_at (rules_at w) (encoded box_words (rules_of p w h (sorted p w h m))) first)))
  unfolding results_left layout lines_in glyphs_in smears_of
  layout-left first = refl

  -- What the calls of writing them ask

  -- the dots of each kind
  pub counts-ask : (sizes_at (w * h) P + 5 * found.component_count ≤ length s) × (kinds_at (w * h) P + found.component_count ≤ length s)
      × (held_area s (sizes_at (w * h) P) (kinds_at (w * h) P) 2 found.component_count + (held_area s (sizes_at (w * h) P) (kinds_at (w * h) P) 3 found.component_count + (held_area s (sizes_at (w * h) P) (kinds_at (w * h) P) 4 found.component_count + held_area s (sizes_at (w * h) P) (kinds_at (w * h) P) 5 found.component_count)) ≤ found.ink)
  counts-ask = let a = few_components in let b = R.plane.room in let e = cut-is in (omega arith, omega arith, omega arith)

  glyphs-few : length (glyphs_of (sorted p w h m).rest.components (sorted p w h m).kinds (glyph_label p w h m)) ≤ P
  unfolding glyphs_of
  glyphs-few =
      let f : ℕ → LabelledGlyph = λ k. record { component = get_or (sorted p w h m).rest.components k no_dots; label = glyph_label p w h m k } in
      let a = length-map (keep (λ k. eqb (get_or (sorted p w h m).kinds k 0) glyph_kind) (upto (length (sorted p w h m).rest.components))) f in
      let b = keep-few (λ k. eqb (get_or (sorted p w h m).kinds k 0) glyph_kind) (length (sorted p w h m).rest.components) in
      let d = few-each.2 in
      omega arith

  -- the unit is x
  module _ (x : Float) (e : x ≡ unit_value found.unit) where
    unit_is : unit_value (sorted p w h m).unit ≡ x
    unit_is = sym (e ∙ ap unit_value R.figures.unit_is)

    -- glyphs and lines
    pub text-ask : LinesHeld p x (sorted p w h m).rest.components (sorted p w h m).kinds (glyph_label p w h m) (smears_of p w h m).components w h (w * h) P s results
    text-ask = subst (λ (z : Float). LinesHeld p z (sorted p w h m).rest.components (sorted p w h m).kinds (glyph_label p w h m) (smears_of p w h m).components w h (w * h) P s results) unit_is lines-held

    lines-by : lines_in p w h m ≡ kept_lines p x (glyphs_of (sorted p w h m).rest.components (sorted p w h m).kinds (glyph_label p w h m)) (smears_of p w h m).components
    lines-by = lines-in ∙ ap (λ (z : Float). kept_lines p z (glyphs_of (sorted p w h m).rest.components (sorted p w h m).kinds (glyph_label p w h m)) (smears_of p w h m).components) unit_is

    glyphs-long : (r : List ℕ) → length r ≡ results → length (put_at (glyph_records_at w P) (encoded glyph_record (map (glyph_box (kept_lines p x (glyphs_of (sorted p w h m).rest.components (sorted p w h m).kinds (glyph_label p w h m)) (smears_of p w h m).components)) (glyphs_of (sorted p w h m).rest.components (sorted p w h m).kinds (glyph_label p w h m)))) r) ≡ length r
    glyphs-long r q =
        put-long (glyph_records_at w P) (encoded glyph_record (map (glyph_box (kept_lines p x (glyphs_of (sorted p w h m).rest.components (sorted p w h m).kinds (glyph_label p w h m)) (smears_of p w h m).components)) (glyphs_of (sorted p w h m).rest.components (sorted p w h m).kinds (glyph_label p w h m)))) r
        (let a = length-encoded glyph_record 6 (λ _. refl) (map (glyph_box (kept_lines p x (glyphs_of (sorted p w h m).rest.components (sorted p w h m).kinds (glyph_label p w h m)) (smears_of p w h m).components)) (glyphs_of (sorted p w h m).rest.components (sorted p w h m).kinds (glyph_label p w h m))) in
        let b = length-map (glyphs_of (sorted p w h m).rest.components (sorted p w h m).kinds (glyph_label p w h m)) (glyph_box (kept_lines p x (glyphs_of (sorted p w h m).rest.components (sorted p w h m).kinds (glyph_label p w h m)) (smears_of p w h m).components)) in
        let d = glyphs-few in
        let f = R.results_room in
        omega arith)

    -- blocks and columns
    pub group-ask : (first after : List ℕ) (words : ℕ) → length first ≡ results → length after ≡ results → words ≡ length s
        → after ≡ lines_left w P (glyphs_of (sorted p w h m).rest.components (sorted p w h m).kinds (glyph_label p w h m)) (kept_lines p x (glyphs_of (sorted p w h m).rest.components (sorted p w h m).kinds (glyph_label p w h m)) (smears_of p w h m).components) first
        → GroupRoom w h P (kept_lines p x (glyphs_of (sorted p w h m).rest.components (sorted p w h m).kinds (glyph_label p w h m)) (smears_of p w h m).components) (put_at (glyph_records_at w P) (encoded glyph_record (map (glyph_box (kept_lines p x (glyphs_of (sorted p w h m).rest.components (sorted p w h m).kinds (glyph_label p w h m)) (smears_of p w h m).components)) (glyphs_of (sorted p w h m).rest.components (sorted p w h m).kinds (glyph_label p w h m)))) first) after smears.lines words
    group-ask first after words a b same held =
        groups-ask text-ask (put_at (glyph_records_at w P) (encoded glyph_record (map (glyph_box (kept_lines p x (glyphs_of (sorted p w h m).rest.components (sorted p w h m).kinds (glyph_label p w h m)) (smears_of p w h m).components)) (glyphs_of (sorted p w h m).rest.components (sorted p w h m).kinds (glyph_label p w h m)))) first) after smears.lines words held
        (b ∙ sym (glyphs-long first a ∙ a)) b (R.held.lines_is ∙ ap length lines-by) same R.plane.narrow
        (let d = plan-across (frame-of R.plane) in let f = R.plane.room in omega arith)

    -- What the stages have counted and written

    module _ (boxes : BoxCounts) (glyphs : ℕ) (groups : GroupCounts)
        (rules_is : boxes.rules ≡ length (rules_read s (w * h) P found.horizontal found.vertical found.component_count))
        (graphics_is : boxes.graphics ≡ length (graphics_read s (w * h) P found.component_count))
        (glyphs_is : glyphs ≡ length (glyphs_of (sorted p w h m).rest.components (sorted p w h m).kinds (glyph_label p w h m)))
        (blocks_is : groups.blocks ≡ length (blocks_of (boxes_of_lines (kept_lines p x (glyphs_of (sorted p w h m).rest.components (sorted p w h m).kinds (glyph_label p w h m)) (smears_of p w h m).components)) (block_firsts p (boxes_of_lines (kept_lines p x (glyphs_of (sorted p w h m).rest.components (sorted p w h m).kinds (glyph_label p w h m)) (smears_of p w h m).components)))))
        (columns_is : groups.columns ≡ length (columns_of p x w (boxes_of_lines (kept_lines p x (glyphs_of (sorted p w h m).rest.components (sorted p w h m).kinds (glyph_label p w h m)) (smears_of p w h m).components)))) where
      blocks-few : length (blocks_of (boxes_of_lines (kept_lines p x (glyphs_of (sorted p w h m).rest.components (sorted p w h m).kinds (glyph_label p w h m)) (smears_of p w h m).components)) (block_firsts p (boxes_of_lines (kept_lines p x (glyphs_of (sorted p w h m).rest.components (sorted p w h m).kinds (glyph_label p w h m)) (smears_of p w h m).components)))) ≤ length (kept_lines p x (glyphs_of (sorted p w h m).rest.components (sorted p w h m).kinds (glyph_label p w h m)) (smears_of p w h m).components)
      unfolding blocks_of
      blocks-few =
          let ls = boxes_of_lines (kept_lines p x (glyphs_of (sorted p w h m).rest.components (sorted p w h m).kinds (glyph_label p w h m)) (smears_of p w h m).components) in
          let fs = block_firsts p (boxes_of_lines (kept_lines p x (glyphs_of (sorted p w h m).rest.components (sorted p w h m).kinds (glyph_label p w h m)) (smears_of p w h m).components)) in
          let a = length-map (keep (opens_block fs) (upto (length ls))) (block_of ls fs) in
          let b = keep-few (opens_block fs) (length ls) in
          let d = length-map (kept_lines p x (glyphs_of (sorted p w h m).rest.components (sorted p w h m).kinds (glyph_label p w h m)) (smears_of p w h m).components) (λ (l : SmoothedLine). l.bbox) in
          omega arith

      columns-few : length (columns_of p x w (boxes_of_lines (kept_lines p x (glyphs_of (sorted p w h m).rest.components (sorted p w h m).kinds (glyph_label p w h m)) (smears_of p w h m).components))) ≤ w
      unfolding columns_of
      columns-few = runs-few (dots (p.column_gap_xh · x)) (covered p (greatest (table (cover (boxes_of_lines (kept_lines p x (glyphs_of (sorted p w h m).rest.components (sorted p w h m).kinds (glyph_label p w h m)) (smears_of p w h m).components))) w)) (boxes_of_lines (kept_lines p x (glyphs_of (sorted p w h m).rest.components (sorted p w h m).kinds (glyph_label p w h m)) (smears_of p w h m).components))) w

      -- counts that fit in a word
      pub figures-ask : (boxes.rules ≤ 4294967295) × (boxes.graphics ≤ 4294967295) × (glyphs ≤ 4294967295) × (smears.lines ≤ 4294967295)
          × (groups.blocks ≤ 4294967295) × (groups.columns ≤ 4294967295)
      figures-ask =
          let a = rules-few s (horizontal_at (w * h)) found.horizontal (vertical_at (w * h) P) found.vertical (sizes_at (w * h) P) (kinds_at (w * h) P) found.component_count in
          let b = boxes-few s (kinds_at (w * h) P) 3 (sizes_at (w * h) P) found.component_count in
          let d = boxes-ask.cuts in
          let f = few_components in
          let g = R.plane.few in
          let k = glyphs-few in
          let l = R.held.lines_is in
          let n = R.held.few_lines in
          let q = ap length lines-by in
          let t = blocks-few in
          let u = columns-few in
          let v = R.plane.narrow in
          (omega arith, omega arith, omega arith, omega arith, omega arith, omega arith)

      -- they are the figures of the layout
      pub figures-are : (areas : KindDots) → areas.rule ≡ held_area s (sizes_at (w * h) P) (kinds_at (w * h) P) 2 found.component_count → areas.graphic ≡ held_area s (sizes_at (w * h) P) (kinds_at (w * h) P) 3 found.component_count → areas.glyph ≡ held_area s (sizes_at (w * h) P) (kinds_at (w * h) P) 4 found.component_count → areas.speck ≡ held_area s (sizes_at (w * h) P) (kinds_at (w * h) P) 5 found.component_count
          → areas.cut + (areas.rule + (areas.graphic + (areas.glyph + areas.speck))) ≡ found.ink
          → counted_figures found.unit found.ink areas boxes glyphs smears.lines groups ≡ figures_of (layout p w h m)
      unfolding layout kind_counts lines_in glyphs_in smears_of
      figures-are areas a₂ a₃ a₄ a₅ all i =
          record {
            unit = R.figures.unit_is i;
            rules = (rules_is ∙ ap length rules-are) i;
            graphics = (graphics_is ∙ ap length graphics-are) i;
            glyphs = (glyphs_is ∙ (sym (ap length glyphs-in) ∙ sym (length-map (glyphs_in p w h m) (glyph_box (lines_in p w h m))))) i;
            lines = (R.held.lines_is ∙ sym (length-table (text_line (lines_in p w h m) (block_firsts p (boxes_of_lines (lines_in p w h m)))) (length (lines_in p w h m)))) i;
            blocks = (blocks_is ∙ ap (λ (z : List SmoothedLine). length (blocks_of (boxes_of_lines z) (block_firsts p (boxes_of_lines z)))) (sym lines-by)) i;
            columns = (columns_is ∙ (λ j. length (columns_of p (sym unit_is j) w (boxes_of_lines (sym lines-by j))))) i;
            ink = R.figures.ink_is i;
            cut = cut_by i;
            rule = (a₂ ∙ area-is 2 (omega arith)) i;
            graphic = (a₃ ∙ area-is 3 (omega arith)) i;
            glyph = (a₄ ∙ area-is 4 (omega arith)) i;
            speck = (a₅ ∙ area-is 5 (omega arith)) i;
          }
        where
          cut_by : areas.cut ≡ occurs 1 (sorted p w h m).plane
          cut_by = let q = cut-is in omega arith

    -- the results of the layout, as the stages leave them
    pub results-are : (first second last : List ℕ)
        → second ≡ put_at (graphics_at w P) (encoded box_words (graphics_read s (w * h) P found.component_count)) (put_at (rules_at w) (encoded box_words (rules_read s (w * h) P found.horizontal found.vertical found.component_count)) first)
        → last ≡ groups_left p x w P (kept_lines p x (glyphs_of (sorted p w h m).rest.components (sorted p w h m).kinds (glyph_label p w h m)) (smears_of p w h m).components) (put_at (glyph_records_at w P) (encoded glyph_record (map (glyph_box (kept_lines p x (glyphs_of (sorted p w h m).rest.components (sorted p w h m).kinds (glyph_label p w h m)) (smears_of p w h m).components)) (glyphs_of (sorted p w h m).rest.components (sorted p w h m).kinds (glyph_label p w h m)))) second)
        → last ≡ results_left w P (layout p w h m) first
    results-are first second last a b =
        b
        ∙ ((λ i. groups_left p (sym unit_is i) w P (sym lines-by i) (put_at (glyph_records_at w P) (encoded glyph_record (map (glyph_box (sym lines-by i)) (sym glyphs-in i)))
        ((a ∙ (λ j. put_at (graphics_at w P) (encoded box_words (graphics-are j)) (put_at (rules_at w) (encoded box_words (rules-are j)) first))) i)))
        ∙ sym (layout-left first))

  -- the plane of kinds
  pub kinds-painted : (first last : List ℕ) → last ≡ over (table (painted_kind (ink_after_cut p w h m) (labelling w h (ink_after_cut p w h m)).labels s (kinds_at (w * h) P) m) (w * h)) first
      → last ≡ over (layout p w h m).plane first
  unfolding layout
  kinds-painted first last e = e ∙ ap (λ (z : List ℕ). over z first) plane-painted

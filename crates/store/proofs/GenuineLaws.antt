-- No layout that is not refused is spoiled (01, "never 16"): it passes each test of a reading of results.
use mathlib.Core.Path.{◌≡◌, refl, sym, ap, ◌∙◌, subst}
use mathlib.Core.Bool.{Bool, true, false, cond, not, ◌&&◌, ◌||◌}
use mathlib.Core.List.{List, [], ◌∷◌, ◌++◌, map}
use Prim.Native.Nat.{ℕ, suc, ◌+◌, ◌*◌, ◌^◌, ◌≤◌, ◌<◌}
use native.Mathlib.Nat.{div-add-mod', le_trans}
use native.Mathlib.Omega.{arith}
use borrow.Author.Tests.{le-leb, lt-ltb, eq-eqb, ne_eqb, ltb-true, ltb-false}
use lib.Dec.{T, leb, ltb, eqb}
use lib.IntN.{pos}
use lib.Ieee.{Float, binary64, to_bits, of_bits, fits, le, lt, of_int}
use lib.Ieee.Bits.{of_bits-to_bits}
use lib.Ieee.Fits.{of_int-fits}
use lib.Ieee.Order.{round_mono}
use lib.Ieee.Positive.{positive, positive-finite, between}
use lib.Ieee.Scale.{finite}
use lib.ListN.{length, get_or, length-map}
use Rattle.memory.specs.rules.Limits.{max_mask_dots, no_line}
use Rattle.memory.specs.rules.Lists.{table, upto, keep, index_from}
use Rattle.memory.specs.rules.Masks.{is_ink}
use Rattle.memory.proofs.BoolLaws.{and_left, and_right}
use Rattle.memory.proofs.TableLaws.{get_or-table}
use Rattle.labelling.specs.rules.Components.{box_of, no_dots}
use Rattle.labelling.specs.rules.Labels.{labelling}
use Rattle.memory.specs.rules.Rects.{height, union}
use Rattle.labelling.specs.declared.component.Component.{Component}
use Rattle.memory.specs.declared.rect.Rect.{Rect}
use Rattle.labelling.proofs.SizeLaws.{component-boxed}
use Rattle.params.specs.rules.Valid.{valid, float_one, length_ok, lengths_ok, extent_ok, fallback_ok, fractions_ok, heights_ok, counts_ok}
use Rattle.params.specs.declared.LayoutParams.{LayoutParams}
use Rattle.rounding.specs.rules.Lengths.{float}
use Rattle.levelling.specs.rules.Frames.{Frame}
use Rattle.sorting.specs.rules.Kinds.{kind_of, rule_kind, graphic_kind, glyph_kind}
use Rattle.sorting.specs.rules.Sorted.{sorted, boxes_of, rules_of, graphics_of}
use Rattle.sorting.specs.rules.Units.{median, unit_from, unit_of, unit_value, measurable}
use Rattle.sorting.specs.declared.Unit.{Unit}
use Rattle.sorting.specs.declared.Unit.TheVariants.{Measured, Assumed}
use Rattle.sorting.proofs.KindLaws.{KindOfDot, kind-of-dot}
use Rattle.sorting.proofs.KindLaws.KindOfDot.{blank, ink}
use Rattle.grouping.specs.rules.Blocks.{Block, no_rect, block_firsts, block_number, blocks_of, block_of, union_all, opens_block}
use Rattle.segmenting.specs.rules.Layouts.{Layout, layout, layout_refusal, text_line}
use Rattle.smoothing.specs.rules.Lines.{TextLine, GlyphBox, glyph_box, LabelledGlyph, labelled_glyphs, SmoothedLine, smoothed_line, is_line, kept_lines, keys_at_most, line_keys, line_number}
use Rattle.memory.specs.stages.Boxes.{Inside}
use Rattle.smoothing.specs.rules.LineRecords.{line_record, glyph_record}
use Rattle.grouping.specs.rules.BlockRecords.{block_record}
use Rattle.memory.proofs.ListLaws.{Each, each_at, each-sort, each-table, each_append, keep-few}
use Rattle.grouping.proofs.Theorems.{block-of-line-exists}
use Rattle.memory.specs.rules.Rects.{box_words}
use Rattle.segmenting.specs.rules.Figures.{figures_of, figure_words}
use Rattle.smoothing.specs.stages.Segments.{smears_of, glyphs_in, lines_in}
use Rattle.judging.specs.rules.Header.{low_word, high_word}
use Rattle.judging.specs.rules.Views.{view_of_layout}
use Rattle.judging.specs.rules.Spoiled.{unit_ok, kind_ok, kinds_ok, results_ok}
use Rattle.store.proofs.LayoutLaws.{boxes_in, lines_are, blocks-are, glyphs-are, rules-are, graphics-are, kinds-are, lines_long, few-of}
use Rattle.store.proofs.TestLaws.{every-pass, fields-pass, boxes-pass, each_of, each-kept, each_map, each-with, each-upto, median-in, median-low}

-- ---- the unit

pub float-words : (x : Float) → T (fits binary64 x) → of_bits binary64 (high_word x * 2 ^ 32 + low_word x) ≡ x
float-words x F = ap (of_bits binary64) (div-add-mod' (to_bits binary64 x) (2 ^ 32)) ∙ of_bits-to_bits binary64 x F

is_true : (b : Bool) → T b → b ≡ true
is_true true t = refl
is_true false t = absurd t

float_one_is : float_one ≡ float 1
unfolding of_bits of_int
float_one_is = refl

low-positive : T (positive (float 1))
unfolding of_int
low-positive = tt

high-positive : T (positive (float 16383))
unfolding of_int
high-positive = tt

in_order : (a b : ℕ) → a ≤ b → T (le (float a) (float b))
unfolding of_int
in_order a b h = round_mono binary64 a 1 b 1 (omega arith) (omega arith) (omega arith)

-- a height of a frame is a unit that is not spoiled
height-measured : (n : ℕ) → 1 ≤ n → n ≤ 16383 → (finite (float n) && le float_one (float n)) ≡ true
height-measured n a b =
    let P = between (float 1) (float n) (float 16383) low-positive high-positive (in_order 1 n a) (in_order n 16383 b) in
    let f : finite (float n) ≡ true = is_true (finite (float n)) (positive-finite (float n) P) in
    let l : le float_one (float n) ≡ true = is_true _ (subst (λ (z : Float). T (le z (float n))) (sym float_one_is) (in_order 1 n a)) in
    rw (f, l)

second-of : (a b c d e f g h i j k l m n o : Bool) → (a && b && c && d && e && f && g && h && i && j && k && l && m && n && o) ≡ true → b ≡ true
second-of a true c d e f g h i j k l m n o q = refl
second-of true false c d e f g h i j k l m n o q = q
second-of false false c d e f g h i j k l m n o q = q

second : (p : LayoutParams) → lengths_ok p ≡ true → length_ok p.xheight_fallback_px ≡ true
second p e =
    second-of
    (length_ok p.glyph_max_extent_frac)
    (length_ok p.xheight_fallback_px)
    (length_ok p.rule_min_len_xh)
    (length_ok p.rule_max_thick_xh)
    (length_ok p.rule_run_xh)
    (length_ok p.graphic_min_xh)
    (length_ok p.smear_xh)
    (length_ok p.line_min_height_xh)
    (length_ok p.line_max_height_xh)
    (length_ok p.block_min_overlap)
    (length_ok p.block_gap_margin_lines)
    (length_ok p.block_max_gap_lines)
    (length_ok p.column_gap_xh)
    (length_ok p.column_cover_frac)
    (length_ok p.shear_min_deg)
    e

fallback-passes : (p : LayoutParams) → valid p ≡ true → (length_ok p.xheight_fallback_px && not (lt p.xheight_fallback_px float_one)) ≡ true
fallback-passes p v =
    let all = and_left (lengths_ok p && extent_ok p && fallback_ok p && fractions_ok p && heights_ok p) (counts_ok p) v in
    let b₁ = and_left (lengths_ok p && extent_ok p && fallback_ok p && fractions_ok p) (heights_ok p) all in
    let b₂ = and_left (lengths_ok p && extent_ok p && fallback_ok p) (fractions_ok p) b₁ in
    let fb : fallback_ok p ≡ true = and_right (lengths_ok p && extent_ok p) (fallback_ok p) b₂ in
    let ls : lengths_ok p ≡ true = and_left (lengths_ok p) (extent_ok p) (and_left (lengths_ok p && extent_ok p) (fallback_ok p) b₂) in
    both (length_ok p.xheight_fallback_px) (fallback_ok p) (second p ls) fb
  where
    both : (a b : Bool) → a ≡ true → b ≡ true → (a && b) ≡ true
    both a b e f = rw (e, f)

-- ---- boxes

high-low : (w h : ℕ) (r : Rect) → Inside w h r → (1 ≤ height r) × (height r ≤ h)
high-low w h r I = let a = I.rows in let b = I.bottom in (omega arith, omega arith)

union-inside : (w h : ℕ) (a b : Rect) → Inside w h a → Inside w h b → Inside w h (union a b)
union-inside w h a b I J =
    record {
      columns = let x = I.columns in let y = J.columns in omega arith;
      right = let x = I.right in let y = J.right in omega arith;
      rows = let x = I.rows in let y = J.rows in omega arith;
      bottom = let x = I.bottom in let y = J.bottom in omega arith;
    }

all-inside : (w h : ℕ) (r : Rect) (l : List Rect) → Inside w h r → Each (Inside w h) l → Inside w h (union_all r l)
unfolding union_all
all-inside w h r [] I e = I
all-inside w h r (a ∷ l) I (x, e) = union-inside w h a (union_all r l) x (all-inside w h r l I e)

module _ (p : LayoutParams) (w h : ℕ) (m : List ℕ) (wide : 0 < w) (few-dots : w * h ≤ max_mask_dots) where
  inside : (k : List ℕ) → Each (λ (c : Component). Inside w h (box_of c)) (labelling w h k).components
  inside k =
      each_of (λ (c : Component). Inside w h (box_of c)) (labelling w h k).components no_dots
      (λ i l. let B = component-boxed w h k wide few-dots i l in record { columns = B.wide; right = B.right; rows = B.high; bottom = B.bottom })

  rest-inside : Each (λ (c : Component). Inside w h (box_of c)) (sorted p w h m).rest.components
  unfolding sorted
  rest-inside = inside _

  horizontal-inside : Each (λ (c : Component). Inside w h (box_of c)) (sorted p w h m).horizontal.components
  unfolding sorted
  horizontal-inside = inside _

  vertical-inside : Each (λ (c : Component). Inside w h (box_of c)) (sorted p w h m).vertical.components
  unfolding sorted
  vertical-inside = inside _

  smears-inside : Each (λ (c : Component). Inside w h (box_of c)) (smears_of p w h m).components
  unfolding smears_of
  smears-inside = inside _

  kind-inside : (k : ℕ) → Each (Inside w h) (boxes_of p w h (sorted p w h m) k)
  unfolding boxes_of
  kind-inside k =
      each_map (Inside w h) box_of (keep (λ (c : Component). eqb (kind_of p (unit_value (sorted p w h m).unit) w h c) k) (sorted p w h m).rest.components)
      (each-kept (λ (c : Component). Inside w h (box_of c)) (λ (c : Component). eqb (kind_of p (unit_value (sorted p w h m).unit) w h c) k) (sorted p w h m).rest.components rest-inside)

  pub rules-inside : Each (Inside w h) (layout p w h m).rules
  unfolding rules_of
  rules-inside =
      let s = sorted p w h m in
      let x = map box_of s.horizontal.components in
      let y = map box_of s.vertical.components in
      let z = boxes_of p w h s rule_kind in
      subst (Each (Inside w h)) (sym (rules-are p w h m))
      (each_append (Inside w h) (x ++ y) z
      (each_append (Inside w h) x y (each_map (Inside w h) box_of s.horizontal.components horizontal-inside) (each_map (Inside w h) box_of s.vertical.components vertical-inside))
      (kind-inside rule_kind))

  pub graphics-inside : Each (Inside w h) (layout p w h m).graphics
  unfolding graphics_of
  graphics-inside = subst (Each (Inside w h)) (sym (graphics-are p w h m)) (kind-inside graphic_kind)

  -- glyphs
  glyphs-boxed : Each (λ (g : LabelledGlyph). Inside w h (box_of g.component)) (glyphs_in p w h m)
  unfolding glyphs_in labelled_glyphs
  glyphs-boxed =
      let cs = (sorted p w h m).rest.components in
      let q : ℕ → Bool = λ k. eqb (get_or (sorted p w h m).kinds k 0) glyph_kind in
      each_map (λ (g : LabelledGlyph). Inside w h (box_of g.component)) _ (keep q (upto (length cs)))
      (each-with (λ k. k < length cs) (λ k. Inside w h (box_of (get_or cs k no_dots))) (keep q (upto (length cs)))
      (λ k l. each_at (λ (c : Component). Inside w h (box_of c)) cs rest-inside k no_dots l)
      (each-kept (λ k. k < length cs) q (upto (length cs)) (each-upto (length cs))))

  -- lines: boxes, and the median height of the glyphs
  lines-boxed : Each (λ (l : SmoothedLine). Inside w h l.bbox × (l.glyph_height ≤ h)) (lines_in p w h m)
  unfolding lines_in kept_lines smoothed_line
  lines-boxed =
      let smears = (smears_of p w h m).components in
      let gs = glyphs_in p w h m in
      let unit = unit_value (sorted p w h m).unit in
      let Q : SmoothedLine → Type 0 = λ l. Inside w h l.bbox × (l.glyph_height ≤ h) in
      let all = table (λ t. smoothed_line gs (get_or smears t no_dots) (suc t)) (length smears) in
      each-sort Q (λ (a b : SmoothedLine). keys_at_most (line_keys a) (line_keys b)) (keep (λ (l : SmoothedLine). is_line p unit l.glyphs (height l.bbox)) all)
      (each-kept Q (λ (l : SmoothedLine). is_line p unit l.glyphs (height l.bbox)) all
      (each-table Q (λ t. smoothed_line gs (get_or smears t no_dots) (suc t)) (length smears)
      (λ t l. (each_at (λ (c : Component). Inside w h (box_of c)) smears smears-inside t no_dots l, own-low (λ (g : LabelledGlyph). eqb g.label (suc t))))))
    where
      own-low : (q : LabelledGlyph → Bool) → median (map (λ (g : LabelledGlyph). height (box_of g.component)) (keep q (glyphs_in p w h m))) ≤ h
      own-low q =
          median-low h (map (λ (g : LabelledGlyph). height (box_of g.component)) (keep q (glyphs_in p w h m)))
          (each_map (λ v. v ≤ h) (λ (g : LabelledGlyph). height (box_of g.component)) (keep q (glyphs_in p w h m))
          (each-kept (λ (g : LabelledGlyph). height (box_of g.component) ≤ h) q (glyphs_in p w h m)
          (each-with (λ (g : LabelledGlyph). Inside w h (box_of g.component)) (λ (g : LabelledGlyph). height (box_of g.component) ≤ h) (glyphs_in p w h m)
          (λ g I. (high-low w h (box_of g.component) I).1) glyphs-boxed)))

  boxes-boxed : Each (Inside w h) (boxes_in p w h m)
  boxes-boxed =
      each_map (Inside w h) (λ (l : SmoothedLine). l.bbox) (lines_in p w h m)
      (each-with (λ (l : SmoothedLine). Inside w h l.bbox × (l.glyph_height ≤ h)) (λ (l : SmoothedLine). Inside w h l.bbox) (lines_in p w h m) (λ l x. x.0) lines-boxed)

  -- blocks: boxes, and their count of lines
  pub blocks-boxed : Each (λ (b : Block). Inside w h b.bbox × (length b.lines ≤ length (layout p w h m).lines)) (layout p w h m).blocks
  unfolding blocks_of block_of
  blocks-boxed =
      let B = boxes_in p w h m in
      let fs = block_firsts p B in
      let n = length B in
      let same : n ≡ length (layout p w h m).lines = length-map (lines_in p w h m) (λ (l : SmoothedLine). l.bbox) ∙ sym (lines_long p w h m) in
      let Q : Block → Type 0 = λ b. Inside w h b.bbox × (length b.lines ≤ length (layout p w h m).lines) in
      subst (Each Q) (sym (blocks-are p w h m))
      (each_map Q (block_of B fs) (keep (opens_block fs) (upto n))
      (each-with (λ k. k < n) (λ k. Q (block_of B fs k)) (keep (opens_block fs) (upto n))
      (λ k l. (
        all-inside w h (get_or B k no_rect) _ (each_at (Inside w h) B boxes-boxed k no_rect l) (own-inside _),
        subst (λ z. length (block_of B fs k).lines ≤ z) same (keep-few _ n),
      ))
      (each-kept (λ k. k < n) (opens_block fs) (upto n) (each-upto n))))
    where
      own-inside : (q : ℕ → Bool) → Each (Inside w h) (map (λ i. get_or (boxes_in p w h m) i no_rect) (keep q (upto (length (boxes_in p w h m)))))
      own-inside q =
          let n = length (boxes_in p w h m) in
          each_map (Inside w h) (λ i. get_or (boxes_in p w h m) i no_rect) (keep q (upto n))
          (each-with (λ i. i < n) (λ i. Inside w h (get_or (boxes_in p w h m) i no_rect)) (keep q (upto n))
          (λ i l. each_at (Inside w h) (boxes_in p w h m) boxes-boxed i no_rect l)
          (each-kept (λ i. i < n) q (upto n) (each-upto n)))

  -- a line as it is told
  line-is : (i : ℕ) (d : TextLine) → i < length (layout p w h m).lines → get_or (layout p w h m).lines i d ≡ text_line (lines_in p w h m) (block_firsts p (boxes_in p w h m)) i
  line-is i d l =
      ap (λ (z : List TextLine). get_or z i d) (lines_are p w h m)
      ∙ get_or-table (text_line (lines_in p w h m) (block_firsts p (boxes_in p w h m))) (length (lines_in p w h m)) i d (let e = lines_long p w h m in omega arith)

  line-fine : (i : ℕ) → i < length (lines_in p w h m)
      → Inside w h (text_line (lines_in p w h m) (block_firsts p (boxes_in p w h m)) i).bbox × ((text_line (lines_in p w h m) (block_firsts p (boxes_in p w h m)) i).glyph_height ≤ h)
  unfolding text_line
  line-fine i l = each_at (λ (l : SmoothedLine). Inside w h l.bbox × (l.glyph_height ≤ h)) (lines_in p w h m) lines-boxed i _ l

  block-fine : (i : ℕ) → i < length (lines_in p w h m) → (text_line (lines_in p w h m) (block_firsts p (boxes_in p w h m)) i).block < length (layout p w h m).blocks
  unfolding text_line
  block-fine i l =
      subst (λ (z : List Block). block_number (block_firsts p (boxes_in p w h m)) i < length z) (sym (blocks-are p w h m))
      (block-of-line-exists p (boxes_in p w h m) i (let e = length-map (lines_in p w h m) (λ (l : SmoothedLine). l.bbox) in omega arith))

  module _ (i : ℕ) (d : TextLine) (l : i < length (layout p w h m).lines) where
    there : i < length (lines_in p w h m)
    there = let e = lines_long p w h m in omega arith

    pub line-inside : Inside w h (get_or (layout p w h m).lines i d).bbox
    line-inside = subst (λ (z : TextLine). Inside w h z.bbox) (sym (line-is i d l)) (line-fine i there).0

    pub line_low : (get_or (layout p w h m).lines i d).glyph_height ≤ h
    line_low = subst (λ (z : TextLine). z.glyph_height ≤ h) (sym (line-is i d l)) (line-fine i there).1

    pub line-block : (get_or (layout p w h m).lines i d).block < length (layout p w h m).blocks
    line-block = subst (λ (z : TextLine). z.block < length (layout p w h m).blocks) (sym (line-is i d l)) (block-fine i there)

  -- the line of a glyph
  or-true : (b : Bool) → (b || true) ≡ true
  or-true true = refl
  or-true false = refl

  index-fine : (d i k n : ℕ) (l : List ℕ) → i + length l ≤ n → (eqb (index_from d i k l) d || ltb (index_from d i k l) n) ≡ true
  unfolding index_from
  index-fine d i k n [] h = rw (eq-eqb d d refl)
  index-fine d i k n (a ∷ l) h = go (eqb a k) (index-fine d (suc i) k n l (omega arith))
    where
      go : (b : Bool) → (eqb (index_from d (suc i) k l) d || ltb (index_from d (suc i) k l) n) ≡ true
          → (eqb (cond b i (index_from d (suc i) k l)) d || ltb (cond b i (index_from d (suc i) k l)) n) ≡ true
      go true e = ap (λ t. eqb i d || t) (lt-ltb i n (omega arith)) ∙ or-true (eqb i d)
      go false e = e

  pub glyphs-fine : Each (λ (g : GlyphBox). Inside w h g.bbox × ((eqb g.line no_line || ltb g.line (length (layout p w h m).lines)) ≡ true)) (layout p w h m).glyphs
  unfolding glyph_box line_number
  glyphs-fine =
      let L = lines_in p w h m in
      let Q : GlyphBox → Type 0 = λ g. Inside w h g.bbox × ((eqb g.line no_line || ltb g.line (length (layout p w h m).lines)) ≡ true) in
      subst (Each Q) (sym (glyphs-are p w h m))
      (each_map Q (glyph_box L) (glyphs_in p w h m)
      (each-with (λ (g : LabelledGlyph). Inside w h (box_of g.component)) (λ (g : LabelledGlyph). Q (glyph_box L g)) (glyphs_in p w h m)
      (λ g I. (
        I,
        index-fine no_line 0 g.label (length (layout p w h m).lines) (map (λ (l : SmoothedLine). l.label) L)
            (let e = length-map L (λ (l : SmoothedLine). l.label) in let f = lines_long p w h m in omega arith),
      ))
      glyphs-boxed))

  -- the unit
  heights-fine : h ≤ 16383 → Each (λ v. (1 ≤ v) × (v ≤ 16383)) (map (λ (c : Component). height (box_of c)) (keep (measurable p w h) (sorted p w h m).rest.components))
  heights-fine low =
      each_map (λ v. (1 ≤ v) × (v ≤ 16383)) (λ (c : Component). height (box_of c)) (keep (measurable p w h) (sorted p w h m).rest.components)
      (each-kept (λ (c : Component). (1 ≤ height (box_of c)) × (height (box_of c) ≤ 16383)) (measurable p w h) (sorted p w h m).rest.components
      (each-with (λ (c : Component). Inside w h (box_of c)) (λ (c : Component). (1 ≤ height (box_of c)) × (height (box_of c) ≤ 16383)) (sorted p w h m).rest.components
      (λ c I. (let z = high-low w h (box_of c) I in (z.0, le_trans z.1 low))) rest-inside))

-- a unit that is not spoiled, and is an f64
abbrev pub UnitFine : Unit → Type 0
UnitFine (Measured x) = ((finite x && le float_one x) ≡ true) × T (fits binary64 x)
UnitFine (Assumed x) = ((length_ok x && not (lt x float_one)) ≡ true) × T (fits binary64 x)

unit-from : (p : LayoutParams) → valid p ≡ true → T (fits binary64 p.xheight_fallback_px) → (hs : List ℕ) → Each (λ v. (1 ≤ v) × (v ≤ 16383)) hs → UnitFine (unit_from p hs)
unfolding unit_from
unit-from p v F [] e = (fallback-passes p v, F)
unit-from p v F (a ∷ l) e =
    let x = median-in (λ v. (1 ≤ v) × (v ≤ 16383)) a l e in
    (height-measured (median (a ∷ l)) x.0 x.1, of_int-fits binary64 (pos (median (a ∷ l))))

pub unit-fine : (p : LayoutParams) (w h : ℕ) (m : List ℕ) → 0 < w → w * h ≤ max_mask_dots → h ≤ 16383 → valid p ≡ true → T (fits binary64 p.xheight_fallback_px) → UnitFine (layout p w h m).unit
unfolding layout unit_of
unit-fine p w h m wide dots low v F = subst UnitFine (unit_is p w h m) (unit-from p v F _ (heights-fine p w h m wide dots low))
  where
    unit_is : (p : LayoutParams) (w h : ℕ) (m : List ℕ) → unit_from p (map (λ (c : Component). height (box_of c)) (keep (measurable p w h) (sorted p w h m).rest.components)) ≡ (sorted p w h m).unit
    unit_is p w h m = unfold sorted in refl

unit-passes : (l : Layout) (u : Unit) → l.unit ≡ u → UnitFine u → unit_ok (figure_words (figures_of l)) ≡ true
unfolding figure_words
unit-passes l (Measured x) e (q, F) = rw (e, float-words x F) q
unit-passes l (Assumed x) e (q, F) = rw (e, float-words x F) q

-- the kinds
kind-passes : (x : ℕ) (b : Bool) (k : ℕ) → ltb 0 x ≡ b → KindOfDot b k → kind_ok x k ≡ true
kind-passes x false k e blank = let z = ltb-false 0 x e in rw (eq-eqb x 0 (omega arith))
kind-passes x true k e (ink a c) = let z = ltb-true 0 x e in rw (le-leb k 5 c, ne_eqb k 0 (λ q. omega arith), ne_eqb x 0 (λ q. omega arith))

pub kinds-pass : (p : LayoutParams) (w h : ℕ) (m : List ℕ) → 0 < w → kinds_ok m (layout p w h m).plane (w * h) ≡ true
unfolding kinds_ok is_ink
kinds-pass p w h m wide =
    every-pass _ (w * h) (λ i l. kind-passes (get_or m i 0) (ltb 0 (get_or m i 0)) (get_or (layout p w h m).plane i 0) refl
    (subst (λ (z : List ℕ). KindOfDot (is_ink m i) (get_or z i 0)) (sym (kinds-are p w h m)) (kind-of-dot p w h m wide i l)))

both : {a b : Bool} → a ≡ true → b ≡ true → (a && b) ≡ true
both e f = rw (e, f)

no_text : TextLine
no_text = record { bbox = no_rect; glyphs = 0; ink_area = 0; glyph_height = 0; block = 0 }

no_glyph : GlyphBox
no_glyph = record { bbox = no_rect; area = 0; line = 0 }

no_block : Block
no_block = record { bbox = no_rect; lines = [] }

-- a layout that is not refused passes
pub genuine : (f : Frame) (skew : Float) (p : LayoutParams) (m : List ℕ) (P : ℕ) → 0 < f.w → f.w * f.h ≤ max_mask_dots → f.h ≤ 16383 → valid p ≡ true
    → T (fits binary64 p.xheight_fallback_px) → layout_refusal P (layout p f.w f.h m) ≡ 0 → results_ok P m (view_of_layout f skew (layout p f.w f.h m)) ≡ true
unfolding results_ok view_of_layout figure_words
genuine f skew p m P wide dots low v F e =
    let w = f.w in
    let h = f.h in
    let l = layout p w h m in
    let N = few-of p w h m P e in
    both (both (both (both (both (both (both (both (both (both (both
    (unit-passes l l.unit refl (unit-fine p w h m wide dots low v F))
    (both (both (both (both (both (both (le-leb _ _ N.rules) (le-leb _ _ N.graphics)) (le-leb _ _ N.glyphs)) (le-leb _ _ N.lines)) (le-leb _ _ N.lines-most)) (le-leb _ _ N.blocks)) (le-leb _ _ N.columns)))
    (fields-pass line_record 8 (λ _. refl) (λ n. leb n h) 6 l.lines no_text (omega arith) (λ i o. le-leb _ _ (line_low p w h m wide dots i no_text o))))
    (fields-pass block_record 5 (λ _. refl) (λ n. leb n (length l.lines)) 4 l.blocks no_block (omega arith)
    (λ i o. le-leb _ _ (each_at (λ (b : Block). Inside w h b.bbox × (length b.lines ≤ length l.lines)) l.blocks (blocks-boxed p w h m wide dots) i no_block o).1)))
    (boxes-pass box_words 4 (λ _. refl) w h (λ (r : Rect). r) (λ _. (refl, refl, refl, refl)) (omega arith) l.rules no_rect (λ i o. each_at (Inside w h) l.rules (rules-inside p w h m wide dots) i no_rect o)))
    (boxes-pass box_words 4 (λ _. refl) w h (λ (r : Rect). r) (λ _. (refl, refl, refl, refl)) (omega arith) l.graphics no_rect (λ i o. each_at (Inside w h) l.graphics (graphics-inside p w h m wide dots) i no_rect o)))
    (boxes-pass glyph_record 6 (λ _. refl) w h (λ (g : GlyphBox). g.bbox) (λ _. (refl, refl, refl, refl)) (omega arith) l.glyphs no_glyph (λ i o. (each_at _ l.glyphs (glyphs-fine p w h m wide dots) i no_glyph o).0)))
    (boxes-pass line_record 8 (λ _. refl) w h (λ (t : TextLine). t.bbox) (λ _. (refl, refl, refl, refl)) (omega arith) l.lines no_text (λ i o. line-inside p w h m wide dots i no_text o)))
    (boxes-pass block_record 5 (λ _. refl) w h (λ (b : Block). b.bbox) (λ _. (refl, refl, refl, refl)) (omega arith) l.blocks no_block (λ i o. (each_at _ l.blocks (blocks-boxed p w h m wide dots) i no_block o).0)))
    (fields-pass glyph_record 6 (λ _. refl) (λ n. eqb n no_line || ltb n (length l.lines)) 5 l.glyphs no_glyph (omega arith) (λ i o. (each_at _ l.glyphs (glyphs-fine p w h m wide dots) i no_glyph o).1)))
    (fields-pass line_record 8 (λ _. refl) (λ n. ltb n (length l.blocks)) 7 l.lines no_text (omega arith) (λ i o. lt-ltb _ _ (line-block p w h m wide dots i no_text o))))
    (kinds-pass p w h m wide)

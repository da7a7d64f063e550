-- What every layout has that is not refused: no list is longer than its area (01, Limits: P, lines at most 4,095).
use mathlib.Core.Path.{◌≡◌, refl, ap, ◌∙◌}
use mathlib.Core.Bool.{Bool, true, false, cond}
use mathlib.Core.List.{List, [], ◌∷◌, ◌++◌, map}
use Prim.Native.Nat.{ℕ, suc, ◌+◌, ◌*◌, ◌≤◌}
use native.Mathlib.Omega.{arith}
use borrow.Author.Tests.{ltb-false}
use lib.Dec.{eqb}
use lib.ListN.{length, get_or, length-append, length-map}
use Rattle.memory.specs.rules.Lists.{table, upto, keep, greatest, insert_by, sort_by}
use Rattle.memory.specs.rules.Limits.{max_lines}
use Rattle.memory.specs.rules.Rects.{height}
use Rattle.memory.proofs.RefusalLaws.{refusal-passed}
use Rattle.memory.proofs.TableLaws.{length-table}
use Rattle.labelling.specs.rules.Components.{box_of, no_dots}
use Rattle.memory.specs.declared.rect.Rect.{Rect}
use Rattle.labelling.specs.declared.component.Component.{Component}
use Rattle.params.specs.declared.LayoutParams.{LayoutParams}
use Rattle.rounding.specs.rules.Lengths.{◌·◌, dots}
use Rattle.sorting.specs.rules.Kinds.{kind_of, glyph_kind, rule_kind, graphic_kind}
use Rattle.sorting.specs.rules.Sorted.{sorted, rules_of, graphics_of, boxes_of}
use Rattle.sorting.specs.rules.Units.{unit_value}
use Rattle.sorting.proofs.KindLaws.{length-plane}
use Rattle.grouping.specs.rules.Blocks.{block_firsts, blocks_of, opens_block, block_of}
use Rattle.grouping.specs.rules.Columns.{columns_of, covered, cover}
use Rattle.segmenting.specs.rules.Layouts.{layout, greatest_count, layout_refusal, text_line}
use Rattle.smoothing.specs.rules.Lines.{glyph_box, labelled_glyphs, SmoothedLine, smoothed_line, is_line, kept_lines, keys_at_most, line_keys}
use Rattle.grouping.proofs.ColumnWords.{runs-few}
use Rattle.memory.proofs.ListLaws.{keep-few}
use Rattle.smoothing.specs.stages.Segments.{smears_of, glyphs_in, lines_in}
use Rattle.store.proofs.ListLaws.{Few}

pub keep-shorter : {A : Type 0} (p : A → Bool) (l : List A) → length (keep p l) ≤ length l
unfolding keep
keep-shorter p [] = omega arith
keep-shorter p (a ∷ l) = go (p a) (keep-shorter p l)
  where
    go : (b : Bool) → length (keep p l) ≤ length l → length (cond b (a ∷ keep p l) (keep p l)) ≤ suc (length l)
    go true h = omega arith
    go false h = omega arith

insert-longer : {A : Type 0} (q : A → A → Bool) (a : A) (l : List A) → length (insert_by q a l) ≡ suc (length l)
unfolding insert_by
insert-longer q a [] = refl
insert-longer q a (b ∷ l) = go (q a b) (insert-longer q a l)
  where
    go : (t : Bool) → length (insert_by q a l) ≡ suc (length l) → length (cond t (a ∷ b ∷ l) (b ∷ insert_by q a l)) ≡ suc (suc (length l))
    go true e = refl
    go false e = ap suc e

pub sort-long : {A : Type 0} (q : A → A → Bool) (l : List A) → length (sort_by q l) ≡ length l
unfolding sort_by
sort-long q [] = refl
sort-long q (a ∷ l) = insert-longer q a (sort_by q l) ∙ ap suc (sort-long q l)

module _ (p : LayoutParams) (w h : ℕ) (m : List ℕ) where
  abbrev pub boxes_in : List Rect
  boxes_in = map (λ (l : SmoothedLine). l.bbox) (lines_in p w h m)

  pub lines_are : (layout p w h m).lines ≡ table (text_line (lines_in p w h m) (block_firsts p boxes_in)) (length (lines_in p w h m))
  unfolding layout lines_in glyphs_in smears_of
  lines_are = refl

  pub blocks-are : (layout p w h m).blocks ≡ blocks_of boxes_in (block_firsts p boxes_in)
  unfolding layout lines_in glyphs_in smears_of
  blocks-are = refl

  pub columns-are : (layout p w h m).columns ≡ columns_of p (unit_value (sorted p w h m).unit) w boxes_in
  unfolding layout lines_in glyphs_in smears_of
  columns-are = refl

  pub glyphs-are : (layout p w h m).glyphs ≡ map (glyph_box (lines_in p w h m)) (glyphs_in p w h m)
  unfolding layout lines_in glyphs_in smears_of
  glyphs-are = refl

  pub rules-are : (layout p w h m).rules ≡ rules_of p w h (sorted p w h m)
  unfolding layout
  rules-are = refl

  pub graphics-are : (layout p w h m).graphics ≡ graphics_of p w h (sorted p w h m)
  unfolding layout
  graphics-are = refl

  pub kinds-are : (layout p w h m).plane ≡ (sorted p w h m).plane
  unfolding layout
  kinds-are = refl

  pub kinds-long : length (layout p w h m).plane ≡ w * h
  kinds-long = ap length kinds-are ∙ length-plane p w h m

  -- how long each list is

  pub lines_long : length (layout p w h m).lines ≡ length (lines_in p w h m)
  lines_long = ap length lines_are ∙ length-table _ (length (lines_in p w h m))

  lines-few : length (lines_in p w h m) ≤ length (smears_of p w h m).components
  unfolding lines_in kept_lines
  lines-few =
      let smears = (smears_of p w h m).components in
      let all = table (λ t. smoothed_line (glyphs_in p w h m) (get_or smears t no_dots) (suc t)) (length smears) in
      let a = sort-long (λ (a b : SmoothedLine). keys_at_most (line_keys a) (line_keys b)) (keep (λ (l : SmoothedLine). is_line p (unit_value (sorted p w h m).unit) l.glyphs (height l.bbox)) all) in
      let b = keep-shorter (λ (l : SmoothedLine). is_line p (unit_value (sorted p w h m).unit) l.glyphs (height l.bbox)) all in
      let e = length-table (λ t. smoothed_line (glyphs_in p w h m) (get_or smears t no_dots) (suc t)) (length smears) in
      omega arith

  pub blocks-few : length (layout p w h m).blocks ≤ length (lines_in p w h m)
  unfolding blocks_of
  blocks-few =
      let fs = block_firsts p boxes_in in
      let e = ap length blocks-are in
      let a = length-map (keep (opens_block fs) (upto (length boxes_in))) (block_of boxes_in fs) in
      let b = keep-few (opens_block fs) (length boxes_in) in
      let d = length-map (lines_in p w h m) (λ (l : SmoothedLine). l.bbox) in
      omega arith

  columns-few : length (layout p w h m).columns ≤ w
  unfolding columns_of
  columns-few =
      let unit = unit_value (sorted p w h m).unit in
      let e = ap length columns-are in
      let a = runs-few (dots (p.column_gap_xh · unit)) (covered p (greatest (table (cover boxes_in) w)) boxes_in) w in
      omega arith

  glyphs-few : length (layout p w h m).glyphs ≤ length (sorted p w h m).rest.components
  unfolding glyphs_in labelled_glyphs
  glyphs-few =
      let e = ap length glyphs-are in
      let a = length-map (glyphs_in p w h m) (glyph_box (lines_in p w h m)) in
      let k = keep (λ k. eqb (get_or (sorted p w h m).kinds k 0) glyph_kind) (upto (length (sorted p w h m).rest.components)) in
      let b : length (glyphs_in p w h m) ≡ length k = length-map k _ in
      let d = keep-few (λ k. eqb (get_or (sorted p w h m).kinds k 0) glyph_kind) (length (sorted p w h m).rest.components) in
      omega arith

  boxes-few : (k : ℕ) → length (boxes_of p w h (sorted p w h m) k) ≤ length (sorted p w h m).rest.components
  unfolding boxes_of
  boxes-few k =
      let s = sorted p w h m in
      let q : Component → Bool = λ c. eqb (kind_of p (unit_value s.unit) w h c) k in
      let a = length-map (keep q s.rest.components) box_of in
      let b = keep-shorter q s.rest.components in
      omega arith

  rules-few : length (layout p w h m).rules ≤ length (sorted p w h m).horizontal.components + length (sorted p w h m).vertical.components + length (sorted p w h m).rest.components
  unfolding rules_of
  rules-few =
      let s = sorted p w h m in
      let x = map box_of s.horizontal.components in
      let y = map box_of s.vertical.components in
      let z = boxes_of p w h s rule_kind in
      let e : length (layout p w h m).rules ≡ length (x ++ y ++ z) = ap length rules-are in
      let a = length-append (x ++ y) z in
      let b = length-append x y in
      let c = length-map s.horizontal.components box_of in
      let d = length-map s.vertical.components box_of in
      let f = boxes-few rule_kind in
      omega arith

  graphics-few : length (layout p w h m).graphics ≤ length (sorted p w h m).rest.components
  unfolding graphics_of
  graphics-few = let e = ap length graphics-are in let f = boxes-few graphic_kind in omega arith

  most : (P : ℕ) → greatest_count (layout p w h m).components ≤ P
      → (length (sorted p w h m).horizontal.components ≤ P) × (length (sorted p w h m).vertical.components ≤ P) × (length (sorted p w h m).rest.components ≤ P) × (length (smears_of p w h m).components ≤ P)
  unfolding layout greatest smears_of
  most P l = (omega arith, omega arith, omega arith, omega arith)

  -- a layout that is not refused
  pub few-of : (P : ℕ) → layout_refusal P (layout p w h m) ≡ 0 → Few w P (layout p w h m)
  unfolding layout_refusal
  few-of P e =
      let a = refusal-passed _ 19 _ e in
      let b = refusal-passed _ 20 _ a.later in
      let c = most P (ltb-false P (greatest_count (layout p w h m).components) a.passed) in
      let d = ltb-false max_lines (length (layout p w h m).lines) b.passed in
      let x = lines_long in
      let y = lines-few in
      let z = c.3 in
      record {
        columns = columns-few;
        rules = let r = rules-few in let c₀ = c.0 in let c₁ = c.1 in let c₂ = c.2 in omega arith;
        graphics = let r = graphics-few in let c₂ = c.2 in omega arith;
        glyphs = let r = glyphs-few in let c₂ = c.2 in omega arith;
        lines = omega arith;
        lines-most = d;
        blocks = let r = blocks-few in omega arith;
      }

use mathlib.Core.Path.{refl, sym, ◌∙◌, subst}
use Prim.Native.Nat.{◌*◌}
use native.Mathlib.Omega.{arith}
use Rattle.sorting.specs.rules.Units.{unit_value}
use Rattle.sorting.specs.rules.Sorted.{sorted}
use Rattle.smoothing.specs.rules.Lines.{kept_lines}
use Rattle.smoothing.specs.stages.LineWords.{glyphs_of}
use Rattle.smoothing.specs.stages.Segments.{smears_of, glyph_label}
use Rattle.segmenting.specs.stages.Writing.{LinesHeld}
use Rattle.segmenting.proofs.ResultLaws.{placed}
use Rattle.segmenting.proofs.LayoutLaws.{counts-ask, boxes-ask, text-ask, group-ask, figures-ask, figures-are, results-are}
use borrow.Author.Rules.{rules}
use Rattle.segmenting.proofs.results.write_results.Goals as goal

pub result_places-places-requires : goal.result_places-places-requires
result_places-places-requires c = let R = c.requires.1 in (search rules, omega (arith, R.plane.few))

pub count_kinds-areas-requires : goal.count_kinds-areas-requires
count_kinds-areas-requires c = let R = c.requires.1 in let K = c.requires.2 in rw (K.sizes_is, K.kinds_is) (counts-ask R)

pub write_box_lists-boxes-requires : goal.write_box_lists-boxes-requires
write_box_lists-boxes-requires c = let R = c.requires.1 in let K = c.requires.2 in (boxes-ask R, K, rw c.result_places-places.ensures (placed _ _))

pub write_glyph_lines-glyphs-requires : goal.write_glyph_lines-glyphs-requires
write_glyph_lines-glyphs-requires c =
    let a = c.args in let m = c.requires.0 in let R = c.requires.1 in let K = c.requires.2 in
    let x = unit_value a.found.unit in let k₁ = c.write_box_lists-boxes.auto.results in
    let H = subst (λ n. LinesHeld a.sheet x (sorted a.sheet a.plan.width a.plan.height m).rest.components (sorted a.sheet a.plan.width a.plan.height m).kinds (glyph_label a.sheet a.plan.width a.plan.height m) (smears_of a.sheet a.plan.width a.plan.height m).components a.plan.width a.plan.height (a.plan.width * a.plan.height) a.plan.capacity a.words.now n) (sym k₁) (text-ask R x refl) in
    ((sorted a.sheet a.plan.width a.plan.height m).rest.components, (sorted a.sheet a.plan.width a.plan.height m).kinds, (glyph_label a.sheet a.plan.width a.plan.height m), (smears_of a.sheet a.plan.width a.plan.height m).components, R.figures.components_is, R.held.smears_is, H, K, rw c.result_places-places.ensures (placed _ _))

pub write_groups-groups-requires : goal.write_groups-groups-requires
write_groups-groups-requires c =
    let a = c.args in let m = c.requires.0 in let R = c.requires.1 in let K = c.requires.2 in
    let x = unit_value a.found.unit in let k₁ = c.write_box_lists-boxes.auto.results in
    let H = subst (λ n. LinesHeld a.sheet x (sorted a.sheet a.plan.width a.plan.height m).rest.components (sorted a.sheet a.plan.width a.plan.height m).kinds (glyph_label a.sheet a.plan.width a.plan.height m) (smears_of a.sheet a.plan.width a.plan.height m).components a.plan.width a.plan.height (a.plan.width * a.plan.height) a.plan.capacity a.words.now n) (sym k₁) (text-ask R x refl) in
    let T = c.write_glyph_lines-glyphs.ensures (sorted a.sheet a.plan.width a.plan.height m).rest.components (sorted a.sheet a.plan.width a.plan.height m).kinds (glyph_label a.sheet a.plan.width a.plan.height m) (smears_of a.sheet a.plan.width a.plan.height m).components R.figures.components_is R.held.smears_is H in
    ((kept_lines a.sheet x (glyphs_of (sorted a.sheet a.plan.width a.plan.height m).rest.components (sorted a.sheet a.plan.width a.plan.height m).kinds (glyph_label a.sheet a.plan.width a.plan.height m)) (smears_of a.sheet a.plan.width a.plan.height m).components), _, group-ask R x refl c.write_box_lists-boxes.new.results c.write_glyph_lines-glyphs.new.results _ k₁ (c.write_glyph_lines-glyphs.auto.results ∙ k₁) c.write_glyph_lines-glyphs.auto.words T.2, rw c.result_places-places.ensures (placed _ _))

pub figures-requires : goal.figures-requires
figures-requires c =
    let a = c.args in let m = c.requires.0 in let R = c.requires.1 in let K = c.requires.2 in
    let x = unit_value a.found.unit in let k₁ = c.write_box_lists-boxes.auto.results in
    let H = subst (λ n. LinesHeld a.sheet x (sorted a.sheet a.plan.width a.plan.height m).rest.components (sorted a.sheet a.plan.width a.plan.height m).kinds (glyph_label a.sheet a.plan.width a.plan.height m) (smears_of a.sheet a.plan.width a.plan.height m).components a.plan.width a.plan.height (a.plan.width * a.plan.height) a.plan.capacity a.words.now n) (sym k₁) (text-ask R x refl) in
    let T = c.write_glyph_lines-glyphs.ensures (sorted a.sheet a.plan.width a.plan.height m).rest.components (sorted a.sheet a.plan.width a.plan.height m).kinds (glyph_label a.sheet a.plan.width a.plan.height m) (smears_of a.sheet a.plan.width a.plan.height m).components R.figures.components_is R.held.smears_is H in
    let Q = group-ask R x refl c.write_box_lists-boxes.new.results c.write_glyph_lines-glyphs.new.results _ k₁ (c.write_glyph_lines-glyphs.auto.results ∙ k₁) c.write_glyph_lines-glyphs.auto.words T.2 in
    let g = (rw c.value-x.ensures at c.write_groups-groups.ensures) (kept_lines a.sheet x (glyphs_of (sorted a.sheet a.plan.width a.plan.height m).rest.components (sorted a.sheet a.plan.width a.plan.height m).kinds (glyph_label a.sheet a.plan.width a.plan.height m)) (smears_of a.sheet a.plan.width a.plan.height m).components) _ Q in
    let B = c.write_box_lists-boxes.ensures in let C = rw (K.sizes_is, K.kinds_is) at c.count_kinds-areas.ensures in
    figures-ask R x refl c.write_box_lists-boxes.result c.write_glyph_lines-glyphs.result c.write_groups-groups.result B.rules_is B.graphics_is T.0 g.0 g.1

pub returns : goal.returns
returns c =
    λ m R.
    let a = c.args in let K = c.requires.2 in
    let x = unit_value a.found.unit in let k₁ = c.write_box_lists-boxes.auto.results in
    let H = subst (λ n. LinesHeld a.sheet x (sorted a.sheet a.plan.width a.plan.height m).rest.components (sorted a.sheet a.plan.width a.plan.height m).kinds (glyph_label a.sheet a.plan.width a.plan.height m) (smears_of a.sheet a.plan.width a.plan.height m).components a.plan.width a.plan.height (a.plan.width * a.plan.height) a.plan.capacity a.words.now n) (sym k₁) (text-ask R x refl) in
    let T = c.write_glyph_lines-glyphs.ensures (sorted a.sheet a.plan.width a.plan.height m).rest.components (sorted a.sheet a.plan.width a.plan.height m).kinds (glyph_label a.sheet a.plan.width a.plan.height m) (smears_of a.sheet a.plan.width a.plan.height m).components R.figures.components_is R.held.smears_is H in
    let Q = group-ask R x refl c.write_box_lists-boxes.new.results c.write_glyph_lines-glyphs.new.results _ k₁ (c.write_glyph_lines-glyphs.auto.results ∙ k₁) c.write_glyph_lines-glyphs.auto.words T.2 in
    let g = (rw c.value-x.ensures at c.write_groups-groups.ensures) (kept_lines a.sheet x (glyphs_of (sorted a.sheet a.plan.width a.plan.height m).rest.components (sorted a.sheet a.plan.width a.plan.height m).kinds (glyph_label a.sheet a.plan.width a.plan.height m)) (smears_of a.sheet a.plan.width a.plan.height m).components) _ Q in
    let B = c.write_box_lists-boxes.ensures in let C = rw (K.sizes_is, K.kinds_is) at c.count_kinds-areas.ensures in
    (c.figures.ensures ∙ figures-are R x refl c.write_box_lists-boxes.result c.write_glyph_lines-glyphs.result c.write_groups-groups.result B.rules_is B.graphics_is T.0 g.0 g.1 c.count_kinds-areas.result C.0 C.1 C.2 C.3 C.4, results-are R x refl a.results.now c.write_box_lists-boxes.new.results _ B.words g.2)

use Prim.Native.Nat.{◌-◌}
use mathlib.Core.Path.{refl, ◌∙◌}
use native.Mathlib.Omega.{arith}
use lib.ListN.{length}
use borrow.Rule.Slice.PartMut.{put_mid}
use Rattle.segmenting.specs.rules.Results.{glyph_records_at}
use Rattle.segmenting.proofs.TextLaws.{text-glyphs, text-lines, text-found, text-left}
use Rattle.segmenting.proofs.text.write_glyph_lines.Goals as goal

pub order_labels-lines-requires : goal.order_labels-lines-requires
order_labels-lines-requires c = let q = c.requires in rw c.value.ensures (q.0, q.1, q.2, q.3, _, _, _, q.5, q.6, q.7)

pub offset_bounds-results-glyphs_at : goal.offset_bounds-results-glyphs_at
offset_bounds-results-glyphs_at c = let q = c.requires in omega (arith, q.6.results_room, q.8.glyphs_is, c.well_formed)

pub slice_bounds-write_glyphs-count : goal.slice_bounds-write_glyphs-count
slice_bounds-write_glyphs-count c = let q = c.requires in omega (arith, q.6.results_room, q.8.glyphs_is, c.well_formed)

pub slice_bounds-write_glyphs-start : goal.slice_bounds-write_glyphs-start
slice_bounds-write_glyphs-start c = let q = c.requires in omega (arith, q.6.results_room, q.8.glyphs_is, c.well_formed)

pub write_glyphs-glyphs-requires : goal.write_glyphs-glyphs-requires
write_glyphs-glyphs-requires c =
    let a = c.args in let q = c.requires in let K = q.7 in let J = q.8 in
    let L = (rw c.value.ensures at c.order_labels-lines.ensures) _ _ _ _ _ _ _ q.5 q.6 in
    rw (K.sizes_is, K.kinds_is, K.vertical_is, J.glyphs_is) (text-glyphs q.6 L q.4 a.results.now refl)

pub line_places-own-requires : goal.line_places-own-requires
line_places-own-requires c = let q = c.requires in let K = q.7 in (omega (arith, q.6.room, q.6.high, c.well_formed), K)

pub offset_bounds-results-lines_at : goal.offset_bounds-results-lines_at
offset_bounds-results-lines_at c = let q = c.requires in omega (arith, q.6.results_room, q.8.lines_is, c.well_formed)

pub slice_bounds-write_lines-count : goal.slice_bounds-write_lines-count
slice_bounds-write_lines-count c = let q = c.requires in omega (arith, q.6.results_room, q.8.lines_is, c.results-1.given.1)

pub slice_bounds-write_lines-start : goal.slice_bounds-write_lines-start
slice_bounds-write_lines-start c = let q = c.requires in omega (arith, q.6.results_room, q.8.lines_is, c.results-1.given.1)

pub write_lines-requires : goal.write_lines-requires
write_lines-requires c =
    let a = c.args in let q = c.requires in let K = q.7 in let J = q.8 in
    let L = (rw c.value.ensures at c.order_labels-lines.ensures) _ _ _ _ _ _ _ q.5 q.6 in
    let one = put_mid (glyph_records_at a.plan.width a.plan.capacity) (length a.results.now - glyph_records_at a.plan.width a.plan.capacity) a.results.now c.write_glyphs-glyphs.new.out in
    rw (J.lines_is, J.glyphs_is) (text-lines q.6 L q.4 q.5 c.line_places-own.result c.line_places-own.ensures one (rw J.glyphs_is at c.results-1.given.1))

pub returns : goal.returns
returns c =
    λ cs ks labels rs d e H.
    (let a = c.args in let K = c.requires.7 in let J = c.requires.8 in
    let L = (rw c.value.ensures at c.order_labels-lines.ensures) cs ks labels rs _ _ _ e H in
    let one = put_mid (glyph_records_at a.plan.width a.plan.capacity) (length a.results.now - glyph_records_at a.plan.width a.plan.capacity) a.results.now c.write_glyphs-glyphs.new.out in
    let F = rw (K.sizes_is, K.kinds_is, K.vertical_is, J.glyphs_is) at c.write_glyphs-glyphs.ensures in
    let W = rw (J.lines_is, J.glyphs_is) at c.write_lines.ensures in
    (text-found H L d a.results.now F, W.0.len ∙ L.kept.len, rw (J.lines_is, J.glyphs_is) (text-left H L d a.results.now F c.line_places-own.result c.line_places-own.ensures one _ refl W.1)))

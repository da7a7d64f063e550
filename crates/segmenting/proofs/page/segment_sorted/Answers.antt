use mathlib.Core.Path.{◌∙◌}
use Rattle.std.proofs.lemmas.Result.{err_from_is_err_and}
use Rattle.sorting.specs.stages.Scratch.{ink_after_cut}
use Rattle.segmenting.proofs.LayoutLaws.{paint-ask, kinds-painted}
use Rattle.segmenting.proofs.AnswerLaws.{page-refused, page-segmented, smears-ask, results-ask}
use Rattle.segmenting.proofs.page.segment_sorted.Goals as goal

pub find_smears-requires : goal.find_smears-requires
find_smears-requires c = let a = c.args in let R = c.requires.0 in let Q = c.requires.1 in let S = smears-ask R c.value-unit.ensures in (a.ink.now, S, R.held.figures.components_is, Q)

pub paint_kinds-requires : goal.paint_kinds-requires
paint_kinds-requires c =
    let a = c.args in let R = c.requires.0 in let K = c.requires.1 in let S = smears-ask R c.value-unit.ensures in
    let L = c.in_ok-smears.ensures a.ink.now S R.held.figures.components_is in
    let T = L.1 in
    let U = results-ask R c.find_smears.new.words _ L.0 T in
    (a.plan.width, a.plan.height, (ink_after_cut a.sheet a.plan.width a.plan.height a.ink.now), rw K.kinds_is (paint-ask U a.plane.now R.room.kinds_room))

pub write_results-requires : goal.write_results-requires
write_results-requires c =
    let a = c.args in let R = c.requires.0 in let K = c.requires.1 in let S = smears-ask R c.value-unit.ensures in
    let L = c.in_ok-smears.ensures a.ink.now S R.held.figures.components_is in
    let T = L.1 in
    let U = results-ask R c.find_smears.new.words _ L.0 T in
    (a.ink.now, U, K)

pub returns-in_err-smears : goal.returns-in_err-smears
returns-in_err-smears c =
    let a = c.args in let R = c.requires.0 in let S = smears-ask R c.value-unit.ensures in
    let L = c.in_err-smears.ensures a.ink.now S R.held.figures.components_is in
    let p = err_from_is_err_and c.from_residual.result c.from_residual.ensures.1 in
    rw (p.1, p.2) (L.0, page-refused a.sheet a.plan.width a.plan.height a.ink.now a.plan.capacity a.results.now a.plane.now R.held.few _ L.1)

pub returns : goal.returns
returns c =
    let a = c.args in let R = c.requires.0 in let K = c.requires.1 in let S = smears-ask R c.value-unit.ensures in
    let L = c.in_ok-smears.ensures a.ink.now S R.held.figures.components_is in
    let T = L.1 in
    let U = results-ask R c.find_smears.new.words _ L.0 T in
    let E = c.write_results.ensures a.ink.now U in (
      c.write_results.auto.words ∙ L.0,
      page-segmented a.sheet a.plan.width a.plan.height a.ink.now a.plan.capacity a.results.now a.plane.now R.held.few T.few T.few_lines c.write_results.result _ _ E.0 E.1
          (kinds-painted U a.plane.now _ (rw K.kinds_is at (c.paint_kinds.ensures a.plan.width a.plan.height (ink_after_cut a.sheet a.plan.width a.plan.height a.ink.now) (rw K.kinds_is (paint-ask U a.plane.now R.room.kinds_room))))),
    )

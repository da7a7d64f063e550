use Rattle.std.proofs.lemmas.Result.{err_from_is_err_and}
use Rattle.memory.proofs.RefusalLaws.{number_positive}
use mathlib.Core.Path.{refl}
use mathlib.Core.Path.{sym, ap, ◌∙◌}
use mathlib.Core.List.{List}
use native.Mathlib.Omega.{arith}
use borrow.Author.Tests.{ltb-false}
use lib.IntN.{ℤ}
use Rattle.levelling.specs.declared.Point.{Point}
use Rattle.judging.proofs.LevelLaws.{readable}
use Rattle.store.specs.rules.Readings.{LevelReading, filled, point_numbers}
use Rattle.store.specs.rules.Readings.Output.{integers}
use Rattle.store.specs.rules.Outcomes.{told}
use Rattle.store.proofs.MappingLaws.{reading-no, reading-yes}
use Rattle.store.proofs.PointLaws.{map-room, point-is, point-small, mappable}
use Rattle.store.proofs.points.to_page.Goals as goal

-- `store::points::to_page` meets its contract: one judgement, then one worker. Assumes nothing.

pub returns-in_err-judge_point : goal.returns-in_err-judge_point
returns-in_err-judge_point c =
    let p = err_from_is_err_and c.from_residual.result c.from_residual.ensures.1 in
    rw (p.1, p.2) (reading-no (LevelReading.point c.args.x c.args.y c.args.point.now) c.args.store.now _ c.in_err-judge_point.ensures (number_positive c.in_err-judge_point.field-0.0))

pub held_frame-frame-requires : goal.held_frame-frame-requires
held_frame-frame-requires c = (map-room c.args.store.now c.args.y (mappable c.args.store.now _ c.args.x c.args.y (readable c.args.store.now _ _ (sym c.in_ok-judge_point.ensures))).0).0

pub bounds-store-1 : goal.bounds-store-1
bounds-store-1 c = omega (arith, (readable c.args.store.now _ _ (sym c.in_ok-judge_point.ensures)).words)

pub to_page-p-requires : goal.to_page-p-requires
to_page-p-requires c =
    let m = map-room c.args.store.now c.args.y (mappable c.args.store.now _ c.args.x c.args.y (readable c.args.store.now _ _ (sym c.in_ok-judge_point.ensures))).0 in
    let n = c.held_frame-frame.ensures.lengths in
    (m.1, n.0, omega (arith, m.2, n.1))

pub put_point-requires : goal.put_point-requires
put_point-requires c =
    let R = readable c.args.store.now _ _ (sym c.in_ok-judge_point.ensures) in
    let f = c.held_frame-frame.ensures in
    let z = mappable c.args.store.now _ c.args.x c.args.y R in
    let p = point-small c.args.store.now c.args.x c.args.y z.0 z.1 _ _ f.shear f.shear_x _ c.to_page-p.ensures in
    (ltb-false _ _ R.enough, p.0, p.1)

pub returns : goal.returns
returns c =
    let f = c.held_frame-frame.ensures in
    let z = mappable c.args.store.now _ c.args.x c.args.y (readable c.args.store.now _ _ (sym c.in_ok-judge_point.ensures)) in
    ap (λ (z : List ℤ). told 0 0 (integers z)) c.put_point.ensures
    ∙ (ap (λ (p : Point). told 0 0 (integers (filled (point_numbers p) c.args.point.now))) (point-is c.args.store.now c.args.x c.args.y z.0 z.1 _ _ f.shear f.shear_x _ c.to_page-p.ensures)
    ∙ reading-yes (LevelReading.point c.args.x c.args.y c.args.point.now) c.args.store.now _ c.in_ok-judge_point.ensures refl)

use Rattle.std.proofs.lemmas.Result.{err_from_is_err_and}
use Rattle.memory.proofs.RefusalLaws.{number_positive}
use mathlib.Core.Path.{refl}
use mathlib.Core.Path.{sym, ap, ◌∙◌}
use mathlib.Core.List.{List}
use lib.IntN.{ℤ}
use native.Mathlib.Omega.{arith}
use borrow.Author.Tests.{ltb-false}
use Rattle.memory.specs.declared.rect.Rect.{Rect}
use Rattle.store.specs.rules.Readings.{LevelReading, filled, rect_numbers}
use Rattle.store.specs.rules.Readings.Output.{integers}
use Rattle.store.specs.rules.Outcomes.{told}
use Rattle.judging.proofs.LevelLaws.{readable}
use Rattle.store.proofs.MappingLaws.{read-room, rows_inside, box-is, box-small, reading-no, reading-yes}
use Rattle.store.proofs.mappings.rect_to_page.Goals as goal

-- `store::mappings::rect_to_page` meets its contract: one judgement, then one worker. Assumes nothing.

pub returns-in_err-judge_box : goal.returns-in_err-judge_box
returns-in_err-judge_box c =
    let p = err_from_is_err_and c.from_residual.result c.from_residual.ensures.1 in
    rw (p.1, p.2) (reading-no (LevelReading.box c.args.r c.args.rect.now) c.args.store.now _ c.in_err-judge_box.ensures (number_positive c.in_err-judge_box.field-0.0))

pub held_frame-frame-requires : goal.held_frame-frame-requires
held_frame-frame-requires c = (read-room c.args.store.now _ _ (readable c.args.store.now _ _ (sym c.in_ok-judge_box.ensures))).4

pub bounds-store-1 : goal.bounds-store-1
bounds-store-1 c = omega (arith, (readable c.args.store.now _ _ (sym c.in_ok-judge_box.ensures)).words)

pub bounds-store-2 : goal.bounds-store-2
bounds-store-2 c = omega (arith, (readable c.args.store.now _ _ (sym c.in_ok-judge_box.ensures)).words)

pub rect_to_page-page_box-requires : goal.rect_to_page-page_box-requires
rect_to_page-page_box-requires c =
    let R = readable c.args.store.now _ _ (sym c.in_ok-judge_box.ensures) in
    let r = read-room c.args.store.now _ _ R in
    let y = rows_inside c.args.store.now _ _ R c.args.r R.good in
    let n = c.held_frame-frame.ensures.lengths in
    (r.0, r.1, n.0, omega (arith, y.0, n.1), omega (arith, y.1, n.1))

pub write_box-requires : goal.write_box-requires
write_box-requires c =
    let R = readable c.args.store.now _ _ (sym c.in_ok-judge_box.ensures) in
    let f = c.held_frame-frame.ensures in
    let b = box-small c.args.store.now _ _ R _ _ f.shear f.shear_x c.args.r _ c.rect_to_page-page_box.ensures in
    (ltb-false _ _ R.enough, b.0, b.1, b.2, b.3)

pub returns : goal.returns
returns c =
    let R = readable c.args.store.now _ _ (sym c.in_ok-judge_box.ensures) in
    let f = c.held_frame-frame.ensures in
    ap (λ (z : List ℤ). told 0 0 (integers z)) c.write_box.ensures
    ∙ (ap (λ (b : Rect). told 0 0 (integers (filled (rect_numbers b) c.args.rect.now))) (box-is c.args.store.now _ _ R _ _ f.shear f.shear_x c.args.r _ c.rect_to_page-page_box.ensures)
    ∙ reading-yes (LevelReading.box c.args.r c.args.rect.now) c.args.store.now _ c.in_ok-judge_box.ensures refl)

use Rattle.std.proofs.lemmas.Result.{err_from_is_err_and}
use Rattle.memory.proofs.RefusalLaws.{number_positive}
use mathlib.Core.Path.{refl}
use Rattle.store.specs.rules.Handed.{leaf_handed}
use Rattle.store.proofs.EntryLaws.{handed-no, level-sides, level-within, level-whole, place-no, place-yes, place-done}
use Rattle.store.proofs.leaves.level.Goals as goal

-- `store::leaves::level` meets its contract: two judgements, then one worker. Assumes nothing.

pub returns-in_err-judge_leaf : goal.returns-in_err-judge_leaf
returns-in_err-judge_leaf c =
    let p = err_from_is_err_and c.from_residual.result c.from_residual.ensures.1 in
    rw (p.1, p.2) (handed-no (leaf_handed c.args.mask.now c.args.a c.args.sheet) c.args.store.now c.args.ink.now _ c.in_err-judge_leaf.ensures (number_positive c.in_err-judge_leaf.field-0.0))

pub frame_size-size-requires : goal.frame_size-size-requires
frame_size-size-requires c =
    record { sides = level-sides (leaf_handed c.args.mask.now c.args.a c.args.sheet) c.args.store.now c.args.ink.now _ c.in_ok-judge_leaf.ensures refl _ _ c.applied-skew.ensures c.applied-slope.ensures; slope = level-within (leaf_handed c.args.mask.now c.args.a c.args.sheet) c.args.store.now c.args.ink.now _ c.in_ok-judge_leaf.ensures refl _ _ c.applied-skew.ensures c.applied-slope.ensures }

pub returns-in_err-judge_place : goal.returns-in_err-judge_place
returns-in_err-judge_place c =
    let p = err_from_is_err_and c.from_residual-in_err-judge_place.result c.from_residual-in_err-judge_place.ensures.1 in
    rw (p.1, p.2) (place-no (leaf_handed c.args.mask.now c.args.a c.args.sheet) c.args.store.now c.args.ink.now _ c.in_ok-judge_leaf.ensures refl _ _ c.applied-skew.ensures c.applied-slope.ensures _ _ c.frame_size-size.ensures.sides.0 c.frame_size-size.ensures.sides.1 _ c.in_err-judge_place.ensures (number_positive c.in_err-judge_place.field-0.0))

pub write_leaf-requires : goal.write_leaf-requires
write_leaf-requires c =
    let r = place-yes (leaf_handed c.args.mask.now c.args.a c.args.sheet) c.args.store.now c.args.ink.now _ c.in_ok-judge_leaf.ensures refl _ _ c.applied-skew.ensures c.applied-slope.ensures _ _ c.frame_size-size.ensures.sides.0 c.frame_size-size.ensures.sides.1 _ c.in_ok-judge_place.ensures refl in
    record { sides = level-sides (leaf_handed c.args.mask.now c.args.a c.args.sheet) c.args.store.now c.args.ink.now _ c.in_ok-judge_leaf.ensures refl _ _ c.applied-skew.ensures c.applied-slope.ensures; slope = level-within (leaf_handed c.args.mask.now c.args.a c.args.sheet) c.args.store.now c.args.ink.now _ c.in_ok-judge_leaf.ensures refl _ _ c.applied-skew.ensures c.applied-slope.ensures; frame_sides = c.frame_size-size.ensures.sides; room = (level-whole (leaf_handed c.args.mask.now c.args.a c.args.sheet) c.args.store.now c.args.ink.now _ c.in_ok-judge_leaf.ensures refl _ _ c.applied-skew.ensures c.applied-slope.ensures, r.0, r.1) }

pub returns : goal.returns
returns c = place-done (leaf_handed c.args.mask.now c.args.a c.args.sheet) c.args.store.now c.args.ink.now _ c.in_ok-judge_leaf.ensures refl _ _ c.applied-skew.ensures c.applied-slope.ensures _ _ c.frame_size-size.ensures.sides.0 c.frame_size-size.ensures.sides.1 _ c.in_ok-judge_place.ensures refl _ _ c.write_leaf.ensures.0 c.write_leaf.ensures.1

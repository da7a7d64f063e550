use native.Mathlib.Omega.{arith}
use Rattle.segmenting.proofs.BoxLaws.{rules-room, rules-first, rules-second, rules-count, rules-written}
use Rattle.segmenting.proofs.boxes.write_rules.Goals as goal

pub unpack_boxes-requires : goal.unpack_boxes-requires
unpack_boxes-requires c = (c.requires.0, rules-room c.args.words.now c.args.plan.horizontal c.args.found.horizontal c.args.plan.vertical c.args.found.vertical c.args.plan.sizes c.args.plan.kinds c.args.found.component_count c.args.out.now c.requires.4)

pub overflow_mul-first : goal.overflow_mul-first
overflow_mul-first c = let a = rules-first c.args.words.now c.args.plan.horizontal c.args.found.horizontal c.args.plan.vertical c.args.found.vertical c.args.plan.sizes c.args.plan.kinds c.args.found.component_count c.args.out.now c.requires.4 c.unpack_boxes.new.out c.unpack_boxes.ensures in omega arith

pub offset_bounds-out-first : goal.offset_bounds-out-first
offset_bounds-out-first c = let a = rules-first c.args.words.now c.args.plan.horizontal c.args.found.horizontal c.args.plan.vertical c.args.found.vertical c.args.plan.sizes c.args.plan.kinds c.args.found.component_count c.args.out.now c.requires.4 c.unpack_boxes.new.out c.unpack_boxes.ensures in omega arith

pub slice_bounds-unpack_boxes-count : goal.slice_bounds-unpack_boxes-count
slice_bounds-unpack_boxes-count c = let a = rules-first c.args.words.now c.args.plan.horizontal c.args.found.horizontal c.args.plan.vertical c.args.found.vertical c.args.plan.sizes c.args.plan.kinds c.args.found.component_count c.args.out.now c.requires.4 c.unpack_boxes.new.out c.unpack_boxes.ensures in omega arith

pub slice_bounds-unpack_boxes-start : goal.slice_bounds-unpack_boxes-start
slice_bounds-unpack_boxes-start c = let a = rules-first c.args.words.now c.args.plan.horizontal c.args.found.horizontal c.args.plan.vertical c.args.found.vertical c.args.plan.sizes c.args.plan.kinds c.args.found.component_count c.args.out.now c.requires.4 c.unpack_boxes.new.out c.unpack_boxes.ensures in omega arith

pub slice_bounds-unpack_boxes-end : goal.slice_bounds-unpack_boxes-end
slice_bounds-unpack_boxes-end c = let a = rules-first c.args.words.now c.args.plan.horizontal c.args.found.horizontal c.args.plan.vertical c.args.found.vertical c.args.plan.sizes c.args.plan.kinds c.args.found.component_count c.args.out.now c.requires.4 c.unpack_boxes.new.out c.unpack_boxes.ensures in omega arith

pub unpack_boxes-requires-2 : goal.unpack_boxes-requires-2
unpack_boxes-requires-2 c = (c.requires.1, (rules-first c.args.words.now c.args.plan.horizontal c.args.found.horizontal c.args.plan.vertical c.args.found.vertical c.args.plan.sizes c.args.plan.kinds c.args.found.component_count c.args.out.now c.requires.4 c.unpack_boxes.new.out c.unpack_boxes.ensures).1)

pub overflow_add-cuts : goal.overflow_add-cuts
overflow_add-cuts c = let a = rules-second c.args.words.now c.args.plan.horizontal c.args.found.horizontal c.args.plan.vertical c.args.found.vertical c.args.plan.sizes c.args.plan.kinds c.args.found.component_count c.args.out.now c.requires.4 c.unpack_boxes.new.out c.unpack_boxes.ensures c.unpack_boxes-2.new.out c.unpack_boxes-2.ensures in omega arith

pub overflow_mul-second : goal.overflow_mul-second
overflow_mul-second c = let a = rules-second c.args.words.now c.args.plan.horizontal c.args.found.horizontal c.args.plan.vertical c.args.found.vertical c.args.plan.sizes c.args.plan.kinds c.args.found.component_count c.args.out.now c.requires.4 c.unpack_boxes.new.out c.unpack_boxes.ensures c.unpack_boxes-2.new.out c.unpack_boxes-2.ensures in omega arith

pub offset_bounds-out-second : goal.offset_bounds-out-second
offset_bounds-out-second c = let a = rules-second c.args.words.now c.args.plan.horizontal c.args.found.horizontal c.args.plan.vertical c.args.found.vertical c.args.plan.sizes c.args.plan.kinds c.args.found.component_count c.args.out.now c.requires.4 c.unpack_boxes.new.out c.unpack_boxes.ensures c.unpack_boxes-2.new.out c.unpack_boxes-2.ensures in omega arith

pub slice_bounds-write_boxes-count : goal.slice_bounds-write_boxes-count
slice_bounds-write_boxes-count c = let a = rules-second c.args.words.now c.args.plan.horizontal c.args.found.horizontal c.args.plan.vertical c.args.found.vertical c.args.plan.sizes c.args.plan.kinds c.args.found.component_count c.args.out.now c.requires.4 c.unpack_boxes.new.out c.unpack_boxes.ensures c.unpack_boxes-2.new.out c.unpack_boxes-2.ensures in omega arith

pub slice_bounds-write_boxes-start : goal.slice_bounds-write_boxes-start
slice_bounds-write_boxes-start c = let a = rules-second c.args.words.now c.args.plan.horizontal c.args.found.horizontal c.args.plan.vertical c.args.found.vertical c.args.plan.sizes c.args.plan.kinds c.args.found.component_count c.args.out.now c.requires.4 c.unpack_boxes.new.out c.unpack_boxes.ensures c.unpack_boxes-2.new.out c.unpack_boxes-2.ensures in omega arith

pub slice_bounds-write_boxes-end : goal.slice_bounds-write_boxes-end
slice_bounds-write_boxes-end c = let a = rules-second c.args.words.now c.args.plan.horizontal c.args.found.horizontal c.args.plan.vertical c.args.found.vertical c.args.plan.sizes c.args.plan.kinds c.args.found.component_count c.args.out.now c.requires.4 c.unpack_boxes.new.out c.unpack_boxes.ensures c.unpack_boxes-2.new.out c.unpack_boxes-2.ensures in omega arith

pub write_boxes-requires : goal.write_boxes-requires
write_boxes-requires c = (c.requires.2, c.requires.3, (rules-second c.args.words.now c.args.plan.horizontal c.args.found.horizontal c.args.plan.vertical c.args.found.vertical c.args.plan.sizes c.args.plan.kinds c.args.found.component_count c.args.out.now c.requires.4 c.unpack_boxes.new.out c.unpack_boxes.ensures c.unpack_boxes-2.new.out c.unpack_boxes-2.ensures).1)

pub overflow_add-result : goal.overflow_add-result
overflow_add-result c = let a = rules-count c.args.words.now c.args.plan.horizontal c.args.found.horizontal c.args.plan.vertical c.args.found.vertical c.args.plan.sizes c.args.plan.kinds c.args.found.component_count c.args.out.now c.requires.4 c.unpack_boxes.new.out c.unpack_boxes.ensures c.unpack_boxes-2.new.out c.unpack_boxes-2.ensures c.write_boxes.new.out c.write_boxes.result c.write_boxes.ensures.0 c.write_boxes.ensures.1 in let p = c.requires.4 in omega arith

pub returns : goal.returns
returns c = (rules-count c.args.words.now c.args.plan.horizontal c.args.found.horizontal c.args.plan.vertical c.args.found.vertical c.args.plan.sizes c.args.plan.kinds c.args.found.component_count c.args.out.now c.requires.4 c.unpack_boxes.new.out c.unpack_boxes.ensures c.unpack_boxes-2.new.out c.unpack_boxes-2.ensures c.write_boxes.new.out c.write_boxes.result c.write_boxes.ensures.0 c.write_boxes.ensures.1, rules-written c.args.words.now c.args.plan.horizontal c.args.found.horizontal c.args.plan.vertical c.args.found.vertical c.args.plan.sizes c.args.plan.kinds c.args.found.component_count c.args.out.now c.requires.4 c.unpack_boxes.new.out c.unpack_boxes.ensures c.unpack_boxes-2.new.out c.unpack_boxes-2.ensures c.write_boxes.new.out c.write_boxes.result c.write_boxes.ensures.0 c.write_boxes.ensures.1)

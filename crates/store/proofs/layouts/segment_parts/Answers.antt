use mathlib.Core.Path.{sym}
use Prim.Native.Nat.{◌*◌, ◌≤◌}
use native.Mathlib.Nat.{mul-le-mul}
use native.Mathlib.Omega.{arith}
use lib.Seq.{length-take-le}
use Rattle.memory.specs.rules.Limits.{max_frame_width, max_frame_height}
use Rattle.store.proofs.SegmentedLaws.{parts-room, parts-done}
use Rattle.store.proofs.layouts.segment_parts.Goals as goal

-- `store::layouts::segment_parts` meets its contract: three parts lent, and put back. Assumes nothing.

pub scratch_words-need-requires : goal.scratch_words-need-requires
scratch_words-need-requires c =
    let r = c.requires.segment_room.plane in
    let m : c.args.w * c.args.h ≤ max_frame_width * max_frame_height = mul-le-mul r.narrow r.low in
    omega (arith, m, c.area-dots.ensures)

pub slice_bounds-segment-end : goal.slice_bounds-segment-end
slice_bounds-segment-end c = let a = c.requires.lengths.0 in sym (length-take-le _ c.args.ink.now (let e = c.area-dots.ensures in omega arith))

pub slice_bounds-segment-end-2 : goal.slice_bounds-segment-end-2
slice_bounds-segment-end-2 c = let a = c.requires.lengths.1 in let e = c.area-dots.ensures in let n = c.scratch_words-need.ensures in omega (arith, a, e, n)

pub slice_bounds-segment-end-3 : goal.slice_bounds-segment-end-3
slice_bounds-segment-end-3 c = sym (length-take-le _ c.args.scratch.now (let a = c.requires.lengths.1 in let e = c.area-dots.ensures in let n = c.scratch_words-need.ensures in omega (arith, a, e, n)))

pub slice_bounds-segment-count : goal.slice_bounds-segment-count
slice_bounds-segment-count c = let p = c.requires.lengths.2 in omega (arith, p)

pub slice_bounds-segment-start : goal.slice_bounds-segment-start
slice_bounds-segment-start c = let p = c.requires.lengths.2 in omega (arith, p)

pub segment-requires : goal.segment-requires
segment-requires c =
    let a = c.args in
    parts-room a.sheet a.w a.h c.area-dots.result a.capacity c.scratch_words-need.result a.start a.store.now a.ink.now a.scratch.now c.area-dots.ensures c.scratch_words-need.ensures _ c.requires.segment_room

pub returns : goal.returns
returns c =
    let a = c.args in
    let p = c.requires.lengths in
    parts-done a.sheet a.w a.h c.area-dots.result a.capacity c.scratch_words-need.result a.start a.store.now a.ink.now a.scratch.now c.area-dots.ensures c.scratch_words-need.ensures a.kinds.now c.segment.result c.segment.new.results c.segment.new.plane c.segment.new.words p.2 p.1 c.segment.auto.words c.segment.ensures.1

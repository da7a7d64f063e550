use Prim.Native.Nat.{◌+◌}
use Rattle.grouping.specs.rules.Readings.{listed}
use Rattle.grouping.specs.stages.Dots.{frame_by}
use Rattle.grouping.proofs.DotLaws.{count_none, rows_start, rows_end}
use Rattle.memory.proofs.PlaceLaws.{count-gap}
use native.Mathlib.Omega.{arith}
use Rattle.grouping.proofs.dots.count_dots.Goals as goal

pub loop-y-init : goal.loop-y-init
loop-y-init c = ((let a = c.row_span-rows.ensures.first_inside in omega arith), count-gap (rows_start c.args.kinds.now c.args.kind c.row_span-rows.ensures c.requires.1.some_column) (count_none (listed (frame_by c.args.sides c.args.shear.now c.args.shear_x.now) c.args.kinds.now c.args.kind c.args.r)))

pub returns : goal.returns
returns c = count-gap (rows_end c.args.kinds.now c.args.kind c.row_span-rows.ensures c.requires.1.some_column c.loop-y.y (omega arith) c.loop-y.invariant.0) c.loop-y.invariant.1

pub returns-2 : goal.returns-2
returns-2 c = count-gap (rows_end c.args.kinds.now c.args.kind c.row_span-rows.ensures c.requires.1.some_column (c.loop-y.y + 1) (omega arith) (omega arith)) c.count_row-n.ensures

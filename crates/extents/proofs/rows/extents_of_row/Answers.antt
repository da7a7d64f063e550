use native.Mathlib.Omega.{arith}
use Rattle.extents.proofs.ExtentLaws.{row-begun, row_done}
use Rattle.extents.proofs.rows.extents_of_row.Goals as goal

pub loop-x-init : goal.loop-x-init
loop-x-init c =
    row-begun c.args.row.now _ c.single_dots.ensures

pub returns : goal.returns
returns c =
    row_done c.args.row.now c.loop-x.x c.loop-x.extents c.loop-x.invariant (omega arith)

use native.Mathlib.Omega.{arith}
use Rattle.memory.proofs.TableLaws.{table_more}
use Rattle.extents.specs.stages.Scans.{single_dot}
use Rattle.extents.proofs.ExtentLaws.{single-bit, table-begun}
use Rattle.extents.proofs.rows.single_dots.Goals as goal

pub loop-i-init : goal.loop-i-init
loop-i-init c = table-begun (single_dot c.args.row.now) c.args.extents.now

pub loop-i-preserved : goal.loop-i-preserved
loop-i-preserved c =
    let a = c.args in table_more (single_dot a.row.now) a.extents.now c.loop-i.extents c.loop-i.i _ (omega arith) c.loop-i.invariant (single-bit a.row.now c.loop-i.i)

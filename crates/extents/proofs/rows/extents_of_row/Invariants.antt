use Prim.Native.Nat.{◌-◌}
use lib.ListN.{length}
use Rattle.extents.specs.stages.Scans.{RowTo}
use Rattle.extents.proofs.rows.extents_of_row.Given as goal

abbrev pub invariant-loop-x : goal.invariant-loop-x
invariant-loop-x l = RowTo l.row l.x l.extents

abbrev pub decreases-loop-x : goal.decreases-loop-x
decreases-loop-x l = length l.row - l.x

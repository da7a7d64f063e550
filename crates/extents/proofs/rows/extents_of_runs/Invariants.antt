use Prim.Native.Nat.{◌≤◌, ◌-◌}
use lib.ListN.{length}
use Rattle.extents.specs.stages.Scans.{RowTo}
use Rattle.extents.proofs.rows.extents_of_runs.Given as goal

abbrev pub invariant-loop-s : goal.invariant-loop-s
invariant-loop-s l = (l.x ≤ l.s) × (RowTo l.row l.s l.extents)

abbrev pub decreases-loop-s : goal.decreases-loop-s
decreases-loop-s l = length l.row - l.s

use Prim.Native.Nat.{◌-◌, ◌≤◌}
use Rattle.rulings.proofs.plane.Plane.long_end.Given as goal

abbrev pub invariant-loop-b : goal.invariant-loop-b
invariant-loop-b l = (l.from ≤ l.b) × (l.b ≤ l.self.sweep.outer)

abbrev pub decreases-loop-b : goal.decreases-loop-b
decreases-loop-b l = l.self.sweep.outer - l.b

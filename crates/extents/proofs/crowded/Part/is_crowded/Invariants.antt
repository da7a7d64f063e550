use Prim.Native.Nat.{◌-◌, ◌≤◌}
use Rattle.extents.proofs.crowded.Part.is_crowded.Given as goal

abbrev pub invariant-loop-i : goal.invariant-loop-i
invariant-loop-i l = l.turns ≤ l.i - l.self.x

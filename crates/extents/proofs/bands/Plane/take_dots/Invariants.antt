use Prim.Native.Nat.{◌≤◌}
use Rattle.extents.specs.stages.Scans.{column_extent}
use Rattle.extents.specs.stages.Bands.{Put}
use Rattle.extents.proofs.bands.Plane.take_dots.Given as goal

abbrev pub invariant-loop-i : goal.invariant-loop-i
invariant-loop-i l = (l.from ≤ l.i) × Put (column_extent l.self.w l.self.h l.self.mask.now) l.i l.to l.initial.extents l.extents

use Prim.Native.Nat.{◌≤◌, ◌*◌}
use Rattle.extents.specs.stages.Scans.{column_extent}
use Rattle.extents.specs.stages.Bands.{Put}
use Rattle.extents.proofs.bands.Plane.take_band.Given as goal

abbrev pub invariant-loop-y : goal.invariant-loop-y
invariant-loop-y l = (l.start ≤ l.y) × Put (column_extent l.self.w l.self.h l.self.mask.now) (l.y * l.self.w) (l.end * l.self.w) l.initial.extents l.extents

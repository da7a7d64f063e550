use Prim.Native.Nat.{◌*◌}
use Rattle.extents.specs.stages.Scans.{capped_count}
use Rattle.extents.specs.stages.Bands.{Put}
use Rattle.extents.proofs.bands.Plane.count_band.Given as goal

abbrev pub invariant-loop-y : goal.invariant-loop-y
invariant-loop-y l = Put (capped_count l.self.w l.self.mask.now) (l.start * l.self.w) (l.y * l.self.w) l.initial.extents l.extents

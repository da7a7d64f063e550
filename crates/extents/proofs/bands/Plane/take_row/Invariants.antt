use Prim.Native.Nat.{◌+◌, ◌*◌, ◌%◌}
use Rattle.extents.specs.stages.Scans.{column_extent}
use Rattle.extents.specs.stages.Bands.{Put}
use Rattle.extents.proofs.bands.Plane.take_row.Given as goal

abbrev pub invariant-loop-chunk : goal.invariant-loop-chunk
invariant-loop-chunk l = Put (column_extent l.self.w l.self.h l.self.mask.now) (l.y * l.self.w + l.self.w % 32 + l.chunk * 32) (l.y * l.self.w + l.self.w) l.initial.extents l.extents

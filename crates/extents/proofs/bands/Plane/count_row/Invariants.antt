use Prim.Native.Nat.{◌+◌, ◌*◌}
use Rattle.extents.specs.stages.Scans.{capped_count}
use Rattle.extents.specs.stages.Bands.{Put}
use Rattle.extents.proofs.bands.Plane.count_row.Given as goal

abbrev pub invariant-loop-chunk : goal.invariant-loop-chunk
invariant-loop-chunk l = Put (capped_count l.self.w l.self.mask.now) (l.y * l.self.w) (l.y * l.self.w + l.chunk * 64) l.initial.extents l.extents

use Prim.Native.Nat.{◌+◌, ◌*◌}
use Rattle.extents.specs.stages.Scans.{short_extent_at}
use Rattle.extents.specs.stages.Bands.{Put}
use Rattle.extents.proofs.crowded.Part.short_extents.Given as goal

abbrev pub invariant-loop-chunk : goal.invariant-loop-chunk
invariant-loop-chunk l = Put (short_extent_at l.self.row.now) l.self.x (l.self.x + l.chunk * 32) l.initial.extents l.extents

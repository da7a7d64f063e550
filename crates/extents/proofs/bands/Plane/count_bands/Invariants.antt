use Prim.Native.Nat.{◌*◌}
use Rattle.extents.specs.stages.Bands.{BandsCounted}
use Rattle.extents.proofs.bands.Plane.count_bands.Given as goal

abbrev pub invariant-loop-band : goal.invariant-loop-band
invariant-loop-band l = BandsCounted l.self.w l.self.mask.now (l.band * 32) l.initial.extents l.extents

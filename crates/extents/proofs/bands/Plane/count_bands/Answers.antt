use mathlib.Core.Path.{◌≡◌}
use Prim.Native.Nat.{◌+◌, ◌*◌}
use native.Mathlib.Omega.{arith}
use Rattle.extents.proofs.BandLaws.{bands-more}
use Rattle.extents.proofs.bands.Plane.count_bands.Goals as goal

pub loop-band-preserved : goal.loop-band-preserved
loop-band-preserved c =
    let z : c.loop-band.band * 32 + 32 ≡ (c.loop-band.band + 1) * 32 = omega arith in
    rw z at (bands-more c.requires c.loop-band.invariant (omega arith) (omega arith) c.count_last_row.ensures)

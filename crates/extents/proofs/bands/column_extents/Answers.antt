use native.Mathlib.Omega.{arith}
use Prim.Native.Nat.{◌-◌, ◌*◌}
use Rattle.extents.proofs.BandLaws.{done-ends, plane-kept, band-counts, band-done, bands-done}
use Rattle.extents.proofs.bands.column_extents.Goals as goal

pub count_band-requires : goal.count_band-requires
count_band-requires c =
    let n = c.count_bands.ensures in
    (band-counts (plane-kept c.requires n.size) (done-ends c.loop-band.invariant (omega arith)) (omega arith) ((c.loop-band.band - 1) * 32) (omega arith) (omega arith), omega arith)

pub loop-band-preserved : goal.loop-band-preserved
loop-band-preserved c =
    let n = c.count_bands.ensures in
    done-ends (band-done (plane-kept c.requires n.size) (done-ends c.loop-band.invariant (omega arith)) (omega arith) ((c.loop-band.band - 1) * 32) (omega arith) (omega arith) c.count_band.ensures c.take_band.ensures) (omega arith)

pub returns : goal.returns
returns c = bands-done c.requires c.count_bands.ensures c.loop-band.invariant (omega arith)

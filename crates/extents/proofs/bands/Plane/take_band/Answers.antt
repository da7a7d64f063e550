use native.Mathlib.Omega.{arith}
use mathlib.Core.Path.{refl}
use Prim.Native.Nat.{◌≤◌, ◌-◌}
use native.Mathlib.Nat.{mul-le-mul_right}
use Rattle.extents.proofs.ExtentLaws.{row_before}
use Rattle.extents.proofs.PutLaws.{put-ends, put-more-down}
use Rattle.extents.proofs.BandLaws.{takes-row}
use Rattle.extents.proofs.bands.Plane.take_band.Goals as goal

pub take_row-requires : goal.take_row-requires
take_row-requires c =
    let p = c.requires in
    takes-row p.0 c.loop-y.invariant.1 (omega arith) (omega arith)

pub loop-y-preserved : goal.loop-y-preserved
loop-y-preserved c =
    let a = c.args in
    let b : c.loop-y.y - 1 ≤ c.loop-y.y = omega arith in
    (omega arith, put-more-down c.loop-y.invariant.1 (put-ends c.take_row.ensures refl (row_before a.self.w c.loop-y.y (omega arith))) (mul-le-mul_right a.self.w b) (mul-le-mul_right a.self.w (omega arith)))

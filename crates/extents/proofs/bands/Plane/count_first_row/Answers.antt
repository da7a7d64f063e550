use native.Mathlib.Omega.{arith}
use Rattle.extents.proofs.PutLaws.{put_up}
use Rattle.extents.proofs.BandLaws.{count-first}
use Rattle.extents.proofs.bands.Plane.count_first_row.Goals as goal

pub loop-i-preserved : goal.loop-i-preserved
loop-i-preserved c =
    let a = c.args in
    put_up _ c.loop-i.invariant (omega arith) (omega arith) (count-first a.self.w a.self.mask.now c.loop-i.i _ (omega arith) c.count_on.ensures)

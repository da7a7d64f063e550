use native.Mathlib.Omega.{arith}
use native.Mathlib.Nat.{le_refl}
use Rattle.extents.proofs.PutLaws.{put_up}
use Rattle.extents.proofs.BandLaws.{counts-next, count-below}
use Rattle.extents.proofs.bands.Plane.count_dots.Goals as goal

pub loop-i-preserved : goal.loop-i-preserved
loop-i-preserved c =
    let a = c.args in
    let p = c.requires in
    put_up _ c.loop-i.invariant (omega arith) (omega (arith, p.0.inside, p.0.room)) (count-below (counts-next a.to p.0 c.loop-i.invariant (omega arith) (omega arith) (le_refl _)) (omega (arith, p.1)) _ c.count_on.ensures)

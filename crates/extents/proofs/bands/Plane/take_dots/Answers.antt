use native.Mathlib.Omega.{arith}
use native.Mathlib.Nat.{le_refl}
use Rattle.extents.proofs.PutLaws.{put-down}
use Rattle.extents.proofs.BandLaws.{takes-next, take-above}
use Rattle.extents.proofs.bands.Plane.take_dots.Goals as goal

pub loop-i-preserved : goal.loop-i-preserved
loop-i-preserved c =
    let a = c.args in
    let p = c.requires in
    (omega arith, put-down _ c.loop-i.invariant.1 (omega arith) (omega arith) (omega (arith, p.0.inside, p.0.room)) (take-above (takes-next p.0 a.from c.loop-i.invariant.1 (le_refl _) c.loop-i.invariant.0 (omega arith)) (omega arith) (omega (arith, p.1)) _ c.taken.ensures))

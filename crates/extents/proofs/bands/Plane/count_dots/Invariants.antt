use Rattle.extents.specs.stages.Scans.{capped_count}
use Rattle.extents.specs.stages.Bands.{Put}
use Rattle.extents.proofs.bands.Plane.count_dots.Given as goal

abbrev pub invariant-loop-i : goal.invariant-loop-i
invariant-loop-i l = Put (capped_count l.self.w l.self.mask.now) l.from l.i l.initial.extents l.extents

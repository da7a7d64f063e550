use Prim.Native.Nat.{min, ◌*◌}
use Rattle.extents.proofs.BandLaws.{BandsDone}
use Rattle.extents.proofs.bands.column_extents.Given as goal

abbrev pub invariant-loop-band : goal.invariant-loop-band
invariant-loop-band l = BandsDone l.width l.height l.mask (min l.height (l.band * 32)) l.initial.extents l.extents

use Prim.Native.Nat.{◌+◌, ◌-◌}
use lib.ListN.{get_or}
use Rattle.extents.specs.stages.Bands.{Put, band_count}
use Rattle.extents.proofs.bands.add_counts.Given as goal

abbrev pub invariant-loop-i : goal.invariant-loop-i
invariant-loop-i l = Put (λ k. band_count (get_or l.counts (k - l.at) 0) (get_or l.initial.extents (l.above + (k - l.at)) 0)) l.at (l.at + l.i) l.initial.extents l.extents

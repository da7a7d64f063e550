use Prim.Native.Nat.{◌+◌}
use Rattle.extents.specs.stages.Scans.{short_extent_at}
use Rattle.extents.specs.stages.Bands.{Put}
use Rattle.extents.proofs.crowded.short_bytes.Given as goal

abbrev pub invariant-loop-k : goal.invariant-loop-k
invariant-loop-k l = Put (λ i. short_extent_at l.row (l.x + i)) 0 l.k l.initial.bytes l.bytes

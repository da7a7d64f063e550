use Prim.Native.Nat.{◌+◌, ◌-◌}
use lib.ListN.{get_or}
use Rattle.extents.specs.stages.Bands.{Put}
use Rattle.extents.proofs.chunks.widen.Given as goal

abbrev pub invariant-loop-i : goal.invariant-loop-i
invariant-loop-i l = Put (λ k. get_or l.bytes (k - l.at) 0) l.at (l.at + l.i) l.initial.extents l.extents

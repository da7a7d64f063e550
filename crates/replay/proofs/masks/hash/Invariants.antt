use Prim.Native.Nat.{◌<◌}
use Rattle.replay.proofs.masks.hash.Given as goal

abbrev pub invariant-loop-value : goal.invariant-loop-value
invariant-loop-value g l = l.h < 4294967291

use Prim.Native.Nat.{◌<◌}
use Rattle.replay.proofs.histories.hash_floats.Given as goal

abbrev pub invariant-loop-x : goal.invariant-loop-x
invariant-loop-x l = l.h < 4294967291
